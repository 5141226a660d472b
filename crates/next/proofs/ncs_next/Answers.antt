use Rattle.std.proofs.Common.{◌≡◌, Bool, true, false, cond, [], sym, ap, ◌∙◌}
use Rattle.out.specs.declared.Output.{Output}
use Rattle.net.specs.declared.Station.{Station}
use Rattle.net.specs.State.{index_of}
use Rattle.net.specs.Net.{Does, said, is_member}
use Rattle.bursts.specs.Reroute.{source_for}
use Rattle.bursts.proofs.Directing.{directed_lt}
use Rattle.bursts.proofs.Saying.{does_as}
use Rattle.next.specs.Next.{ncs_next}
use Rattle.next.specs.Code.Decision.{act_in, word_then}
use Rattle.next.proofs.Looks.{looking_start, looking_turn, looked, to_is, source_is}
use Rattle.next.proofs.Calls.{does_none, not_said, spoken_did, not_draw, is_draw_lem, stage_by_did, laid, none_did, direct_did, poll_did, next_said}
use Rattle.next.proofs.ncs_next.Goals as goal
use Rattle.next.proofs.ncs_next.Goals.{After-front, then-asks, else-asks, then-is_said, else-is_said, then-is_draw, else-is_draw}

pub loop-j-init : goal.loop-j-init
loop-j-init c = rw c.none_seen-seen.ensures (looking_start _ _ _ c.end_of-end.ensures.most)

pub loop-j-preserved : goal.loop-j-preserved
loop-j-preserved c = looking_turn c.loop-j-test.true c.loop-j.invariant c.look-seen.ensures

pub direct_burst-s-requires : goal.direct_burst-s-requires
direct_burst-s-requires c =
    let saw = looked c.end_of-end.ensures c.loop-j-test.false c.loop-j.invariant in
    directed_lt c.if-is_draw.s c.in-Some.slot c.in-Some-to_of.to (sym (to_is saw (sym c.in-Some-to_of.is ∙ c.to_of.ensures)))

-- the stages before the poll, and what follows them
before : (c : After-front) {q : Station} {m : Output}
    → Does (word_then c.act_of-act.result c.if-is_draw.s c.args.queue.now) q c.if-is_draw.o m
    → Does (cond c.args.ok (said (ncs_next c.args.s c.args.time c.args.queue.now).station (ncs_next c.args.s c.args.time c.args.queue.now).words) (said c.args.s [])) q c.args.o.now m
before c p =
    let a = c.args in
    let st = laid a.s c.index-i.result c.late_member-k.result c.index-a.result c.late_source-c.result c.late_wait-v.result c.late_totals-u.result c.late_round-r.result in
    let act = c.act_of-act.result in
    next_said
    a.s
    a.ok
    a.time
    (record {
      due = c.due_of.ensures;
      late = c.late_of-l.ensures;
      first = c.index-i.ensures ∙ ap index_of c.slot_of-polled.ensures;
      member = c.is_member-here.ensures ∙ ap (is_member a.s.used) c.slot_of-polled.ensures;
      missed = c.late_member-k.ensures;
      second = c.index-a.ensures ∙ ap index_of c.relay_of.ensures;
      source = c.late_source-c.ensures;
      wait = c.late_wait-v.ensures;
      totals = c.late_totals-u.ensures;
      round = c.late_round-r.ensures;
      act = c.act_of-act.ensures ∙ ap (λ (b : Bool). act_in b c.late_round-r.result a.s.used a.time) c.is_quiet.ensures;
    })
    a.queue.now
    c.if-is_draw.s
    c.if-is_draw.o
    c.put_late.ensures
    (stage_by_did act st a.time c.if-is_said.s c.if-is_said.o
    (elim c.if-is_said.branch [
      | then-is_said w ↦ rw (w.s-is, w.o-is) (spoken_did act st a.time (sym c.is_said.ensures ∙ w.if-is_said.true) w.spoken-said.ensures.0 w.sending-sends.ensures w.spoken-said.ensures.1)
      | else-is_said w ↦ rw (w.s-is, w.o-is) (does_as (does_none _ _) (not_said act st a.time (sym c.is_said.ensures ∙ w.if-is_said.false)))
    ])
    (elim c.if-is_draw.branch [
      | then-is_draw w ↦ rw (w.s-is, w.o-is) (does_as w.round_end-s.ensures (is_draw_lem act c.if-is_said.s a.time (sym c.is_draw.ensures ∙ w.if-is_draw.true)))
      | else-is_draw w ↦ rw (w.s-is, w.o-is) (does_as (does_none _ _) (not_draw act c.if-is_said.s a.time (sym c.is_draw.ensures ∙ w.if-is_draw.false)))
    ]))
    p

-- nobody is polled
pub returns-in_default : goal.returns-in_default
returns-in_default c =
    before (goal.at.returns-in_default c).After-front (none_did c.act_of-act.result c.if-is_draw.s c.args.queue.now c.front.ensures c.in_default.is)

-- word goes out
pub returns-in-Some-to_of : goal.returns-in-Some-to_of
returns-in-Some-to_of c =
    let saw = looked c.end_of-end.ensures c.loop-j-test.false c.loop-j.invariant in
    before (goal.at.returns-in-Some-to_of c).After-front
    (direct_did c.act_of-act.result c.if-is_draw.s c.args.queue.now c.in-Some.slot c.in-Some-to_of.to (sym c.in-Some.is ∙ c.front.ensures)
    (to_is saw (sym c.in-Some-to_of.is ∙ c.to_of.ensures)) c.direct_burst-s.ensures)

-- the slot is polled
pub returns-after-asks : goal.returns-after-asks
returns-after-asks c =
    let saw = looked c.end_of-end.ensures c.loop-j-test.false c.loop-j.invariant in
    let source : c.if-asks.source ≡ source_for c.if-is_draw.s c.in-Some.slot =
    elim c.if-asks.branch [
      | then-asks w ↦ source_is true saw (sym c.asks.ensures ∙ w.if-asks.true) (w.source-is ∙ w.source_for-source.ensures)
      | else-asks w ↦ source_is false saw (sym c.asks.ensures ∙ w.if-asks.false) w.source-is
    ] in
    before (goal.at.returns-after-asks c).After-front
    (poll_did c.act_of-act.result c.if-is_draw.s c.args.queue.now (sym c.in-Some.is ∙ c.front.ensures) (to_is saw (sym c.in_default-to_of.is ∙ c.to_of.ensures)) source c.index-e.ensures c.is_member-here-in_default-to_of.ensures
    c.poll_burst.ensures c.poll_wait-y.ensures c.one_more-polls.ensures (rw c.from.ensures at c.without-list.ensures))
