use mathlib.Core.Path.{refl, sym, ap, ◌∙◌}
use mathlib.Core.List.{[]}
use native.Mathlib.Omega.{arith}
use Rattle.net.specs.Net.{said}
use Rattle.frames.specs.Control.{payload_of, newcomer, overheard_entry, overheard_frame}
use Rattle.frames.proofs.Entries.{rest_on, going_end, over_turn, over_stored, over_left, relay_is, did_none}
use Rattle.frames.proofs.control.overheard.Goals as goal
use Rattle.frames.proofs.control.overheard.Goals.{in-Free+then-is_member, in-Free+else-is_member, in_default}

pub loop-e-init : goal.loop-e-init
loop-e-init c = (
  omega arith,
  record {
    done = said c.args.s [];
    rest = record {
      turns = 32;
      enough = omega (
        arith,
        c.type_inv.p.1.1.0,
      );
      same = refl;
    };
    did = did_none _ _;
  },
)

pub loop-e-preserved : goal.loop-e-preserved
loop-e-preserved c =
    let b = c.args in
    let p = payload_of b.p.now in
    let l = c.loop-e in
    let g = l.invariant.1 in
    let via = c.relay_of-via.result in
    let h = rw c.from-n.ensures at c.loop-e-test.true in
    let rest = rest_on _ _ _ _ _ _ g.rest h in
    elim c.match-seat.branch [
      | in-Free+then-is_member w ↦
          rw (w.o-is, w.s-is) (
            omega (arith, c.type_inv.p.1.1.0, h),
            record {
              done = overheard_entry b.a p b.slot via l.e g.done;
              rest = rest;
              did = over_turn b.a p b.slot via l.e g.done g.did
                  (over_stored b.a p b.slot via l.e l.s _ _ _ _ _ _ _ _ _ _ _ c.call-call.ensures (sym c.seat_of-seat.ensures ∙ w.in-Free.is) w.index-i.ensures
                  (w.new_boat.ensures ∙ ap (newcomer p l.e) w.new_member.ensures) w.empty.ensures w.empty-in-Free.ensures w.with.ensures w.with-s.ensures
                  w.admit_events.ensures w.is_member-in-Free.ensures w.byte.ensures (rw w.if-is_member.true w.hear.ensures));
            },
          )
      | in-Free+else-is_member w ↦
          rw (w.o-is, w.s-is) (
            omega (arith, c.type_inv.p.1.1.0, h),
            record {
              done = overheard_entry b.a p b.slot via l.e g.done;
              rest = rest;
              did = over_turn b.a p b.slot via l.e g.done g.did
                  (over_stored b.a p b.slot via l.e l.s _ _ _ _ _ _ _ _ _ _ _ c.call-call.ensures (sym c.seat_of-seat.ensures ∙ w.in-Free.is) w.index-i.ensures
                  (w.new_boat.ensures ∙ ap (newcomer p l.e) w.new_member.ensures) w.empty.ensures w.empty-in-Free.ensures w.with.ensures w.with-s.ensures
                  w.admit_events.ensures w.is_member-in-Free.ensures refl (rw w.if-is_member.false));
            },
          )
      | in_default w ↦
          let d = w.in_default in
          rw (w.o-is, w.s-is) (
            omega (arith, c.type_inv.p.1.1.0, h),
            record {
              done = overheard_entry b.a p b.slot via l.e g.done;
              rest = rest;
              did = over_turn b.a p b.slot via l.e g.done g.did
                  (over_left b.a p b.slot via l.e l.s _ c.call-call.ensures (λ k q. d.not-Free k (c.seat_of-seat.ensures ∙ q)));
            },
          )
    ]

pub returns : goal.returns
unfolding overheard_frame
returns c =
    rw (← relay_is c.args.s c.args.slot _ _ _ c.index-b.ensures c.is_member.ensures c.relay_of-via.ensures)
    (going_end _ _ _ _ _ _ _ _ c.loop-e.invariant.1 (omega (arith, c.from-n.ensures)))
