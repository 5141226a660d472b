-- The code goes in one line through the station; here that comes to the stages of `ncs_next`. Assumes nothing.
use Rattle.std.proofs.Common.{◌≡◌, ℕ, zero, suc, ◌-◌, Bool, true, false, cond, not, ◌&&◌, ◌||◌, eqb, ltb, List, [], refl, ap, ◌∙◌, append_assoc, append-nil, arith, lt-ltb, ne_eqb, eqb-true, Option, Some, None}
use mathlib.Core.Bool.{or-true}
use lib.Ieee.{Float, lt, le}
use Rattle.bits.specs.Mask.{has_bit, lowest_bit}
use Rattle.bits.proofs.Lists.{cond_true, cond_false}
use Rattle.bits.proofs.Loops.{first_none}
use Rattle.bits.proofs.Laws.{has_none}
use Rattle.wire.specs.Kinds.{k_close}
use Rattle.roster.specs.declared.Member.{Member}
use Rattle.roster.specs.Members.{missed_one}
use Rattle.roster.proofs.Silent.{tally_same}
use Rattle.roster.specs.Relays.{turn_over}
use Rattle.net.specs.declared.Station.{Station}
use Rattle.net.specs.declared.Round.{Round}
use Rattle.net.specs.declared.Reply.{Reply}
use Rattle.net.specs.declared.Wait.{Wait}
use Rattle.net.specs.declared.Turn.{Turn}
use Rattle.net.specs.declared.Turn.TheVariants.{Idle, Sending, Waiting}
use Rattle.net.specs.State.{member_at, with_member, with_counted, tallied, with_wait, with_round, with_totals, with_txat, with_closing, with_rxsent, one_poll}
use Rattle.net.specs.Net.{plus, is_member, idle_wait, is_idle, Said, said, members_in}
use Rattle.net.proofs.Laws.{member_again}
use Rattle.bursts.specs.Bursts.{tiny_words, acks_burst, beacon_of, rx_list_burst, list_sent}
use Rattle.bursts.specs.Direct.{directed_to}
use Rattle.bursts.specs.Reroute.{reroute_of}
use Rattle.next.specs.declared.Due.{Due}
use Rattle.next.specs.declared.Due.TheVariants.{Free, Quiet, Close, Again, Missed}
use Rattle.next.specs.declared.Act.{Act}
use Rattle.next.specs.declared.Act.TheVariants as act
use Rattle.next.specs.Next.{silent, spoke, after, directed_by, word_by, poll_stage, drawn, draw_stage, rerouted_stage, reroute_stage, list_stage, round_end, brought_forward, act_of, act_by, act_stage, window_stage, close_stage, again_stage, missed_event, turn_over_in, missed_stage, due_turn, due_of, by_due, ncs_next}
use Rattle.next.specs.Code.Decision.{said_of, said_after, late_of, late_members, late_station, late_says, late_then, forward_to, rerouted_then, rerouting_of, list_then, round_then, stage_by, may_poll, front_of, word_or, word_for, word_then, poll_then, rest_of, next_straight}
use Rattle.next.proofs.Keeps.{acks_busy, reroute_wait, list_busy, unsent}

-- ### Tests

false_and : (a b : Bool) → a ≡ false → a && b ≡ false
false_and true b e = cc
false_and false b e = refl

true_and : (a : Bool) → a ≡ true → a && true ≡ true
true_and true e = refl
true_and false e = e

pub same_cond : {A : Type 0} (b : Bool) {x y : A} → x ≡ y → cond b x y ≡ y
same_cond true e = e
same_cond false e = refl

-- ### The poll

pub said_nil : (x : Said) → said_after x.words (said x.station []) ≡ x
said_nil x = ap (said x.station) (append-nil x.words)

-- ### Word back, and then the poll

module _ (s : Station) (a : Act) (queue : List ℕ) where
  -- nobody is polled next
  word_none : front_of s.wait s.round.list a ≡ None → word_then a s queue ≡ said s []
  word_none e = rw e

  word_to : (f : Option ℕ) (slot : ℕ) → lowest_bit s.round.list ≡ Some slot → word_or f slot s queue ≡ said_of (word_by f s queue)
  word_to None slot e = rw e
  word_to (Some i) slot e = refl

  word_front : (f : Option ℕ) → lowest_bit s.round.list ≡ f → word_for f s queue ≡ said_of (word_by (directed_by f s) s queue)
  word_front None e = rw e
  word_front (Some slot) e = word_to (directed_to s slot) slot e

  word_idle : is_idle s.wait.turn ≡ true → may_poll a ≡ true → word_then a s queue ≡ said_of (poll_stage s queue)
  unfolding poll_stage
  word_idle e f =
      let h : front_of s.wait s.round.list a ≡ lowest_bit s.round.list = rw (e, f) in
      ap (λ (g : Option ℕ). word_for g s queue) h ∙ word_front (lowest_bit s.round.list) refl

  -- after a burst nobody is
  word_busy : is_idle s.wait.turn ≡ false → word_then a s queue ≡ said s []
  word_busy e = word_none (rw e)

  word_never : may_poll a ≡ false → word_then a s queue ≡ said s []
  word_never f =
      word_none (cond_true _ _ _ (ap (λ (b : Bool). not (is_idle s.wait.turn) || not b) f ∙ or-true (not (is_idle s.wait.turn))))

pub lowest_none : lowest_bit 0 ≡ None
unfolding lowest_bit
lowest_none = first_none (has_bit 0) 64 (λ j h. has_none j)

-- nor where the list is empty
word_empty : (s : Station) (a : Act) (queue : List ℕ) → s.round.list ≡ 0 → word_then a s queue ≡ said s []
word_empty s a queue e =
    let n : lowest_bit s.round.list ≡ None = ap lowest_bit e ∙ lowest_none in
    word_none s a queue (ap (cond (not (is_idle s.wait.turn) || not (may_poll a)) None) n ∙ same_cond (not (is_idle s.wait.turn) || not (may_poll a)) refl)

then_none : (a : Act) (x : Said) (queue : List ℕ) → word_then a x.station queue ≡ said x.station [] → poll_then a x queue ≡ x
then_none a x queue e = ap (said_after x.words) e ∙ said_nil x

then_after : (a : Act) (ws : List ℕ) (x : Said) (queue : List ℕ) → poll_then a (said_after ws x) queue ≡ said_after ws (poll_then a x queue)
then_after a ws x queue = ap (said (word_then a x.station queue).station) (append_assoc ws x.words (word_then a x.station queue).words)

-- ### The end of a round

draw_then : (s : Station) (now : Float) (queue : List ℕ) → is_idle s.wait.turn ≡ true → poll_then act.Draw (said (drawn s now) []) queue ≡ said_of (draw_stage s now queue)
unfolding draw_stage
draw_then s now queue e = word_idle (drawn s now) act.Draw queue e refl

rerouted_by : (b : Bool) (ws : List ℕ) (s : Station) (now : Float) (queue : List ℕ) → is_idle s.wait.turn ≡ true
    → poll_then act.Draw (said_after ws (cond b (said (drawn s now) []) (acks_burst s))) queue ≡ said_of (after ws (cond b (draw_stage s now queue) (spoke (acks_burst s))))
rerouted_by true ws s now queue e = then_after act.Draw ws (said (drawn s now) []) queue ∙ ap (said_after ws) (draw_then s now queue e)
rerouted_by false ws s now queue e =
    then_after act.Draw ws (acks_burst s) queue ∙ ap (said_after ws) (then_none act.Draw (acks_burst s) queue (word_busy (acks_burst s).station act.Draw queue (acks_busy s)))

rerouting_by : (b : Bool) (s : Station) (now : Float) (queue : List ℕ) → is_idle s.wait.turn ≡ true → s.round.list ≡ 0
    → poll_then act.Draw (cond b (said s []) (rerouted_then (reroute_of s) now)) queue ≡ said_of (cond b (silent s) (rerouted_stage (reroute_of s) now queue))
rerouting_by true s now queue e f = then_none act.Draw (said s []) queue (word_empty s act.Draw queue f)
rerouting_by false s now queue e f =
    rerouted_by (eqb (reroute_of s).station.round.treenews 0) (reroute_of s).words (reroute_of s).station now queue (ap (λ (w : Wait). is_idle w.turn) (reroute_wait s) ∙ e)

rerouting_then : (s : Station) (now : Float) (queue : List ℕ) → is_idle s.wait.turn ≡ true → s.round.list ≡ 0
    → poll_then act.Draw (rerouting_of s now) queue ≡ said_of (reroute_stage s now queue)
unfolding rerouting_of reroute_stage
rerouting_then s now queue e f = rerouting_by (not s.round.traffic && ltb 0 s.round.number && lt now s.round.nextround) s now queue e f

module _ (s : Station) (now : Float) (queue : List ℕ) (e : is_idle s.wait.turn ≡ true) (f : s.round.list ≡ 0) where
  list_by : (b : Bool) → list_sent s ≡ b → poll_then act.Draw (list_then (rx_list_burst s) now) queue ≡ said_of (cond b (spoke (rx_list_burst s)) (reroute_stage (rx_list_burst s).station now queue))
  list_by true h =
      let x = rx_list_burst s in
      ap (λ (y : Said). poll_then act.Draw y queue) (cond_false _ _ _ (list_busy s h)) ∙ then_none act.Draw x queue (word_busy x.station act.Draw queue (list_busy s h))
  list_by false h =
      let x = rx_list_burst s in
      let u = unsent s h in
      let i : is_idle x.station.wait.turn ≡ true = ap (λ (w : Wait). is_idle w.turn) u.wait ∙ e in
      ap (λ (y : Said). poll_then act.Draw y queue) (cond_true _ _ _ i) ∙ then_after act.Draw x.words (rerouting_of x.station now) queue
      ∙ ap (λ (ws : List ℕ). said_after ws (poll_then act.Draw (rerouting_of x.station now) queue)) u.words
      ∙ rerouting_then x.station now queue i (u.list ∙ f)

list_then_lem : (s : Station) (now : Float) (queue : List ℕ) → is_idle s.wait.turn ≡ true → s.round.list ≡ 0
    → poll_then act.Draw (list_then (rx_list_burst s) now) queue ≡ said_of (list_stage s now queue)
list_then_lem s now queue e f = list_by s now queue e f (list_sent s) refl

round_by : (b : Bool) (s t : Station) (now : Float) (queue : List ℕ) → is_idle s.wait.turn ≡ true → s.round.list ≡ 0 → is_idle t.wait.turn ≡ true → t.round.list ≡ 0
    → poll_then act.Draw (cond b (rerouting_of s now) (list_then (rx_list_burst t) now)) queue ≡ said_of (cond b (reroute_stage s now queue) (list_stage t now queue))
round_by true s t now queue e f g h = rerouting_then s now queue e f
round_by false s t now queue e f g h = list_then_lem t now queue g h

round_then_lem : (s : Station) (now : Float) (queue : List ℕ) → is_idle s.wait.turn ≡ true → s.round.list ≡ 0
    → poll_then act.Draw (round_then s now) queue ≡ said_of (round_end s now queue)
unfolding round_then round_end
round_then_lem s now queue e f =
    round_by (eqb s.round.number 0 || eqb s.round.rxsent s.round.number) s (with_round s (with_rxsent s.round s.round.number)) now queue e f e f

-- ### What is to be done

act_then : (a : Act) (s : Station) (now : Float) (queue : List ℕ) → is_idle s.wait.turn ≡ true → (a ≡ act.Draw → s.round.list ≡ 0)
    → poll_then a (stage_by a s now) queue ≡ said_of (act_by a s now queue)
act_then act.Wait s now queue e f = word_never s act.Wait queue refl
act_then act.Beacon s now queue e f = then_none act.Beacon (beacon_of s now) queue (word_never (beacon_of s now).station act.Beacon queue refl)
act_then act.Acks s now queue e f = then_none act.Acks (acks_burst s) queue (word_never (acks_burst s).station act.Acks queue refl)
act_then act.Draw s now queue e f = round_then_lem s now queue e (f refl)
act_then act.Poll s now queue e f = word_idle s act.Poll queue e refl

draw_by : (a b c d : Bool) → cond a act.Beacon (cond b act.Acks (cond (not c) act.Poll (cond d act.Wait act.Draw))) ≡ act.Draw → c ≡ true
draw_by true b c d e = cc
draw_by false true c d e = cc
draw_by false false true d e = refl
draw_by false false false d e = cc

-- a list is drawn up only where none is left
draw_empty : (r : Round) (used : ℕ) (now : Float) → act_of r used now ≡ act.Draw → r.list ≡ 0
unfolding act_of
draw_empty r used now e =
    eqb-true r.list 0 (draw_by (le r.nextbeacon now) (not (eqb r.toack 0) || not (eqb r.treenews 0)) (eqb r.list 0) (eqb (members_in used) 0) e)

pub rest_quiet : (s : Station) (now : Float) (queue : List ℕ) → rest_of true s now queue ≡ said s []
rest_quiet s now queue = word_never s act.Wait queue refl

-- past the window the next beacon may come forward
abbrev windowed : Station → Float → Station
windowed s now =
    with_round s (cond (lt now s.round.windowend) s.round (forward_to s.round (plus now s.settings.quickbeacon)))

rest_act : (s : Station) (now : Float) (queue : List ℕ) → is_idle s.wait.turn ≡ true → lt now s.round.windowend ≡ false → rest_of false s now queue ≡ said_of (act_stage s now queue)
rest_act s now queue e h =
    ap (λ (a : Act). poll_then a (stage_by a s now) queue) (cond_false (lt now s.round.windowend) act.Wait (act_of s.round s.used now) h)
    ∙ act_then (act_of s.round s.used now) s now queue e (draw_empty s.round s.used now)

rest_wait : (s : Station) (now : Float) (queue : List ℕ) → lt now s.round.windowend ≡ true → rest_of false s now queue ≡ said s []
rest_wait s now queue h =
    ap (λ (a : Act). poll_then a (stage_by a s now) queue) (cond_true (lt now s.round.windowend) act.Wait (act_of s.round s.used now) h)
    ∙ word_never s act.Wait queue refl

module _ (s : Station) (now : Float) (queue : List ℕ) (e : is_idle s.wait.turn ≡ true) where
  forward_by : (c : Bool) (r : Round) → lt now s.round.windowend ≡ false → r.windowend ≡ s.round.windowend
      → rest_of false (with_round s (cond c r s.round)) now queue ≡ said_of (act_stage (cond c (with_round s r) s) now queue)
  forward_by true r h g = rest_act (with_round s r) now queue e (ap (lt now) g ∙ h)
  forward_by false r h g = rest_act s now queue e h

  window_by : (b : Bool) → lt now s.round.windowend ≡ b
      → rest_of false (with_round s (cond b s.round (forward_to s.round (plus now s.settings.quickbeacon)))) now queue ≡ said_of (cond b (silent s) (act_stage (brought_forward s now) now queue))
  window_by true h = rest_wait s now queue h
  window_by false h = forward_by s.round.activity _ h refl

rest_window : (s : Station) (now : Float) (queue : List ℕ) → is_idle s.wait.turn ≡ true → rest_of false (windowed s now) now queue ≡ said_of (window_stage s now queue)
unfolding window_stage
rest_window s now queue e = window_by s now queue e (lt now s.round.windowend) refl

-- ### What is due

-- the members that stand there, stored again
stored_again : (s : Station) (a b : ℕ) → with_member (with_member s a (member_at s a)) b (member_at (with_member s a (member_at s a)) b) ≡ s
stored_again s a b = member_again (with_member s a (member_at s a)) b ∙ member_again s a

-- and the total of silent boats with them
stored_still : (s : Station) (a b : ℕ)
    → with_totals (with_member (with_member s a (member_at s a)) b (member_at (with_member s a (member_at s a)) b)) (tallied s (member_at s a) (member_at s a)) ≡ s
stored_still s a b = rw tally_same (stored_again s a b)

stored_if : (b : Bool) (s : Station) (slot : ℕ) (m : Member) → with_member s slot (cond b m (member_at s slot)) ≡ cond b (with_member s slot m) s
stored_if true s slot m = refl
stored_if false s slot m = member_again s slot

counted_if : (b : Bool) (s : Station) (slot : ℕ) (m : Member) → with_counted s slot (cond b m (member_at s slot)) ≡ cond b (with_counted s slot m) s
counted_if true s slot m = refl
counted_if false s slot m = rw tally_same (member_again s slot)

late_quiet : (s : Station) (now : Float) (queue : List ℕ) → late_then s Quiet now queue ≡ said s []
late_quiet s now queue =
    rest_quiet (late_station s Quiet now) now queue ∙ ap (λ (t : Station). said t []) (stored_still s 63 63)

late_free : (s : Station) (now : Float) (queue : List ℕ) → is_idle s.wait.turn ≡ true → late_then s Free now queue ≡ said_of (window_stage s now queue)
late_free s now queue e =
    rest_window (with_totals (late_members s Free) (tallied s (member_at s 63) (member_at s 63))) now queue e
    ∙ ap (λ (t : Station). said_of (window_stage t now queue)) (stored_still s 63 63)

left_or : (n : ℕ) → ltb 0 n ≡ not (eqb n 0)
left_or zero = refl
left_or (suc n) = rw (lt-ltb 0 (suc n) (omega arith), ne_eqb (suc n) 0 (λ q. omega arith))

abbrev close_with : Station → Float → Bool → Bool → Said
close_with s now none left =
    said_after (cond none [] (tiny_words k_close 0 s.settings.beaconlevel))
    (said (with_round s (cond left (with_txat (with_closing s.round s.round.closed (s.round.closeleft - 1)) (plus now s.settings.maxburst)) s.round)) [])

close_by : (s : Station) (now : Float) (b : Bool)
    → close_with s now b (not b) ≡ said_of (cond b (silent s) (spoke (said (with_round s (with_txat (with_closing s.round s.round.closed (s.round.closeleft - 1)) (plus now s.settings.maxburst))) (tiny_words k_close 0 s.settings.beaconlevel))))
close_by s now true = refl
close_by s now false = refl

late_close : (s : Station) (now : Float) (queue : List ℕ) → late_then s Close now queue ≡ said_of (close_stage s now)
unfolding close_stage
late_close s now queue =
    ap (said_after (late_says s Close)) (rest_quiet (late_station s Close now) now queue)
    ∙ ap (λ (t : Station). said_after (late_says s Close) (said (with_round t (late_station s Close now).round) [])) (stored_still s 63 63)
    ∙ ap (close_with s now (eqb s.round.closeleft 0)) (left_or s.round.closeleft) ∙ close_by s now (eqb s.round.closeleft 0)

late_again : (r : Reply) (s : Station) (now : Float) (queue : List ℕ) → late_then s (Again r) now queue ≡ said_of (again_stage r s)
unfolding again_stage
late_again r s now queue =
    let l = Again r in
    let t = late_station s l now in
    ap (said_after (late_says s l)) (rest_quiet t now queue) ∙ said_nil (said t (late_says s l))
    ∙ ap (λ (u : Station). said (one_poll (with_wait u t.wait)) (late_says s l)) (stored_still s r.slot r.relayfor)

late_missed : (r : Reply) (s : Station) (now : Float) (queue : List ℕ) → late_then s (Missed r) now queue ≡ said_of (missed_stage r s now queue)
unfolding missed_stage
late_missed r s now queue =
    let t = with_wait s idle_wait in
    let here = is_member s.used r.slot in
    let u = with_counted t r.slot (cond here (missed_one (member_at t r.slot)) (member_at t r.slot)) in
    ap (said_after (missed_event s r.slot))
    (rest_window (with_totals (with_wait (late_members s (Missed r)) idle_wait) u.totals) now queue refl
    ∙ ap (λ (v : Station). said_of (window_stage v now queue))
    (stored_if (is_member s.used r.relayfor) u r.relayfor (turn_over s.hears s.used (member_at u r.relayfor) r.relayfor r.slot)
    ∙ ap (λ (v : Station). turn_over_in v r.slot r.relayfor) (counted_if here t r.slot (missed_one (member_at t r.slot)))))

late_then_lem : (d : Due) (s : Station) (now : Float) (queue : List ℕ) → (d ≡ Free → is_idle s.wait.turn ≡ true) → late_then s d now queue ≡ said_of (by_due d s now queue)
late_then_lem Free s now queue e = late_free s now queue (e refl)
late_then_lem Quiet s now queue e = late_quiet s now queue
late_then_lem Close s now queue e = late_close s now queue
late_then_lem (Again r) s now queue e = late_again r s now queue
late_then_lem (Missed r) s now queue e = late_missed r s now queue

overdue_waits : (b c : Bool) (r : Reply) → cond b Quiet (cond c (Again r) (Missed r)) ≡ Free → is_idle (Waiting r) ≡ true
overdue_waits true c r e = cc
overdue_waits false true r e = cc
overdue_waits false false r e = cc

free_by : (closed : Bool) (t : Turn) (d : Option Float) (now : Float) → cond closed Close (due_turn t d now) ≡ Free → is_idle t ≡ true
free_by true t d now e = cc
free_by false Idle d now e = refl
free_by false Sending d now e = cc
free_by false (Waiting r) None now e = cc
free_by false (Waiting r) (Some end) now e = overdue_waits (lt now end) (eqb r.tries 0) r e

-- where nothing is due, nothing is waited for
free_idle : (w : Wait) (closed : Bool) (now : Float) → due_of w closed now ≡ Free → is_idle w.turn ≡ true
unfolding due_of
free_idle w closed now e = free_by closed w.turn w.deadline now e

next_by : (ok : Bool) (s : Station) (now : Float) (queue : List ℕ)
    → late_then s (late_of (due_of s.wait s.round.closed now) ok) now queue ≡ cond ok (said_of (ncs_next s now queue)) (said s [])
unfolding ncs_next
next_by true s now queue = late_then_lem (due_of s.wait s.round.closed now) s now queue (free_idle s.wait s.round.closed now)
next_by false s now queue = late_quiet s now queue

-- the whole decision
pub next_is : (s : Station) (ok : Bool) (now : Float) (queue : List ℕ) → next_straight s ok now queue ≡ cond ok (said_of (ncs_next s now queue)) (said s [])
unfolding next_straight
next_is s ok now queue = next_by ok s now queue
