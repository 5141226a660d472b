-- Decisions and receptions beside the monitor: what they say is accepted, and what they leave goes with the monitor's turn. Assumes nothing.
use Rattle.std.specs.Prelude.{Option, Some, None}
use mathlib.Core.Path.{◌≡◌, refl, sym, subst}
use Prim.Native.Nat.{ℕ, suc, ◌+◌, ◌≤◌, ◌<◌}
use native.Mathlib.Omega.{arith}
use mathlib.Core.Bool.{true, false}
use mathlib.Core.List.{List, [], ◌∷◌, ◌++◌}
use lib.Ieee.{Float}
use Rattle.bits.specs.Mask.{lowest_bit}
use Rattle.bits.proofs.Lists.{cond_keeps}
use Rattle.wire.specs.Kinds.{c_acks, c_tree, c_rxlist}
use Rattle.out.specs.Encode.{ctrl_words, chunk_words}
use Rattle.net.specs.declared.Station.{Station}
use Rattle.net.specs.declared.Reply.{Reply}
use Rattle.net.specs.declared.Turn.{Turn}
use Rattle.net.specs.declared.Turn.TheVariants.{Idle, Sending, Waiting}
use Rattle.net.specs.State.{member_at, with_wait, one_reply, queue_at}
use Rattle.net.specs.Net.{is_member, idle_wait, wait_of, Said}
use Rattle.bursts.specs.Rows.{ack_rows, tree_rows, list_rows, least_direct, reach_level, member_in}
use Rattle.bursts.specs.Bursts.{acked, moved_in, acked_or_moved, acks_burst, beacon_payload, beacon_acks, beacon_rows, beacon_of, list_words, acks_level}
use Rattle.bursts.specs.Reroute.{source_for}
use Rattle.bursts.specs.Direct.{direct_burst}
use Rattle.bursts.proofs.Directing.{reach_lt}
use Rattle.bursts.proofs.Masks.{mask_past}
use Rattle.next.specs.Next.{poll_of, next_number, list_for}
use Rattle.rx.specs.Ending.{turn_over_in, answer_by}
use Rattle.promise.specs.Promise.{TurnEvent, poll, over, over_if, drew_if, bursts_in}
use Rattle.promise.proofs.Monitor.{Run, rest, turn, Acc}
use Rattle.promise.proofs.TurnsWords as w
use Rattle.promise.proofs.TurnsLists.{slots_in, Low, list_once, front_low, front_off, low_without, list_none}
use Rattle.promise.proofs.TurnsKeeps.{events_mute}
use Rattle.promise.proofs.Walk.{Allowed}
use Rattle.promise.proofs.Spoken.{Sends, Spoken, again_of, reach_told}

-- the monitor's turn and the station's
abbrev pub Rel : Run → Turn → Type 0
Rel rest Idle = Unit {0}
Rel rest Sending = Unit {0}
Rel rest (Waiting r) = ⊥
Rel (turn s p a) Idle = ⊥
Rel (turn s p a) Sending = ⊥
Rel (turn s p a) (Waiting r) =
    (r.slot ≡ s) × (p ≤ r.turnbursts + r.tries + 1) × (a ≤ r.turnbursts) × (r.tries ≤ 1) × (r.turnbursts ≤ 3) × (r.slot < 62)

-- What a step returns, the station t and these events, where before it `left` was what is left of the list and r the monitor's turn: the
-- monitor's turn after it, and that what follows is accepted from before the step if it is accepted from after it.
pub record Fine (left : List ℕ) (r : Run) (t : Station) (es : List TurnEvent) : Type 0 where
  pub run : Run
  pub rel : Rel run t.wait.turn
  pub low : Low t.round.list
  pub keeps : (k : List TurnEvent) → Acc (slots_in t.round.list) run k → Acc left r (es ++ k)

-- nothing happens
pub fine_none : (r : Run) (t : Station) → Rel r t.wait.turn → Low t.round.list → Fine (slots_in t.round.list) r t []
fine_none r t e l = record { run = r; rel = e; low = l; keeps = λ k h. h }

-- from a station with the same list
fine_from : {r : Run} {t : Station} {es : List TurnEvent} (a b : ℕ) → a ≡ b → Fine (slots_in a) r t es → Fine (slots_in b) r t es
fine_from {r} {t} {es} a b e f = subst (λ (m : ℕ). Fine (slots_in m) r t es) e f

-- ### Bursts

-- no poll and no acknowledgement, in a turn or not
fine_other : (t : Station) (ws : List ℕ) (r : Run) → bursts_in ws ≡ [] → Rel r t.wait.turn → Low t.round.list
    → Fine (slots_in t.round.list) r t (bursts_in ws ++ [])
fine_other t ws r b e l = subst (λ (es : List TurnEvent). Fine (slots_in t.round.list) r t (es ++ [])) (sym b) (fine_none r t e l)

-- where no turn runs, its end is waited for
sending : (r : Run) → Rel r Idle → Rel r Sending
sending rest e = tt
sending (turn x p a) e = absurd e

pub acks_other : (s : Station) → bursts_in (acks_burst s).words ≡ []
unfolding acks_burst
acks_other s =
    w.other_burst (acks_level s) (chunk_words c_acks 18 (ack_rows s (acked s) 62) ++ chunk_words c_tree 20 (tree_rows s (acked_or_moved s) (moved_in s)))
    (w.quiet_both (chunk_words c_acks 18 (ack_rows s (acked s) 62)) (chunk_words c_tree 20 (tree_rows s (acked_or_moved s) (moved_in s)))
    (w.quiet_chunk_words c_acks 18 (ack_rows s (acked s) 62)) (w.quiet_chunk_words c_tree 20 (tree_rows s (acked_or_moved s) (moved_in s))))

pub beacon_other : (s : Station) (now : Float) → bursts_in (beacon_of s now).words ≡ []
unfolding beacon_of
beacon_other s now =
    w.other_burst s.settings.beaconlevel (ctrl_words (beacon_payload s.settings (beacon_acks s)) ++ chunk_words c_acks 18 (beacon_rows s))
    (w.quiet_both (ctrl_words (beacon_payload s.settings (beacon_acks s))) (chunk_words c_acks 18 (beacon_rows s))
    (w.quiet_ctrl (beacon_payload s.settings (beacon_acks s)))
    (w.quiet_chunk_words c_acks 18 (beacon_rows s)))

pub list_other : (s : Station) → bursts_in (list_words s) ≡ []
list_other s = w.other_burst (least_direct s) (chunk_words c_rxlist 21 (list_rows s)) (w.quiet_chunk_words c_rxlist 21 (list_rows s))

pub word_other : (s : Station) (lent : List ℕ) (slot : ℕ) → bursts_in (direct_burst s lent slot).words ≡ []
unfolding direct_burst
word_other s lent slot =
    w.down_burst_lem s.settings lent slot (queue_at s slot) (reach_level s slot)
    (reach_lt s.settings s.used (member_in s slot) (member_at s (member_in s slot).via))

-- a turn begins
fine_poll : (s : Station) (slot : ℕ) (r : Run) → lowest_bit s.round.list ≡ Some slot → Rel r Idle → Low s.round.list
    → Fine (slots_in s.round.list) r (poll_of slot (source_for s slot) s).station (bursts_in (poll_of slot (source_for s slot) s).words ++ [])
fine_poll s slot (turn x p a) e t l = absurd t
fine_poll s slot rest e t l =
    let low = front_low s.round.list l slot e in
    let b = w.poll_burst_lem s.settings (is_member s.used slot) (member_at s slot) slot (source_for s slot) false low in
    record {
      run = turn slot 1 0;
      rel = (refl, omega arith, omega arith, omega arith, omega arith, low);
      low = low_without s.round.list l slot;
      keeps = λ k h. subst (λ (es : List TurnEvent). Acc (slots_in s.round.list) rest ((es ++ []) ++ k)) (sym b)
          (subst (λ (m : List ℕ). Acc m rest (poll slot ∷ k)) (sym (front_off s.round.list l slot e)) (refl, h));
    }

-- no answer: once more
fine_again : (q : Reply) (s : Station) (r : Run) → q.tries ≡ 0 → Rel r (Waiting q) → Low s.round.list
    → Fine (slots_in s.round.list) r (again_of q s).station (bursts_in (again_of q s).words ++ [])
fine_again q s rest z e l = absurd e
fine_again q s (turn x p a) z e l =
    let b = w.poll_burst_lem s.settings (is_member s.used q.slot) (member_at s q.slot) q.slot q.relayfor true e.5 in
    record {
      run = turn x (suc p) a;
      rel = (e.0, omega arith, e.2, omega arith, e.4, e.5);
      low = l;
      keeps = λ k h. subst (λ (es : List TurnEvent). Acc (slots_in s.round.list) (turn x p a) ((es ++ []) ++ k)) (sym b) (e.0, omega arith, h);
    }

-- polled again with the acknowledgement while the turn has bursts left
fine_pollack : (q : Reply) (n heard : ℕ) (s : Station) (r : Run) → q.turnbursts < 3 → Rel r (Waiting q) → Low s.round.list
    → Fine (slots_in s.round.list) r (answer_by true q n heard s).station (bursts_in (answer_by true q n heard s).burst ++ [])
fine_pollack q n heard s rest g e l = absurd e
fine_pollack q n heard s (turn x p a) g e l =
    record {
      run = turn x p (suc a);
      rel = (e.0, omega arith, omega arith, omega arith, omega arith, e.5);
      low = l;
      keeps = λ k h. subst (λ (es : List TurnEvent). Acc (slots_in s.round.list) (turn x p a) ((es ++ []) ++ k))
          (sym (w.pollack_burst s q.slot n heard e.5)) (e.0, omega arith, h);
    }

-- what came of a turn is noted
over_alike : (s : Station) (slot source : ℕ) → ((turn_over_in s slot source).wait ≡ s.wait) × ((turn_over_in s slot source).round.list ≡ s.round.list)
over_alike s slot source =
    cond_keeps (λ t. (t.wait ≡ s.wait) × (t.round.list ≡ s.round.list)) (is_member s.used source) _ s (λ _. (refl, refl)) (λ _. (refl, refl))

-- the turn ends, with the acknowledgement or by K_IDLE
fine_ack : (q : Reply) (n heard : ℕ) (s : Station) (r : Run) → Rel r (Waiting q) → Low s.round.list
    → Fine (slots_in s.round.list) r (answer_by false q n heard s).station (bursts_in (answer_by false q n heard s).burst ++ (over q.slot ∷ []))
fine_ack q n heard s rest e l = absurd e
fine_ack q n heard s (turn x p a) e l =
    let o = over_alike (with_wait s (wait_of Sending None)) q.slot q.relayfor in
    record {
      run = rest;
      rel = subst (λ y. Rel rest y.turn) (sym o.0) tt;
      low = subst Low (sym o.1) l;
      keeps =
          λ k h. subst (λ (es : List TurnEvent). Acc (slots_in s.round.list) (turn x p a) ((es ++ (over q.slot ∷ [])) ++ k))
          (sym (w.ack_burst s q.slot n heard e.5))
          (e.0, omega arith, (e.0, subst (λ (m : ℕ). Acc (slots_in m) rest k) o.1 h));
    }

fine_idle : (q : Reply) (s : Station) (r : Run) → Rel r (Waiting q) → Low s.round.list
    → Fine (slots_in s.round.list) r (turn_over_in (one_reply (with_wait s idle_wait)) q.slot q.relayfor) (bursts_in [] ++ (over q.slot ∷ []))
unfolding bursts_in
fine_idle q s rest e l = absurd e
fine_idle q s (turn x p a) e l =
    let o = over_alike (one_reply (with_wait s idle_wait)) q.slot q.relayfor in
    record {
      run = rest;
      rel = subst (λ y. Rel rest y.turn) (sym o.0) tt;
      low = subst Low (sym o.1) l;
      keeps = λ k h. (e.0, subst (λ (m : ℕ). Acc (slots_in m) rest k) o.1 h);
    }

low_list : (s : Station) (number : ℕ) → Low (list_for s number)
unfolding list_for
low_list s number i h = mask_past _ i h

-- a list is drawn up where none is left of the last
fine_drawn : {t : Station} {es : List TurnEvent} (l m : ℕ) → l ≡ 0 → Fine (slots_in m) rest t es → Fine (slots_in l) rest t (drew_if (Some m) ++ es)
fine_drawn {t} {es} l m z f =
    record {
      run = f.run;
      rel = f.rel;
      low = f.low;
      keeps = λ k h. subst (λ (v : List ℕ). Acc v rest ((drew_if (Some m) ++ es) ++ k)) (sym (list_none l z)) (list_once m, f.keeps k h);
    }

-- ### All that is said

module _ {F : Type 0} {now : Float} {lent : List ℕ} where
  sends_fine : (A : Allowed) {s : Station} {x : Said} {o : Option ℕ} → Sends F now lent s x o → (r : Run) → Rel r s.wait.turn → Low s.round.list
      → Fine (slots_in s.round.list) r x.station (bursts_in x.words ++ over_if o)
  unfolding acks_burst beacon_of direct_burst
  sends_fine A {s} Sends.nothing r t l = fine_other s [] r w.quiet_none t l
  sends_fine A {s} Sends.closing r t l = fine_other _ _ r (w.close_burst s.settings.beaconlevel) t l
  sends_fine A {s} (Sends.again q e z) r t l = fine_again q s r z (subst (Rel r) e t) l
  sends_fine A {s} (Sends.beacon f e) r t l =
      fine_other (beacon_of s now).station (beacon_of s now).words r (beacon_other s now) (sending r (subst (Rel r) e t)) l
  sends_fine A {s} (Sends.acks f e) r t l = fine_other (acks_burst s).station (acks_burst s).words r (acks_other s) (sending r (subst (Rel r) e t)) l
  sends_fine A {s} {x} (Sends.list f e) r t l =
      let q = (reach_told A s).list in
      fine_from x.station.round.list s.round.list q
      (fine_other x.station (list_words s) r (list_other s) (sending r (subst (Rel r) e t)) (subst Low (sym q) l))
  sends_fine A {s} {x} (Sends.word f e slot here) r t l = fine_other x.station x.words r (word_other s lent slot) (sending r (subst (Rel r) e t)) l
  sends_fine A {s} (Sends.poll e slot h) r t l = fine_poll s slot r h (subst (Rel r) e t) l
  sends_fine A {s} (Sends.pollack q n heard e g) r t l = fine_pollack q n heard s r g (subst (Rel r) e t) l
  sends_fine A {s} (Sends.ack q n heard e) r t l = fine_ack q n heard s r (subst (Rel r) e t) l
  sends_fine A {s} (Sends.idle q e) r t l = fine_idle q s r (subst (Rel r) e t) l

  pub spoken_fine : {A : Allowed} {n : ℕ} {s : Station} {x : Said} {a b o : Option ℕ} → Spoken A F now lent n s x a b o → (r : Run) → Rel r s.wait.turn
      → Low s.round.list
      → Fine (slots_in s.round.list) r x.station (over_if a ++ (drew_if b ++ (bursts_in x.words ++ over_if o)))
  spoken_fine {A} (Spoken.burst k) r t l = sends_fine A k r t l
  spoken_fine {s} (Spoken.events {t = u} {x = x} {ws = ws} {m = m} {o = o} q h e k) r t l =
      subst (λ (es : List TurnEvent). Fine (slots_in s.round.list) r x.station (drew_if m ++ (es ++ over_if o)))
      (sym (w.quiet_first ws x.words (events_mute e).0))
      (fine_from u.round.list s.round.list h.list (spoken_fine k r (subst (Rel r) (sym h.turn) t) (subst Low (sym h.list) l)))
  spoken_fine {s} (Spoken.draws e z k) (turn x p a) t l = absurd (subst (Rel (turn x p a)) e t)
  spoken_fine {s} (Spoken.draws e z k) rest t l = fine_drawn s.round.list (list_for s (next_number s)) z (spoken_fine k rest t (low_list s (next_number s)))
  spoken_fine (Spoken.late q e h k) rest t l = absurd (subst (Rel rest) e t)
  spoken_fine {s} (Spoken.late {t = u} q e h k) (turn x p a) t l =
      let f = fine_from u.round.list s.round.list h.list (spoken_fine k rest (subst (Rel rest) (sym h.turn) tt) (subst Low (sym h.list) l)) in
      record { run = f.run; rel = f.rel; low = f.low; keeps = λ k h. ((subst (Rel (turn x p a)) e t).0, f.keeps k h) }
