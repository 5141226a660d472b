-- What a decision and a reception say: events, then one of the bursts or none, made by a station that a chain reaches. What holds of the events and
-- of each burst holds of all words. Assumes nothing.
use Rattle.std.specs.Prelude.{Option, Some, None}
use mathlib.Core.Path.{◌≡◌, refl, sym, ap, ◌∙◌, subst}
use mathlib.Core.Logic.{inl}
use Prim.Native.Nat.{ℕ, ◌+◌, ◌-◌, ◌/◌, ◌%◌, ◌≤◌, ◌<◌}
use native.Mathlib.Omega.{arith}
use mathlib.Core.Bool.{Bool, true, false, cond, not, ◌&&◌, ◌||◌}
use mathlib.Core.List.{List, [], ◌++◌}
use lib.Dec.{eqb, ltb}
use lib.Ieee.{Float, lt, le}
use borrow.Author.Tests.{eqb-true, ltb-true}
use Rattle.bits.specs.Mask.{has_bit, lowest_bit}
use Rattle.bits.proofs.Lists.{cond_keeps, and_true}
use Rattle.bits.proofs.Loops.{fold_keeps}
use Rattle.level.specs.declared.Level.{Level}
use Rattle.level.specs.declared.Level.TheVariants.{Unheard, Decibels}
use Rattle.wire.specs.Kinds.{tiny, k_idle, k_close}
use Rattle.words.specs.Words as words
use Rattle.words.specs.declared.Head.{Head}
use Rattle.roster.specs.Relays.{promotable_at}
use Rattle.net.specs.declared.Station.{Station}
use Rattle.net.specs.declared.Reply.{Reply}
use Rattle.net.specs.declared.Round.{Round}
use Rattle.net.specs.declared.Turn.{Turn}
use Rattle.net.specs.declared.Turn.TheVariants.{Idle, Sending, Waiting}
use Rattle.net.specs.declared.Wait.{Wait}
use Rattle.net.specs.State.{member_at, with_wait, with_round, with_txat, with_closing, with_rxsent, with_rxdirty, one_poll, one_list, one_reply}
use Rattle.net.specs.Net.{plus, is_member, members_in, wait_of, idle_wait, Said, said}
use Rattle.bursts.specs.Rows.{member_in}
use Rattle.bursts.specs.Bursts.{tiny_words, poll_burst, acks_burst, beacon_of, tell_at, tell_all, list_sent, list_told, list_words, rx_list_burst}
use Rattle.bursts.specs.Bursts as bursts
use Rattle.bursts.specs.Reroute.{floor_of, promote_with, promote_at, promote_all, leaves_of, new_relay, must_move, move_at, move_all, reroute_of, source_for}
use Rattle.bursts.specs.Direct.{directed_to, direct_burst}
use Rattle.bursts.proofs.Directing.{directed_member}
use Rattle.next.specs.declared.Due.{Due}
use Rattle.next.specs.declared.Due.TheVariants.{Free, Quiet, Close, Again, Missed}
use Rattle.next.specs.declared.Act.{Act}
use Rattle.next.specs.declared.Act.TheVariants as act
use Rattle.next.specs.Next.{Decision, spoke, after, poll_of, poll_by, directed_by, word_by, poll_stage, next_number, list_for, drawn, drew_list, draw_stage, reroute_stage, list_stage, round_end, brought_forward, act_of, act_by, window_stage, close_stage, again_stage, missed_in, missed_event, over_by, missed_stage, due_turn, due_of, by_due, ncs_next}
use Rattle.frames.specs.declared.Air.{Air}
use Rattle.frames.specs.Reading.{Reading}
use Rattle.frames.specs.Frames.{read_frames}
use Rattle.rx.specs.Ending.{Ended, turn_over_in, idle_heard, idle_by, idle_end, reply_heard, answer_by, goes_on, is_reply, reply_by, reply_end, busy_wait}
use Rattle.rx.specs.Reception.{Received, air_of, first_reading, ncs_rx}
use Rattle.promise.proofs.Walk.{Allowed, Turned, Chain, start, chain_then, turned}
use Rattle.promise.proofs.Walk as walk
use Rattle.promise.proofs.WalkNext.{none_left, fewer, calm, turn, over_walk, count, queue, told_walk, reroute_walk}
use Rattle.promise.proofs.WalkRx.{busy_turn, idle_wait_lem, idle_heard_lem, reply_heard_lem, frames_walk}
use Rattle.promise.proofs.WalkWords.{Events, most_in, missed_event_lem, reroute_events, frames_events}
use Rattle.promise.proofs.TurnsKeeps.{frames_calm}

-- ---- what is said

-- the closing burst, the second poll, the end of a reception
abbrev pub closing_of : Station → Float → Said
closing_of s now =
    said (with_round s (with_txat (with_closing s.round s.round.closed (s.round.closeleft - 1)) (plus now s.settings.maxburst)))
    (tiny_words k_close 0 s.settings.beaconlevel)

abbrev pub again_of : Reply → Station → Said
again_of r s =
    said (one_poll (with_wait s (wait_of (Waiting (record { slot = r.slot; relayfor = r.relayfor; tries = 1; turnbursts = r.turnbursts })) None)))
    (poll_burst s.settings (is_member s.used r.slot) (member_at s r.slot) r.slot r.relayfor true)

abbrev pub said_at : Ended → Said
said_at e = said e.station e.burst

-- The station s sends one burst, or none: what it leaves and its words, and the slot the waiting for whose reply ends behind it. Bursts with frames stand
-- here where F allows them.
pub data Sends (F : Type 0) (now : Float) (lent : List ℕ) (s : Station) : Said → Option ℕ → Type 0 where
  nothing : Sends F now lent s (said s []) None
  closing : Sends F now lent s (closing_of s now) None
  again : (r : Reply) → s.wait.turn ≡ Waiting r → r.tries ≡ 0 → Sends F now lent s (again_of r s) None
  beacon : F → s.wait.turn ≡ Idle → Sends F now lent s (beacon_of s now) None
  acks : F → s.wait.turn ≡ Idle → Sends F now lent s (acks_burst s) None
  list : F → s.wait.turn ≡ Idle → Sends F now lent s (said (one_list (bursts.sends (list_told s))) (list_words s)) None
  word : F → s.wait.turn ≡ Idle → (slot : ℕ) → is_member s.used slot ≡ true → Sends F now lent s (direct_burst s lent slot) None
  poll : s.wait.turn ≡ Idle → (slot : ℕ) → lowest_bit s.round.list ≡ Some slot → Sends F now lent s (poll_of slot (source_for s slot) s) None
  -- and at the end of a reception: polled again with the acknowledgement, or acknowledged; K_IDLE is not answered
  pollack : (r : Reply) (n heard : ℕ) → s.wait.turn ≡ Waiting r → r.turnbursts < 3 → Sends F now lent s (said_at (answer_by true r n heard s)) None
  ack : (r : Reply) (n heard : ℕ) → s.wait.turn ≡ Waiting r → Sends F now lent s (said_at (answer_by false r n heard s)) (Some r.slot)
  idle : (r : Reply) → s.wait.turn ≡ Waiting r
      → Sends F now lent s (said (turn_over_in (one_reply (with_wait s idle_wait)) r.slot r.relayfor) []) (Some r.slot)

-- a chain leads from s to t, whose turn is y; the list and the settings stay, and where no cell may change, which boats there are and their directed queues
pub record Reaches (A : Allowed) (s t : Station) (y : Turn) : Type 0 where
  pub chain : Chain A s t
  pub turn : t.wait.turn ≡ y
  pub list : t.round.list ≡ s.round.list
  pub settings : t.settings ≡ s.settings
  pub boats : (A.cells → ⊥) → (t.used ≡ s.used) × (t.queues ≡ s.queues)

-- What is said from the station s on, and the station left, x: n events at most, then a burst. And what the words do not show: the slot the waiting for
-- whose reply ended before them, the list that was drawn up, the slot the waiting for whose reply ends behind them.
pub data Spoken (A : Allowed) (F : Type 0) (now : Float) (lent : List ℕ) : ℕ → Station → Said → Option ℕ → Option ℕ → Option ℕ → Type 0 where
  burst : {n : ℕ} {s : Station} {x : Said} {o : Option ℕ} → Sends F now lent s x o → Spoken A F now lent n s x None None o
  events : {n k j : ℕ} {s t : Station} {x : Said} {ws : List ℕ} {m o : Option ℕ} → k + n ≤ j → Reaches A s t s.wait.turn → Events A.cells k ws
      → Spoken A F now lent n t x None m o → Spoken A F now lent j s (said x.station (ws ++ x.words)) None m o
  draws : {n : ℕ} {s : Station} {x : Said} {o : Option ℕ} → s.wait.turn ≡ Idle → s.round.list ≡ 0 → Spoken A F now lent n (drawn s now) x None None o
      → Spoken A F now lent n s x None (Some (list_for s (next_number s))) o
  late : {n : ℕ} {s t : Station} {x : Said} {m o : Option ℕ} (r : Reply) → s.wait.turn ≡ Waiting r → Reaches A s t Idle → Spoken A F now lent n t x None m o
      → Spoken A F now lent n s x (Some r.slot) m o

-- on to a station, with no event
led : {A : Allowed} {F : Type 0} {now : Float} {lent : List ℕ} {n : ℕ} {s t : Station} {x : Said} {m o : Option ℕ} → Reaches A s t s.wait.turn
    → Spoken A F now lent n t x None m o → Spoken A F now lent n s x None m o
led {n} h k = events {n = n} {k = 0} {j = n} (omega arith) h Events.none k

-- ---- it is a chain of changes

module _ (A : Allowed) (allowed : A.turns) {F : Type 0} {now : Float} {lent : List ℕ} where
  sends_walk : {s : Station} {x : Said} {o : Option ℕ} → Sends F now lent s x o → Chain A s x.station
  unfolding acks_burst beacon_of direct_burst
  sends_walk nothing = start
  sends_walk {s} closing = calm A s s _ _ refl refl refl refl start
  sends_walk {s} (again r e z) = turn A s s _ _ _ allowed (walk.goes r _ _ e) refl refl refl start
  sends_walk {s} (beacon f e) = walk.more start (turned allowed _ _ _ walk.sends (record { toack = fewer s; treenews = λ i h. inl h }) refl)
  sends_walk {s} (acks f e) =
      walk.more start (turned allowed _ _ _ walk.sends (record { toack = none_left s s.round.toack; treenews = none_left s s.round.treenews }) refl)
  sends_walk {s} (list f e) =
      turn A s (list_told s) _ _ _ allowed walk.sends refl refl refl
      (told_walk A s (with_round s (with_rxdirty s.round false)) (calm A s s _ _ refl refl refl refl start))
  sends_walk {s} (word f e slot here) = queue A s _ slot _ here (walk.sent s.round.number) (turn A s s _ _ _ allowed walk.sends refl refl refl start)
  sends_walk {s} (poll e slot h) = turn A s s _ _ _ allowed (walk.polls slot h) refl refl refl start
  sends_walk {s} (pollack r n heard e l) = turn A s s _ _ _ allowed (walk.goes r _ _ e) refl refl refl start
  sends_walk {s} (ack r n heard e) = over_walk A s s r _ _ allowed e (λ u. walk.sends) refl start
  sends_walk {s} (idle r e) = over_walk A s s r idle_wait _ allowed e (λ u. walk.ends) refl start

  pub spoken_walk : {n : ℕ} {s : Station} {x : Said} {l m o : Option ℕ} → Spoken A F now lent n s x l m o → Chain A s x.station
  spoken_walk (burst b) = sends_walk b
  spoken_walk (events q h e k) = chain_then h.chain (spoken_walk k)
  spoken_walk {s} (draws e z k) = chain_then (turn A s s _ _ _ allowed (walk.draws _) refl refl refl start) (spoken_walk k)
  spoken_walk (late r e h k) = chain_then h.chain (spoken_walk k)

-- ---- the stages before the burst leave the list, the settings, the boats and their queues alone

abbrev Same : Station → Station → Type 0
Same s t = (t.wait ≡ s.wait) × (t.round.list ≡ s.round.list) × (t.settings ≡ s.settings) × (t.used ≡ s.used) × (t.queues ≡ s.queues)

abbrev same : (s : Station) → Same s s
same s = (refl, refl, refl, refl, refl)

abbrev SameSaid : Station → Said → Type 0
SameSaid s x = Same s x.station

module _ (A : Allowed) where
  reaches : {s t : Station} → Chain A s t → Same s t → Reaches A s t s.wait.turn
  reaches c h = record { chain = c; turn = ap (λ (w : Wait). w.turn) h.0; list = h.1; settings = h.2; boats = λ _. (h.3, h.4) }

  self : (s : Station) → Reaches A s s s.wait.turn
  self s = reaches start (same s)

  promote_with_lem : (s : Station) (l : Level) (i : ℕ) (x : Said) → SameSaid s x → SameSaid s (promote_with l i x)
  promote_with_lem s Unheard i x h = h
  promote_with_lem s (Decibels snr) i x h = h

  promote_same : (s : Station) (floor : Float) (i : ℕ) (x : Said) → SameSaid s x → SameSaid s (promote_at floor i x)
  unfolding promote_at
  promote_same s floor i x h = promote_with_lem s (promotable_at (has_bit x.station.used i) (member_in x.station i) floor) i x h

  move_same : (s : Station) (leaves c : ℕ) (x : Said) → SameSaid s x → SameSaid s (move_at leaves c x)
  unfolding move_at
  move_same s leaves c x h =
      cond_keeps (SameSaid s) (must_move leaves x.station c) _ x
      (λ _. cond_keeps (SameSaid s) (eqb (new_relay x.station c) 63) x _ (λ _. h) (λ _. h)) (λ _. h)

  reach_rerouted : (s : Station) → Reaches A s (reroute_of s).station s.wait.turn
  unfolding reroute_of move_all promote_all
  reach_rerouted s =
      reaches (reroute_walk A s)
      (fold_keeps (SameSaid s) (move_at (leaves_of (promote_all s).station)) (move_same s (leaves_of (promote_all s).station)) 62 0 (promote_all s)
      (fold_keeps (SameSaid s) (promote_at (floor_of s)) (promote_same s (floor_of s)) 62 0 (said s []) (same s)))

  pub reach_told : (s : Station) → Reaches A s (list_told s) s.wait.turn
  unfolding tell_all
  reach_told s =
      let u = with_round s (with_rxdirty s.round false) in
      reaches (told_walk A s u (calm A s s _ _ refl refl refl refl start))
      (fold_keeps (Same s) tell_at (λ i t h. h) 62 0 u (same s))

  reach_brought_forward : (s : Station) (now : Float) → Reaches A s (brought_forward s now) s.wait.turn
  reach_brought_forward s now =
      cond_keeps (λ (t : Station). Reaches A s t s.wait.turn) s.round.activity _ s
      (λ _. reaches (calm A s s _ _ refl refl refl refl start) (same s)) (λ _. self s)

  -- no answer again: the missed poll counts, the waiting ends, and what came of the turn is noted
  reach_late : A.turns → (s : Station) (r : Reply) → s.wait.turn ≡ Waiting r
      → Reaches A s (turn_over_in (missed_in (with_wait s idle_wait) r.slot) r.slot r.relayfor) Idle
  reach_late allowed s r e =
      let w = with_wait s idle_wait in
      let v = missed_in w r.slot in
      let a : Same w v = cond_keeps (Same w) (is_member s.used r.slot) _ w (λ _. same w) (λ _. same w) in
      let b : Same w (turn_over_in v r.slot r.relayfor) = cond_keeps (Same w) (is_member v.used r.relayfor) _ v (λ _. a) (λ _. a) in
      record {
        chain = cond_keeps (λ (t : Station). Chain A s (turn_over_in t r.slot r.relayfor)) (is_member s.used r.slot) _ (with_wait s idle_wait)
            (λ here. over_walk A s _ r idle_wait _ allowed e (λ u. walk.ends) refl (count A s s r.slot (member_at s r.slot) _ here walk.none start))
            (λ _. over_walk A s s r idle_wait s.totals allowed e (λ u. walk.ends) refl start);
        turn = ap (λ (v : Wait). v.turn) b.0;
        list = b.1;
        settings = b.2;
        boats = λ _. (b.3, b.4);
      }

-- ---- the next decision

-- what is due goes with the turn
abbrev Runs : Due → Turn → Type 0
Runs Free y = y ≡ Idle
Runs Quiet y = Unit {0}
Runs Close y = Unit {0}
Runs (Again r) y = (y ≡ Waiting r) × (r.tries ≡ 0)
Runs (Missed r) y = y ≡ Waiting r

overdue_runs : (b c : Bool) (r : Reply) → eqb r.tries 0 ≡ c → Runs (cond b Quiet (cond c (Again r) (Missed r))) (Waiting r)
overdue_runs true c r e = tt
overdue_runs false true r e = (refl, eqb-true r.tries 0 e)
overdue_runs false false r e = refl

turn_runs : (closed : Bool) (y : Turn) (d : Option Float) (now : Float) → Runs (cond closed Close (due_turn y d now)) y
turn_runs true y d now = tt
turn_runs false Idle d now = refl
turn_runs false Sending d now = tt
turn_runs false (Waiting r) None now = tt
turn_runs false (Waiting r) (Some end) now = overdue_runs (lt now end) (eqb r.tries 0) r refl

-- a list is drawn up where none is left of the last
draws_by : (b c d e : Bool) → cond b act.Beacon (cond c act.Acks (cond (not d) act.Poll (cond e act.Wait act.Draw))) ≡ act.Draw → d ≡ true
draws_by true c d e q = let z : ◌≡◌ {A = ℕ} 0 1 = cc in absurd (omega arith)
draws_by false true d e q = let z : ◌≡◌ {A = ℕ} 0 1 = cc in absurd (omega arith)
draws_by false false true e q = refl
draws_by false false false e q = let z : ◌≡◌ {A = ℕ} 0 1 = cc in absurd (omega arith)

draws_none : (r : Round) (used : ℕ) (now : Float) → act_of r used now ≡ act.Draw → r.list ≡ 0
unfolding act_of
draws_none r used now q =
    eqb-true r.list 0 (draws_by (le r.nextbeacon now) (not (eqb r.toack 0) || not (eqb r.treenews 0)) (eqb r.list 0) (eqb (members_in used) 0) q)

-- Each stage by itself, handed what its decision is to have (P) and that any decision so spoken has it (f).
module _ (A : Allowed) (allowed : A.turns) (now : Float) (lent : List ℕ) where
  abbrev F : Type 0
  F = Unit {0}

  module _ (s : Station) (P : Decision → Type 0) (still : s.wait.turn ≡ Idle) (f : (x : Said) → Sends F now lent s x None → P (spoke x)) where
    poll_by_lem : (g : Option ℕ) → lowest_bit s.round.list ≡ g → P (poll_by g s)
    poll_by_lem None e = f _ nothing
    poll_by_lem (Some slot) e = f _ (poll still slot e)

    word_by_lem : (g : Option ℕ) → ((i : ℕ) → g ≡ Some i → is_member s.used i ≡ true) → P (word_by g s lent)
    word_by_lem None h = poll_by_lem (lowest_bit s.round.list) refl
    word_by_lem (Some i) h = f _ (word tt still i (h i refl))

    front_by_lem : (g : Option ℕ) → P (word_by (directed_by g s) s lent)
    front_by_lem None = poll_by_lem (lowest_bit s.round.list) refl
    front_by_lem (Some slot) = word_by_lem (directed_to s slot) (λ i e. directed_member s slot i e)

    poll_stage_lem : P (poll_stage s lent)
    unfolding poll_stage
    poll_stage_lem = front_by_lem (lowest_bit s.round.list)

  abbrev Leads : ℕ → Station → (Decision → Type 0) → Type 0
  Leads n s P = (x : Said) (m : Option ℕ) → Spoken A F now lent n s x None m None → P (record { station = x.station; words = x.words; over = None; drew = m })

  draw_stage_lem : (n : ℕ) (s : Station) (P : Decision → Type 0) → s.wait.turn ≡ Idle → s.round.list ≡ 0 → Leads n s P → P (draw_stage s now lent)
  unfolding draw_stage
  draw_stage_lem n s P e z f =
      let l = list_for s (next_number s) in
      poll_stage_lem (drawn s now) (λ d. P (drew_list l d)) e (λ x b. f x (Some l) (draws e z (burst b)))

  reroute_stage_lem : (s : Station) (P : Decision → Type 0) → s.wait.turn ≡ Idle → s.round.list ≡ 0 → Leads 124 s P → P (reroute_stage s now lent)
  unfolding reroute_stage
  reroute_stage_lem s P e z f =
      let u = (reroute_of s).station in
      let h = reach_rerouted A s in
      let Q : Decision → Type 0 = λ d. P (after (reroute_of s).words d) in
      let g : Leads 0 u Q = λ x m k. f _ m (events (omega arith) h (reroute_events A.cells s) k) in
      cond_keeps P (not s.round.traffic && ltb 0 s.round.number && lt now s.round.nextround) _ _ (λ _. f _ None (burst nothing))
      (λ _. cond_keeps Q (eqb u.round.treenews 0) _ _ (λ _. draw_stage_lem 0 u Q (h.turn ∙ e) (h.list ∙ z) g) (λ _. g _ None (burst (acks tt (h.turn ∙ e)))))

  list_stage_lem : (s : Station) (P : Decision → Type 0) → s.wait.turn ≡ Idle → s.round.list ≡ 0 → Leads 124 s P → P (list_stage s now lent)
  unfolding rx_list_burst
  list_stage_lem s P e z f = by (list_sent s)
    where
      t : Station
      t = list_told s

      x : Said
      x = said (one_list (bursts.sends t)) (list_words s)

      by : (b : Bool) → P (cond b (spoke (cond b x (said t []))) (reroute_stage (cond b x (said t [])).station now lent))
      by true = f _ None (burst (list tt e))
      by false =
          let h = reach_told A s in
          reroute_stage_lem t P (h.turn ∙ e) (h.list ∙ z) (λ y m k. f y m (led h k))

  round_end_lem : (s : Station) (P : Decision → Type 0) → s.wait.turn ≡ Idle → s.round.list ≡ 0 → Leads 124 s P → P (round_end s now lent)
  unfolding round_end
  round_end_lem s P e z f =
      let u = with_round s (with_rxsent s.round s.round.number) in
      let h : Reaches A s u s.wait.turn = reaches A (calm A s s _ _ refl refl refl refl start) (same s) in
      cond_keeps P (eqb s.round.number 0 || eqb s.round.rxsent s.round.number) _ _ (λ _. reroute_stage_lem s P e z f)
      (λ _. list_stage_lem u P e z (λ x m k. f x m (led h k)))

  act_by_lem : (a : Act) (s : Station) (P : Decision → Type 0) → act_of s.round s.used now ≡ a → s.wait.turn ≡ Idle → Leads 124 s P → P (act_by a s now lent)
  act_by_lem act.Wait s P q e f = f _ None (burst nothing)
  act_by_lem act.Beacon s P q e f = f _ None (burst (beacon tt e))
  act_by_lem act.Acks s P q e f = f _ None (burst (acks tt e))
  act_by_lem act.Draw s P q e f = round_end_lem s P e (draws_none s.round s.used now q) f
  act_by_lem act.Poll s P q e f = poll_stage_lem s P e (λ x b. f x None (burst b))

  window_stage_lem : (s : Station) (P : Decision → Type 0) → s.wait.turn ≡ Idle → Leads 124 s P → P (window_stage s now lent)
  unfolding window_stage
  window_stage_lem s P e f =
      let t = brought_forward s now in
      let h = reach_brought_forward A s now in
      cond_keeps P (lt now s.round.windowend) _ _ (λ _. f _ None (burst nothing))
      (λ _. act_by_lem (act_of t.round t.used now) t P refl (h.turn ∙ e) (λ x m k. f x m (led h k)))

  module _ (s : Station) where
    abbrev Says : Decision → Type 0
    Says d = Spoken A F now lent 125 s (said d.station d.words) d.over d.drew None

    by_due_lem : (d : Due) → Runs d s.wait.turn → Says (by_due d s now lent)
    unfolding close_stage again_stage missed_stage
    by_due_lem Free e = window_stage_lem s Says e (λ x m k. events {n = 124} {k = 1} (omega arith) (self A s) Events.none k)
    by_due_lem Quiet e = burst nothing
    by_due_lem Close e = cond_keeps Says (eqb s.round.closeleft 0) _ _ (λ _. burst nothing) (λ _. burst closing)
    by_due_lem (Again r) e = burst (again r e.0 e.1)
    by_due_lem (Missed r) e =
        let h = reach_late A allowed s r e in
        let u = turn_over_in (missed_in (with_wait s idle_wait) r.slot) r.slot r.relayfor in
        window_stage_lem u (λ d. Says (over_by r.slot (after (missed_event s r.slot) d))) h.turn
        (λ x m k. late r e h (events {k = 1} (omega arith) (self A u)
        (cond_keeps (Events A.cells 1) (is_member s.used r.slot) _ [] (λ _. missed_event_lem A.cells r.slot) (λ _. Events.none)) k))

    pub next_spoken : Says (ncs_next s now lent)
    unfolding ncs_next due_of
    next_spoken = by_due_lem (due_of s.wait s.round.closed now) (turn_runs s.round.closed s.wait.turn s.wait.deadline now)

-- ---- a reception

module _ (A : Allowed) (allowed : A.turns) (now : Float) (lent : List ℕ) where
  module _ (n : ℕ) (a : Air) (ok : A.level a.level) where
    abbrev Ends : Station → Ended → Type 0
    Ends s e = Spoken A ⊥ now lent n s (said_at e) None None e.over

    idle_by_lem : (y : Turn) (slot : ℕ) (s : Station) → s.wait.turn ≡ y → Ends s (idle_by y slot s)
    idle_by_lem Idle slot s e = burst nothing
    idle_by_lem Sending slot s e = burst nothing
    idle_by_lem (Waiting r) slot s e =
        cond_keeps (Ends s) (eqb r.slot slot) _ _
        (λ q. subst (λ (i : ℕ). Spoken A ⊥ now lent n s (said (turn_over_in (one_reply (with_wait s idle_wait)) i r.relayfor) []) None None (Some i))
        (eqb-true r.slot slot q)
        (burst (idle r e))) (λ _. burst nothing)

    pub idle_spoken : (extra : ℕ) (s : Station) → Ends s (idle_end a extra s)
    unfolding idle_end
    idle_spoken extra s =
        let t = idle_heard a extra s in
        let w = ap (λ (v : Wait). v.turn) (idle_wait_lem a extra s) in
        let b : Same s t = cond_keeps (Same s) (is_member s.used (extra % 64)) _ s (λ _. same s) (λ _. same s) in
        led (reaches A (idle_heard_lem A a ok allowed s extra s start) b) (idle_by_lem s.wait.turn (extra % 64) t w)

    answer_by_lem : (b : Bool) (r : Reply) (i heard : ℕ) (s : Station) → (b ≡ true → r.turnbursts < 3) → s.wait.turn ≡ Waiting r
        → Ends s (answer_by b r i heard s)
    answer_by_lem true r i heard s l e = burst (pollack r i heard e (l refl))
    answer_by_lem false r i heard s l e = burst (ack r i heard e)

    reply_by_lem : (y : Turn) (h : Head) (x : Reading) → x.station.wait.turn ≡ y → Ends x.station (reply_by y a h x)
    reply_by_lem Idle h x e = burst nothing
    reply_by_lem Sending h x e = burst nothing
    reply_by_lem (Waiting r) h x e =
        let s = x.station in
        let i = h.hi % 4 in
        let t = reply_heard a r.slot i (one_reply s) in
        let b : Same s t = cond_keeps (Same s) (is_member s.used r.slot) _ (one_reply s) (λ _. same s) (λ _. same s) in
        cond_keeps (Ends s) (is_reply h x.sender r) _ _
        (λ _. led (reaches A (reply_heard_lem A a ok allowed s r.slot i (one_reply s) (calm A s s _ _ refl refl refl refl start)) b)
        (answer_by_lem (goes_on h x.more r) r i x.heard t
        (λ g. ltb-true r.turnbursts 3 (and_true (eqb (h.hi / 4 % 2) 1 || x.more) (ltb r.turnbursts 3) g).1) (ap (λ (v : Wait). v.turn) b.0 ∙ e)))
        (λ _. burst nothing)

    pub reply_spoken : (h : Head) (x : Reading) → Ends x.station (reply_end a h x)
    unfolding reply_end
    reply_spoken h x = reply_by_lem x.station.wait.turn h x refl

  abbrev Heard : Station → words.Burst → Received → Type 0
  Heard s b r = Spoken A ⊥ now lent (most_in b.frames) s (said r.station r.words) None None r.over

  pub rx_spoken : A.cells → (s : Station) (b : words.Burst) (level : Float) (store : List ℕ) → A.level level → Heard s b (ncs_rx s b level now store)
  unfolding ncs_rx
  rx_spoken cells s b level store ok =
      let g = air_of s b.head level now in
      let u = with_wait s (busy_wait s.wait b.head s.settings now) in
      let x = first_reading u store in
      let y = read_frames g b.frames x in
      let k = busy_turn s.wait b.head s.settings now in
      let t : Turned s u.wait.turn s.round.list = subst (λ (v : Turn). Turned s v s.round.list) (sym k) walk.still in
      let h : Reaches A s u s.wait.turn =
      record { chain = turn A s s _ _ _ allowed t refl refl refl start; turn = k; list = refl; settings = refl; boats = λ _. (refl, refl) } in
      let c = frames_calm g b.frames u store in
      let v : Reaches A u y.station u.wait.turn =
      record {
        chain = frames_walk A g ok cells u b.frames x start;
        turn = ap (λ (w : Wait). w.turn) c.wait;
        list = c.list;
        settings = c.settings;
        boats = λ no. absurd (no cells);
      } in
      cond_keeps (Heard s b) (eqb b.head.code tiny) _ _
      (λ _. cond_keeps (λ (e : Ended). Spoken A ⊥ now lent (most_in b.frames) s (said_at e) None None e.over) (eqb b.head.hi k_idle) _ _
      (λ _. led h (idle_spoken (most_in b.frames) g ok b.head.extra u))
      (λ _. led h (burst nothing)))
      (λ _. led h (events {n = 0} {j = most_in b.frames} (omega arith) v (frames_events A.cells g cells b.frames 0 x Events.none)
      (reply_spoken 0 g ok b.head y)))

-- ---- their chains

module _ (A : Allowed) (allowed : A.turns) where
  pub next_walk : (s : Station) (now : Float) (lent : List ℕ) → Chain A s (ncs_next s now lent).station
  next_walk s now lent = spoken_walk A allowed (next_spoken A allowed now lent s)

  pub rx_walk : A.cells → (s : Station) (b : words.Burst) (level now : Float) (store : List ℕ) → A.level level
      → Chain A s (ncs_rx s b level now store).station
  rx_walk cells s b level now store ok = spoken_walk A allowed (rx_spoken A allowed now [] cells s b level store ok)
