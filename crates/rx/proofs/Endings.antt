-- The end of a reception, taken part by part, is what the definitions say. Assumes nothing.
use mathlib.Core.Path.{◌≡◌, refl, sym, ap, ◌∙◌}
use mathlib.Core.Bool.{Bool, true, false, cond, ◌||◌}
use mathlib.Core.List.{List, [], ◌∷◌}
use Rattle.std.specs.Prelude.{Some, None}
use Prim.Native.Nat.{ℕ, zero, suc, ◌+◌, ◌/◌, ◌%◌, ◌<◌}
use native.Mathlib.Omega.{arith}
use lib.Dec.{eqb, ltb}
use lib.ListN.{set, get_or}
use lib.Seq.{set-get_or}
use borrow.Author.Tests.{ltb-true}
use Rattle.bits.proofs.Lists.{and_true}
use Rattle.wire.specs.Kinds.{tiny, k_idle}
use Rattle.words.specs.declared.Head.{Head}
use Rattle.recent.specs.declared.Recent.{Recent}
use Rattle.recent.specs.Readings.{no_recent}
use Rattle.roster.specs.declared.Member.{Member}
use Rattle.roster.specs.Members.{no_member, silent_at}
use Rattle.roster.proofs.Silent.{tally_same}
use Rattle.net.specs.declared.Station.{Station}
use Rattle.net.specs.declared.Reply.{Reply}
use Rattle.net.specs.declared.Turn.{Turn}
use Rattle.net.specs.declared.Turn.TheVariants.{Idle, Sending, Waiting}
use Rattle.net.specs.declared.Wait.{Wait}
use Rattle.net.specs.State.{index_of, member_at, with_members, with_wait, with_totals, with_recent, one_reply}
use Rattle.net.specs.Net.{is_member, idle_wait, Does}
use Rattle.out.specs.declared.Output.{Output}
use Rattle.out.specs.Outputs.{Writes}
use Rattle.out.proofs.Laws.{writes_as}
use Rattle.net.specs.declared.Totals.{Totals}
use Rattle.frames.specs.declared.Air.{Air}
use Rattle.frames.specs.declared.Rx.{Rx}
use Rattle.frames.specs.Reading.{Reading}
use Rattle.rx.specs.declared.ending.Ending.{Ending}
use Rattle.rx.specs.Ending.{is_reply, goes_on, reply_member, idle_heard, idle_by, idle_end, answer_by, reply_heard, reply_by, reply_end, turn_over_in, nothing_more, end_reading, end_said}
use Rattle.rx.specs.Code.Ending.{no_ending, idle_ending, reply_ending, awaited_of, full_ending, ending_by, end_station, end_burst, end_words, end_level, end_member, end_recent, end_source, end_wait, end_totals}

-- ### The station

-- nothing ended
none_station : (s : Station) (h : Head) (a : Air) → end_station s no_ending h a ≡ s
unfolding end_station
none_station s h a =
    rw (tally_same, set-get_or s.recent 0 no_recent)
    (ap (with_members s) (set-get_or (set s.members 0 (get_or s.members 0 no_member)) 0 no_member ∙ set-get_or s.members 0 no_member))

-- K_IDLE
module _ (s : Station) (h : Head) (a : Air) where
  idle_none : (t : Bool) → is_member s.used (h.extra % 64) ≡ t
      → end_station s (idle_ending None h) h a ≡ idle_heard a h.extra s
  unfolding end_station
  idle_none true e = rw (e, set-get_or)
  idle_none false e = rw (e, tally_same, set-get_or, set-get_or, set-get_or)

  idle_waits : (r : Reply) (t o u : Bool) → is_member s.used (h.extra % 64) ≡ t → eqb r.slot (h.extra % 64) ≡ o
      → is_member s.used r.relayfor ≡ u
      → end_station s (idle_ending (Some r) h) h a ≡ (idle_by (Waiting r) (h.extra % 64) (idle_heard a h.extra s)).station
  unfolding end_station
  idle_waits r true true true p q v = rw (p, q, v)
  idle_waits r true true false p q v = rw (p, q, v, set-get_or)
  idle_waits r false true true p q v = rw (p, q, v, tally_same, set-get_or, set-get_or)
  idle_waits r false true false p q v = rw (p, q, v, tally_same, set-get_or, set-get_or, set-get_or)
  idle_waits r true false u p q v = rw (p, q, set-get_or)
  idle_waits r false false u p q v = rw (p, q, tally_same, set-get_or, set-get_or, set-get_or)

  idle_turn : (v : Turn) → end_station s (idle_ending (awaited_of v) h) h a ≡ (idle_by v (h.extra % 64) (idle_heard a h.extra s)).station
  idle_turn Idle = idle_none _ refl
  idle_turn Sending = idle_none _ refl
  idle_turn (Waiting r) = idle_waits r _ _ _ refl refl refl

-- the reply to a poll
once_more_lem : (h : Head) (more : Bool) (r : Reply) → goes_on h more r ≡ true → r.turnbursts % 4 + 1 ≡ r.turnbursts + 1
once_more_lem h more r g =
    let l : r.turnbursts < 3 = ltb-true r.turnbursts 3 (and_true (eqb (h.hi / 4 % 2) 1 || more) (ltb r.turnbursts 3) g).1 in
    omega arith

-- the level at which the boat hears us is the same behind the store
down_stored : (l : List Member) (i : ℕ) (k : Member) → k.snrdown ≡ (get_or l i no_member).snrdown → (get_or (set l i k) i no_member).snrdown ≡ k.snrdown
down_stored [] i k e = sym e
down_stored (m ∷ l) zero k e = refl
down_stored (m ∷ l) (suc i) k e = down_stored l i k e

module _ (a : Air) (h : Head) (x : Reading) (r : Reply) where
  again_station : (t : Bool) → is_member x.station.used r.slot ≡ t → r.turnbursts % 4 + 1 ≡ r.turnbursts + 1
      → end_station x.station (reply_ending r true) h a
      ≡ (answer_by true r (h.hi % 4) x.heard (reply_heard a r.slot (h.hi % 4) (one_reply x.station))).station
  unfolding end_station
  again_station true p n = rw (p, n, set-get_or)
  again_station false p n = rw (p, n, tally_same, set-get_or, set-get_or, set-get_or)

  last_station : (t u : Bool) → is_member x.station.used r.slot ≡ t → is_member x.station.used r.relayfor ≡ u
      → end_station x.station (reply_ending r false) h a
      ≡ (answer_by false r (h.hi % 4) x.heard (reply_heard a r.slot (h.hi % 4) (one_reply x.station))).station
  unfolding end_station
  last_station true true p v = rw (p, v)
  last_station true false p v = rw (p, v, set-get_or)
  last_station false true p v = rw (p, v, tally_same, set-get_or, set-get_or)
  last_station false false p v = rw (p, v, tally_same, set-get_or, set-get_or, set-get_or)

  reply_station : (g : Bool) → goes_on h x.more r ≡ g
      → end_station x.station (reply_ending r g) h a
      ≡ (answer_by g r (h.hi % 4) x.heard (reply_heard a r.slot (h.hi % 4) (one_reply x.station))).station
  reply_station true e = again_station _ refl (once_more_lem h x.more r e)
  reply_station false e = last_station _ _ refl refl

  reply_burst : (g t : Bool) → is_member x.station.used r.slot ≡ t
      → end_burst x.station (reply_ending r g) h a x.heard
      ≡ (answer_by g r (h.hi % 4) x.heard (reply_heard a r.slot (h.hi % 4) (one_reply x.station))).burst
  unfolding end_burst
  reply_burst true true p = rw (p, p, down_stored x.station.members (index_of r.slot) (reply_member a (h.hi % 4) (member_at x.station r.slot)) refl)
  reply_burst true false p = rw (p, p)
  reply_burst false true p = rw (p, p, down_stored x.station.members (index_of r.slot) (reply_member a (h.hi % 4) (member_at x.station r.slot)) refl)
  reply_burst false false p = rw (p, p)

-- ### Together

module _ (a : Air) (h : Head) (s : Station) (x : Rx) where
  tiny_station : (i : Bool) (v : Turn)
      → end_station s (cond i (idle_ending (awaited_of v) h) no_ending) h a
      ≡ (cond i (idle_by v (h.extra % 64) (idle_heard a h.extra s)) (nothing_more s)).station
  tiny_station true v = idle_turn s h a v
  tiny_station false v = none_station s h a

  full_station : (v : Turn)
      → end_station s (full_ending (awaited_of v) x.sender x.more h) h a
      ≡ (reply_by v a h (end_reading s x)).station
  full_station Idle = none_station s h a
  full_station Sending = none_station s h a
  full_station (Waiting r) = at (is_reply h x.sender r)
    where
      at : (t : Bool)
          → end_station s (cond t (reply_ending r (goes_on h x.more r)) no_ending) h a
          ≡ (cond t (answer_by (goes_on h x.more r) r (h.hi % 4) x.heard (reply_heard a r.slot (h.hi % 4) (one_reply s))) (nothing_more s)).station
      at true = reply_station a h (end_reading s x) r _ refl
      at false = none_station s h a

  pub end_station_lem : end_station s (ending_by (awaited_of s.wait.turn) x.sender x.more h) h a ≡ (end_said a h s x).station
  unfolding ending_by idle_end reply_end
  end_station_lem = at (eqb h.code tiny)
    where
      at : (t : Bool)
          → end_station s (cond t (cond (eqb h.hi k_idle) (idle_ending (awaited_of s.wait.turn) h) no_ending) (full_ending (awaited_of s.wait.turn) x.sender x.more h)) h a
          ≡ (cond t (cond (eqb h.hi k_idle) (idle_by s.wait.turn (h.extra % 64) (idle_heard a h.extra s)) (nothing_more s)) (reply_by s.wait.turn a h (end_reading s x))).station
      at true = tiny_station (eqb h.hi k_idle) s.wait.turn
      at false = full_station s.wait.turn

  tiny_burst_lem : (i : Bool) (v : Turn)
      → end_burst s (cond i (idle_ending (awaited_of v) h) no_ending) h a x.heard
      ≡ (cond i (idle_by v (h.extra % 64) (idle_heard a h.extra s)) (nothing_more s)).burst
  unfolding end_burst
  tiny_burst_lem false v = refl
  tiny_burst_lem true Idle = refl
  tiny_burst_lem true Sending = refl
  tiny_burst_lem true (Waiting r) = at (eqb r.slot (h.extra % 64))
    where
      at : (o : Bool)
          → [] ≡ (cond o (record { station = turn_over_in (one_reply (with_wait (idle_heard a h.extra s) idle_wait)) (h.extra % 64) r.relayfor; burst = []; over = Some (h.extra % 64) }) (nothing_more (idle_heard a h.extra s))).burst
      at true = refl
      at false = refl

  full_burst_lem : (v : Turn)
      → end_burst s (full_ending (awaited_of v) x.sender x.more h) h a x.heard
      ≡ (reply_by v a h (end_reading s x)).burst
  unfolding end_burst
  full_burst_lem Idle = refl
  full_burst_lem Sending = refl
  full_burst_lem (Waiting r) = at (is_reply h x.sender r)
    where
      at : (t : Bool)
          → end_burst s (cond t (reply_ending r (goes_on h x.more r)) no_ending) h a x.heard
          ≡ (cond t (answer_by (goes_on h x.more r) r (h.hi % 4) x.heard (reply_heard a r.slot (h.hi % 4) (one_reply s))) (nothing_more s)).burst
      at true = reply_burst a h (end_reading s x) r (goes_on h x.more r) (is_member s.used r.slot) refl
      at false = refl

  pub end_burst_lem : end_burst s (ending_by (awaited_of s.wait.turn) x.sender x.more h) h a x.heard ≡ (end_said a h s x).words
  unfolding ending_by idle_end reply_end
  end_burst_lem = at (eqb h.code tiny)
    where
      at : (t : Bool)
          → end_burst s (cond t (cond (eqb h.hi k_idle) (idle_ending (awaited_of s.wait.turn) h) no_ending) (full_ending (awaited_of s.wait.turn) x.sender x.more h)) h a x.heard
          ≡ (cond t (cond (eqb h.hi k_idle) (idle_by s.wait.turn (h.extra % 64) (idle_heard a h.extra s)) (nothing_more s)) (reply_by s.wait.turn a h (end_reading s x))).burst
      at true = tiny_burst_lem (eqb h.hi k_idle) s.wait.turn
      at false = full_burst_lem s.wait.turn

-- ### The stores of the code, one after the other

pub finished : (a : Air) (h : Head) (s : Station) (x : Rx) (e : Ending) (here : Bool) (i : ℕ) (k : Member) (z : Recent) (level : ℕ) (j : ℕ) (d : Member) (v : Wait) (y : Totals) (l m : Output)
    → e ≡ ending_by (awaited_of s.wait.turn) x.sender x.more h → here ≡ is_member s.used e.slot → i ≡ index_of e.slot
    → k ≡ end_member (get_or s.members i no_member) e here h a → z ≡ end_recent (get_or s.recent i no_recent) e here a → level ≡ end_level s.settings k here
    → Writes l (end_words e h x.heard level) m
    → j ≡ index_of e.reply.relayfor → d ≡ end_source s.hears s.used (get_or (set s.members i k) j no_member) e e.reply.relayfor
    → v ≡ end_wait s.wait e
    → y ≡ end_totals s.totals e (silent_at s.settings.misslimit (get_or s.members i no_member)) (silent_at s.settings.misslimit k)
    → Does (end_said a h s x) (with_totals (with_wait (with_members (with_recent s (set s.recent i z)) (set (set s.members i k) j d)) v) y) l m
unfolding end_station end_burst
finished a h s x e here i k z level j d v y l m pe ph pi pk pz pl w pj pd pv py = record {
  station = rw (pv, py, pd, pj, pz, pk, pi, ph, pe) (end_station_lem a h s x);
  wrote = writes_as w (rw (pl, pk, pi, ph, pe) (end_burst_lem a h s x));
}
