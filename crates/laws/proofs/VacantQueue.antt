-- The directed queue of a slot without a boat is as at a start, after any calls: no change but three touches it. Assumes nothing.
use mathlib.Core.Path.{◌≡◌, refl, sym, ◌∙◌, subst}
use mathlib.Core.Logic.{⊎_elim}
use Prim.Native.Nat.{ℕ, ◌<◌}
use native.Mathlib.Omega.{arith}
use mathlib.Core.Bool.{false}
use mathlib.Core.List.{List}
use lib.ListN.{length, get_or, set, length-set, length-replicate, get_or-replicate}
use lib.Seq.{get_or-set_same, get_or-set_other}
use Rattle.bits.specs.Mask.{has_bit, with_bit, without_bit}
use Rattle.bits.proofs.Lists.{cond_keeps, never_both, eq_or_not}
use Rattle.bits.proofs.Loops.{fold_keeps}
use Rattle.bits.proofs.Laws.{with_other, without_other}
use Rattle.recent.specs.declared.Recent.{Recent}
use Rattle.queue.specs.declared.Queue.{Queue}
use Rattle.queue.specs.Queues.{empty_queue}
use Rattle.net.specs.declared.Station.{Station}
use Rattle.net.specs.declared.Settings.{Settings}
use Rattle.net.specs.Net.{new_station}
use Rattle.net.proofs.Laws.{member_lt, member_has}
use Rattle.config.specs.declared.Given.{Given}
use Rattle.station.specs.Entries.{start_refusal}
use Rattle.signoff.specs.SignOff.{leave, bereave_at, bereave_all, struck_off, sign_off}
use Rattle.promise.specs.Promise.{Call, after, started}
use Rattle.promise.proofs.Walk.{Allowed, Change}
use Rattle.promise.proofs.WalkRoster.{Beside, kept, ring, queue, joins, leaves, beside}
use Rattle.promise.proofs.WalkCalls.{always}

-- 62 queues, and nothing posted where there is no boat
pub record Unposted (used : ℕ) (qs : List Queue) : Type 0 where
  pub many : length qs ≡ 62
  pub none : (i : ℕ) → i < 62 → has_bit used i ≡ false → get_or qs i empty_queue ≡ empty_queue

abbrev pub UnpostedIn : Station → Type 0
UnpostedIn s = Unposted s.used s.queues

-- ---- a boat signs off

bereave_parts : (slot : ℕ) (qs : List Queue) (used i : ℕ) (s : Station) → (s.queues ≡ qs) × (s.used ≡ used) → ((bereave_at slot i s).queues ≡ qs) × ((bereave_at slot i s).used ≡ used)
unfolding bereave_at
bereave_parts slot qs used i s h =
    cond_keeps (λ (t : Station). (t.queues ≡ qs) × (t.used ≡ used)) (has_bit s.used i) _ s (λ _. h) (λ _. h)

pub sign_parts : (s : Station) (slot : ℕ) → ((sign_off s slot).queues ≡ set s.queues slot empty_queue) × ((sign_off s slot).used ≡ without_bit s.used slot)
unfolding sign_off bereave_all
sign_parts s slot =
    let qs = set s.queues slot empty_queue in
    let used = without_bit s.used slot in
    fold_keeps (λ (t : Station). (t.queues ≡ qs) × (t.used ≡ used)) (bereave_at slot) (λ i t h. bereave_parts slot qs used i t h) 62 0 (leave slot (struck_off slot s)) (refl, refl)

-- ---- a queue written

put_same : (qs : List Queue) (i : ℕ) → length qs ≡ 62 → i < 62 → get_or (set qs i empty_queue) i empty_queue ≡ empty_queue
put_same qs i n l = get_or-set_same qs i empty_queue empty_queue (omega arith)

-- of another slot
put_there : (used used' : ℕ) (qs : List Queue) (j : ℕ) (q : Queue) → Unposted used qs
    → ((i : ℕ) → i < 62 → has_bit used' i ≡ false → (i ≡ j → ⊥) → has_bit used i ≡ false) → (has_bit used' j ≡ false → get_or (set qs j q) j empty_queue ≡ empty_queue)
    → Unposted used' (set qs j q)
put_there used used' qs j q k f g =
    record {
      many = length-set qs j q ∙ k.many;
      none = λ i l e.
          ⊎_elim (λ z. subst (λ (y : ℕ). get_or (set qs j q) y empty_queue ≡ empty_queue) (sym z) (g (subst (λ (y : ℕ). has_bit used' y ≡ false) z e)))
          (λ z. get_or-set_other qs j i q empty_queue z ∙ k.none i l (f i l e z)) (eq_or_not i j);
    }

-- ---- each change

beside_unposted : {s : Station} {u : ℕ} {rs : List Recent} {qs : List Queue} → Beside s u rs qs → UnpostedIn s → Unposted u qs
beside_unposted kept k = k
beside_unposted (ring i r here) k = k
beside_unposted {s} (queue j q here) k =
    put_there s.used s.used s.queues j q k (λ i h e z. e) (λ e. absurd (never_both (has_bit s.used j) (member_has s.used j here) e))
beside_unposted {s} (joins c l) k =
    put_there s.used (with_bit s.used c) s.queues c empty_queue k (λ i h e z. sym (with_other s.used c i (λ y. z (sym y))) ∙ e)
    (λ e. put_same s.queues c k.many l)
beside_unposted {s} (leaves slot here) k =
    let p = sign_parts s slot in
    subst (λ (qs : List Queue). Unposted (sign_off s slot).used qs) (sym p.0)
    (subst (λ (u : ℕ). Unposted u (set s.queues slot empty_queue)) (sym p.1)
    (put_there s.used (without_bit s.used slot) s.queues slot empty_queue k (λ i h e z. sym (without_other s.used slot i (λ y. z (sym y))) ∙ e)
    (λ e. put_same s.queues slot k.many (member_lt s.used slot here))))

pub change_unposted : {A : Allowed} (s t : Station) → Change A s t → UnpostedIn s → UnpostedIn t
change_unposted s t c k = beside_unposted (beside c) k

new_kept : (g : Settings) (count : ℕ) → UnpostedIn (new_station g count)
unfolding new_station
new_kept g count = record { many = length-replicate {A = Queue} 62 empty_queue; none = λ i l e. get_or-replicate 62 i empty_queue empty_queue l }

pub runs_unposted : (s : Station) (g : Given) (store : List ℕ) → start_refusal g (length store) ≡ 0 → (cs : List Call) → UnpostedIn (after cs (started s g store)).station
runs_unposted s g store e cs = always UnpostedIn (λ x y c k. change_unposted x y c k) s g store e (new_kept _ _) cs
