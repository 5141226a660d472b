-- How many frames fit a burst: one more, no more, and the rooms level by level; durations that are all alike. Assumes nothing.
use mathlib.Core.Path.{◌≡◌, refl, sym, ap, ◌∙◌}
use mathlib.Core.Bool.{true, false}
use mathlib.Core.List.{List, [], ◌∷◌, ◌++◌}
use Prim.Native.Nat.{ℕ, zero, suc, ◌+◌, ◌-◌, ◌*◌, ◌≤◌, ◌<◌}
use native.Mathlib.Nat.{zero-add}
use native.Mathlib.Omega.{arith}
use lib.ListN.{length, get_or, get_or-replicate, set, replicate}
use lib.Seq.{set_at}
use lib.Ieee.{Float, nan, le}
use Rattle.bits.proofs.Loops.{every_true}
use Rattle.config.specs.Checks.{span_ok, data_ok, room_on, room, rooms_from}

module _ (d : List Float) (max : Float) where
  module _ (level n : ℕ) where
    pub room_more : n < 64 → le (get_or d (64 * level + n) nan) max ≡ true → room_on d max level (64 - n) n ≡ room_on d max level (64 - (n + 1)) (n + 1)
    unfolding room_on
    room_more h e = let k : 64 - n ≡ suc (64 - (n + 1)) = omega arith in rw (k, e)

    pub room_stop : n < 64 → le (get_or d (64 * level + n) nan) max ≡ false → room_on d max level (64 - n) n ≡ n
    unfolding room_on
    room_stop h e = let k : 64 - n ≡ suc (64 - (n + 1)) = omega arith in rw (k, e)

    pub room_end : 64 ≤ n → room_on d max level (64 - n) n ≡ n
    unfolding room_on
    room_end h = let k : 64 - n ≡ 0 = omega arith in rw k

  length_rooms : (n level : ℕ) → length (rooms_from d max n level) ≡ n
  unfolding rooms_from
  length_rooms zero level = refl
  length_rooms (suc n) level = ap suc (length_rooms n (level + 1))

  rooms_more : (n level : ℕ) → rooms_from d max (n + 1) level ≡ rooms_from d max n level ++ (room d max (level + n) ∷ [])
  unfolding rooms_from
  rooms_more zero level = let e : level + 0 ≡ level = omega arith in rw e
  rooms_more (suc n) level =
      let e : level + 1 + n ≡ level + suc n = omega arith in
      let f : suc n + 1 ≡ suc (n + 1) = omega arith in
      rw f (ap (λ (l : List ℕ). room d max level ∷ l) (rooms_more n (level + 1) ∙ rw e))

  append_one : (p : List ℕ) (b : ℕ) (l : List ℕ) → (p ++ (b ∷ [])) ++ l ≡ p ++ b ∷ l
  append_one [] b l = refl
  append_one (a ∷ p) b l = ap (λ (m : List ℕ). a ∷ m) (append_one p b l)

  -- the next level's room takes the place of the first zero
  pub rooms_next : (n room' : ℕ) → n < 17 → room' ≡ room d max n
      → set (rooms_from d max n 0 ++ replicate (17 - n) 0) n room' ≡ rooms_from d max (n + 1) 0 ++ replicate (17 - (n + 1)) 0
  rooms_next n room' h q =
      let e : 17 - n ≡ suc (17 - (n + 1)) = omega arith in
      rw (e, rooms_more n 0, q, zero-add)
      (set_at (rooms_from d max n 0) 0 (replicate (17 - (n + 1)) 0) (room d max n) n (length_rooms n 0)
      ∙ sym (append_one (rooms_from d max n 0) (room d max n) (replicate (17 - (n + 1)) 0)))

-- durations that are all alike
pub data_alike : (t : Float) → span_ok t ≡ true → data_ok (replicate 1088 t) ≡ true
unfolding data_ok
data_alike t e = every_true _ 1088 0 (λ j g h. ap span_ok (get_or-replicate 1088 j t nan (omega arith)) ∙ e)
