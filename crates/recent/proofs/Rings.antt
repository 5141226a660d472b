-- The ring holds the last 32 readings, the newest first: of any ring with 32 places. Assumes nothing.
use mathlib.Core.Path.{◌≡◌, refl, sym, ap, ap₂, ◌∙◌}
use mathlib.Core.Logic.{⊎_elim}
use mathlib.Core.List.{List, [], ◌∷◌}
use Prim.Native.Nat.{ℕ, zero, suc, ◌+◌, ◌-◌, ◌%◌, ◌≤◌, ◌<◌}
use native.Mathlib.Numerals.{add-one}
use native.Mathlib.Omega.{arith}
use lib.Ieee.{Float, nan}
use lib.ListN.{length, get_or, set, take, length-set}
use lib.Seq.{take_all, take-take, get_or-set_same, get_or-set_other}
use borrow.Author.Tests.{lt-ltb, le-ltb}
use Rattle.bits.proofs.Lists.{lt_or_le}
use Rattle.recent.specs.declared.Recent.{Recent}
use Rattle.recent.specs.Readings.{empty, noted, kept, back_from, readings}

-- a place that is not among the n before p: place a, when e places were passed since
back_set : (ls : List Float) (a : ℕ) (x : Float) → a < 32 → (n e p : ℕ) → n + e < 32 → p ≡ (a + (32 - e)) % 32
    → back_from (set ls a x) p n ≡ back_from ls p n
unfolding back_from
back_set ls a x l zero e p h q = refl
back_set ls a x l (suc n) e p h q =
    ap₂ ◌∷◌ (get_or-set_other ls a ((p + 31) % 32) x nan (λ z. omega arith)) (back_set ls a x l n (suc e) ((p + 31) % 32) (omega arith) (omega arith))

-- fewer of them
back_take : (ls : List Float) (k n p : ℕ) → n ≤ k → take n (back_from ls p k) ≡ back_from ls p n
unfolding back_from
back_take ls k zero p l = refl
back_take ls zero (suc n) p l = absurd (omega arith)
back_take ls (suc k) (suc n) p l = ap (λ (ys : List Float). get_or ls ((p + 31) % 32) nan ∷ ys) (back_take ls k n ((p + 31) % 32) (omega arith))

back_length : (ls : List Float) (n p : ℕ) → length (back_from ls p n) ≡ n
unfolding back_from
back_length ls zero p = refl
back_length ls (suc n) p = ap suc (back_length ls n ((p + 31) % 32))

-- the newest one, and those before it, of which there are at most 31
back_noted : (ls : List Float) (a : ℕ) (x : Float) (n : ℕ) → a < 32 → length ls ≡ 32 → n < 32
    → back_from (set ls a x) ((a + 1) % 32 % 32) (suc n) ≡ x ∷ back_from ls a n
unfolding back_from
back_noted ls a x n l m h =
    let e : ((a + 1) % 32 % 32 + 31) % 32 ≡ a = omega arith in
    rw e (ap₂ ◌∷◌ (get_or-set_same ls a x nan (omega arith)) (back_set ls a x l n 0 a (omega arith) (omega arith)))

pub noted_length : (r : Recent) (x : Float) → length r.levels ≡ 32 → length (noted r x).levels ≡ 32
noted_length r x m = length-set r.levels (r.at % 32) x ∙ m

-- one more reading: the newest 32 of those before it and itself
pub noted_readings : (r : Recent) (x : Float) → length r.levels ≡ 32 → readings (noted r x) ≡ take 32 (x ∷ readings r)
unfolding readings
noted_readings r x m =
    let a = r.at % 32 in
    let n = r.count in
    let l : a < 32 = omega arith in
    ⊎_elim
    (λ h. rw (lt-ltb n 32 h, kept_more n h, add-one n) (back_noted r.levels a x n l m h ∙ ap (λ (ys : List Float). x ∷ ys) (sym (take_all 31 (back_from r.levels a n) (rw back_length (omega arith))))))
    (λ h. rw (le-ltb n 32 h) (back_noted r.levels a x 31 l m (omega arith) ∙ ap (λ (ys : List Float). x ∷ ys) (sym (back_take r.levels 32 31 a (omega arith)))))
    (lt_or_le n 32)
  where
    kept_more : (n : ℕ) → n < 32 → kept (n + 1) ≡ n + 1
    kept_more n h = ⊎_elim (λ k. rw (lt-ltb (n + 1) 32 k)) (λ k. rw (le-ltb (n + 1) 32 k) (omega arith)) (lt_or_le (n + 1) 32)

-- the last 32 of all the readings, which are xs: so it is at first, and with one more
pub empty_last : readings empty ≡ []
unfolding readings back_from
empty_last = refl

pub noted_last : (r : Recent) (x : Float) (xs : List Float) → length r.levels ≡ 32 → readings r ≡ take 32 xs → readings (noted r x) ≡ take 32 (x ∷ xs)
noted_last r x xs m e = noted_readings r x m ∙ ap (λ (ys : List Float). x ∷ take 31 ys) e ∙ ap (λ (ys : List Float). x ∷ ys) (take-take 31 32 xs (omega arith))
