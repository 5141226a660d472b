-- A list of slots and the mask that has the same slots. Assumes nothing.
use mathlib.Core.Path.{◌≡◌, refl, sym, ◌∙◌, subst}
use mathlib.Core.Bool.{Bool, true, false, cond, ◌||◌}
use mathlib.Core.List.{List, [], ◌∷◌, ◌++◌}
use mathlib.Core.Logic.{⊎_elim}
use Prim.Native.Nat.{ℕ, ◌<◌, ◌^◌}
use native.Mathlib.Omega.{arith}
use lib.Dec.{eqb}
use borrow.Author.Tests.{eq-eqb, ne_eqb, eqb-true}
use Rattle.bits.specs.Mask.{has_bit, with_bit, without_bit}
use Rattle.bits.proofs.Laws.{has_none, with_same, with_other, with_fits, without_same, without_other, without_fits, mask_ext}
use Rattle.bits.proofs.Lists.{eq_or_not, never_both}
use Rattle.logs.specs.Reading.{has}

-- x taken off the list
abbrev pub without : ℕ → List ℕ → List ℕ
without x [] = []
without x (y ∷ l) = cond (eqb x y) (without x l) (y ∷ without x l)

abbrev pub is_none : List ℕ → Bool
is_none [] = true
is_none (x ∷ l) = false

pub record Same (m : ℕ) (l : List ℕ) : Type 0 where
  pub fits : m < 2 ^ 64
  pub bits : (j : ℕ) → j < 64 → has_bit m j ≡ has j l
  pub low : (j : ℕ) → has j l ≡ true → j < 64

pub same_none : Same 0 []
same_none = record { fits = omega arith; bits = λ j h. has_none j; low = λ j e. absurd (never_both false e refl) }

pub has_here : (x : ℕ) (l : List ℕ) → has x (x ∷ l) ≡ true
has_here x l = rw (eq-eqb x x refl)

pub has_there : (j x : ℕ) (l : List ℕ) → (j ≡ x → ⊥) → has j (x ∷ l) ≡ has j l
has_there j x l n = rw (ne_eqb j x n)

-- one slot more, in front
pub same_with : (m : ℕ) (l : List ℕ) (x : ℕ) → Same m l → x < 64 → Same (with_bit m x) (x ∷ l)
same_with m l x s h =
    record {
      fits = with_fits m x s.fits;
      bits = λ j k. ⊎_elim
          (λ e. subst (λ (y : ℕ). has_bit (with_bit m x) y ≡ has y (x ∷ l)) (sym e) (with_same m x h ∙ sym (has_here x l)))
          (λ n. with_other m x j (λ e. n (sym e)) ∙ s.bits j k ∙ sym (has_there j x l n)) (eq_or_not j x);
      low = λ j e. ⊎_elim (λ q. omega arith) (λ n. s.low j (sym (has_there j x l n) ∙ e)) (eq_or_not j x);
    }

pub has_append : (j : ℕ) (l k : List ℕ) → has j (l ++ k) ≡ has j l || has j k
has_append j [] k = refl
has_append j (x ∷ l) k = by (eqb j x) (has_append j l k)
  where
    by : (b : Bool) → has j (l ++ k) ≡ has j l || has j k → cond b true (has j (l ++ k)) ≡ cond b true (has j l) || has j k
    by true ih = refl
    by false ih = ih

or_swap : (a b : Bool) → a || b ≡ b || a
or_swap true true = refl
or_swap true false = refl
or_swap false true = refl
or_swap false false = refl

by_eqb : (b a : Bool) → cond b true a ≡ a || cond b true false
by_eqb true true = refl
by_eqb true false = refl
by_eqb false true = refl
by_eqb false false = refl

-- in front or behind
has_behind : (j x : ℕ) (l : List ℕ) → has j (x ∷ l) ≡ has j (l ++ (x ∷ []))
has_behind j x l = by_eqb (eqb j x) (has j l) ∙ sym (has_append j l (x ∷ []))

pub same_as : (m : ℕ) (l k : List ℕ) → ((j : ℕ) → has j l ≡ has j k) → Same m l → Same m k
same_as m l k f s = record { fits = s.fits; bits = λ j h. s.bits j h ∙ f j; low = λ j e. s.low j (f j ∙ e) }

pub same_behind : (m : ℕ) (l : List ℕ) (x : ℕ) → Same m l → x < 64 → Same (with_bit m x) (l ++ (x ∷ []))
same_behind m l x s h = same_as (with_bit m x) (x ∷ l) (l ++ (x ∷ [])) (λ j. has_behind j x l) (same_with m l x s h)

-- one slot taken off
pub without_has : (x : ℕ) (l : List ℕ) → has x (without x l) ≡ false
without_has x [] = refl
without_has x (y ∷ l) = by (eqb x y) refl (without_has x l)
  where
    by : (b : Bool) → eqb x y ≡ b → has x (without x l) ≡ false → has x (cond b (without x l) (y ∷ without x l)) ≡ false
    by true e ih = ih
    by false e ih = rw e ih

pub without_keeps : (j x : ℕ) (l : List ℕ) → (j ≡ x → ⊥) → has j (without x l) ≡ has j l
without_keeps j x [] n = refl
without_keeps j x (y ∷ l) n = by (eqb x y) refl (without_keeps j x l n)
  where
    by : (b : Bool) → eqb x y ≡ b → has j (without x l) ≡ has j l → has j (cond b (without x l) (y ∷ without x l)) ≡ cond (eqb j y) true (has j l)
    by true e ih = rw (ne_eqb j y (λ q. n (q ∙ sym (eqb-true x y e)))) ih
    by false e ih = rw ih

pub same_without : (m : ℕ) (l : List ℕ) (x : ℕ) → Same m l → Same (without_bit m x) (without x l)
same_without m l x s =
    record {
      fits = without_fits m x s.fits;
      bits = λ j k. ⊎_elim
          (λ e. subst (λ (y : ℕ). has_bit (without_bit m x) y ≡ has y (without x l)) (sym e) (without_same m x ∙ sym (without_has x l)))
          (λ n. without_other m x j (λ e. n (sym e)) ∙ s.bits j k ∙ sym (without_keeps j x l n)) (eq_or_not j x);
      low = λ j e. ⊎_elim
          (λ q. absurd (never_both (has x (without x l)) (subst (λ (y : ℕ). has y (without x l) ≡ true) q e) (without_has x l)))
          (λ n. s.low j (sym (without_keeps j x l n) ∙ e)) (eq_or_not j x);
    }

-- an empty mask is an empty list
pub same_empty : (m : ℕ) (l : List ℕ) → Same m l → eqb m 0 ≡ is_none l
same_empty m [] s =
    eq-eqb m 0 (mask_ext m 0 s.fits (omega arith) (λ i h. s.bits i h ∙ sym (has_none i)))
same_empty m (x ∷ l) s =
    ne_eqb m 0 (λ e. never_both (has_bit m x) (s.bits x (s.low x (has_here x l)) ∙ has_here x l) (subst (λ (k : ℕ). has_bit k x ≡ false) (sym e) (has_none x)))
