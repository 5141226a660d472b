-- Refusals and document 01's numbers, there and back. Assumes nothing.
use Rattle.std.specs.Prelude.{Result, Ok, Err, is_ok}
use mathlib.Core.Path.{◌≡◌, refl, sym, ap, ◌∙◌}
use mathlib.Core.Bool.{Bool, true, false, cond, true≢false}
use Prim.Native.Nat.{ℕ}
use lib.Dec.{eqb}
use borrow.Author.Tests.{eqb-true}
use Rattle.std.specs.Result.{result_and}
use Rattle.refusal.specs.declared.Refusal.{Refusal}
use Rattle.refusal.specs.declared.Refusal.TheVariants.{Clock, Level, Words, SmallOut, Setting, CellNumber, SmallMemory, Slot, Closing, NoMember, NotLanded, Full, NoSpace, Total, Figures, Marks, Eight, Long}
use Rattle.refusal.specs.Numbers.{number_of, number_in}
use Rattle.refusal.proofs.Numbers.{is_number}
use Rattle.station.specs.Refusals.{refusal_of}

pub refusal_again : (r : Refusal) → refusal_of (number_of r) ≡ r
refusal_again Clock = refl
refusal_again Level = refl
refusal_again Words = refl
refusal_again SmallOut = refl
refusal_again Setting = refl
refusal_again CellNumber = refl
refusal_again SmallMemory = refl
refusal_again Slot = refl
refusal_again Closing = refl
refusal_again NoMember = refl
refusal_again NotLanded = refl
refusal_again Full = refl
refusal_again NoSpace = refl
refusal_again Total = refl
refusal_again Figures = refl
refusal_again Marks = refl
refusal_again Eight = refl
refusal_again Long = refl

-- a number of document 01, or 0 for none
abbrev pub Known : ℕ → Type 0
Known n = cond (eqb n 0) 0 (number_of (refusal_of n)) ≡ n

pub known_if : (b : Bool) (m n : ℕ) → Known m → Known n → Known (cond b m n)
known_if true m n j k = j
known_if false m n j k = k

-- what a call answers says its refusal's number
pub number_again : {A : Type 0} (n : ℕ) (k : A) → Known n → number_in (cond (eqb n 0) (Ok k) (Err (refusal_of n))) ≡ n
number_again n k h = go (eqb n 0) h
  where
    go : (b : Bool) → cond b 0 (number_of (refusal_of n)) ≡ n → number_in (cond b (Ok k) (Err (refusal_of n))) ≡ n
    go true e = e
    go false e = e

-- what the code makes of a check's result
pub answer_is : {A : Type 0} (x : Result A Refusal) (n : ℕ)
    → result_and x (Ok n) ≡ cond (eqb (number_in x) 0) (Ok n) (Err (refusal_of (number_in x)))
answer_is (Ok y) n = refl
answer_is (Err r) n = rw (is_number r, refusal_again r)

pub passed_is : {A : Type 0} (x : Result A Refusal) → is_ok x ≡ eqb (number_in x) 0
passed_is (Ok y) = refl
passed_is (Err r) = sym (is_number r)

pub passed : {A : Type 0} (x : Result A Refusal) → is_ok x ≡ true → number_in x ≡ 0
passed x e = eqb-true (number_in x) 0 (sym (passed_is x) ∙ e)

pub stopped : {A : Type 0} (x : Result A Refusal) → is_ok x ≡ false → number_in x ≡ 0 → ⊥
stopped x e z = absurd (true≢false (sym (ap (λ (n : ℕ). eqb n 0) z) ∙ sym (passed_is x) ∙ e))
