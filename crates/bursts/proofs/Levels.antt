-- The least of two levels. Assumes nothing.
use mathlib.Core.Path.{◌≡◌, refl}
use mathlib.Core.Bool.{Bool, true, false, cond}
use mathlib.Core.Logic.{⊎_elim}
use Prim.Native.Nat.{ℕ, ◌≤◌, min}
use native.Mathlib.Omega.{arith}
use lib.Dec.{ltb}
use borrow.Author.Tests.{ltb-true, lt-ltb, le-ltb}
use Rattle.bits.proofs.Lists.{le_or_lt}
use Rattle.bursts.specs.Rows.{least_of}

least_by : (a b : ℕ) (t : Bool) → ltb a b ≡ t → cond t a b ≤ b
least_by a b true e = omega (arith, ltb-true a b e)
least_by a b false e = omega arith

pub least_le : (a b : ℕ) → least_of a b ≤ b
least_le a b = least_by a b (ltb a b) refl

-- it is std's `min`
pub min_least : (a b : ℕ) → min a b ≡ least_of a b
min_least a b = ⊎_elim (λ l. rw (le-ltb a b l) (omega arith)) (λ l. rw (lt-ltb a b l) (omega arith)) (le_or_lt b a)
