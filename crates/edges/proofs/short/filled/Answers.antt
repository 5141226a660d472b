use mathlib.Core.Path.{◌≡◌}
use mathlib.Core.List.{List}
use Prim.Native.Nat.{ℕ, suc, ◌+◌, ◌≤◌, ◌<◌}
use native.Mathlib.Omega.{arith}
use native.Mathlib.Numerals.{add-one}
use lib.ListN.{length, get_or, drop, drop_of_length-le}
use lib.Seq.{drop-cons}
use borrow.Author.Tests.{eq-eqb, ne_eqb}
use Rattle.edges.specs.Filled.{filled}
use Rattle.edges.proofs.short.filled.Goals as goal

-- at a 0, at another byte, and at the end
module _ (l : List ℕ) (n : ℕ) where
  at_zero : n < length l → get_or l n 0 ≡ 0 → filled (drop n l) ≡ 0
  unfolding filled
  at_zero h e = rw (drop-cons l n 0, eq-eqb (get_or l n 0) 0 e)

  at_byte : n < length l → (get_or l n 0 ≡ 0 → ⊥) → filled (drop n l) ≡ filled (drop (n + 1) l) + 1
  unfolding filled
  at_byte h e = rw (drop-cons l n 0, ne_eqb (get_or l n 0) 0 e, add-one n, add-one (filled (drop (suc n) l)))

  at_end : length l ≤ n → filled (drop n l) ≡ 0
  unfolding filled
  at_end h = rw (drop_of_length-le l h)

pub returns-then-b-eq0 : goal.returns-then-b-eq0
returns-then-b-eq0 c = omega (arith, c.loop-i.invariant, at_zero c.args.out.now c.loop-i.i c.loop-i-test.true c.if-b-eq0.true)

pub loop-i-preserved : goal.loop-i-preserved
loop-i-preserved c = omega (arith, c.loop-i.invariant, at_byte c.args.out.now c.loop-i.i c.loop-i-test.true c.if-b-eq0.false)

pub returns : goal.returns
returns c = omega (arith, c.loop-i.invariant, at_end c.args.out.now c.loop-i.i (omega arith))
