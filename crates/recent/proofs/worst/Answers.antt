use mathlib.Core.Path.{◌≡◌}
use mathlib.Core.Logic.{⊎_elim}
use Prim.Native.Nat.{ℕ, suc, ◌+◌, ◌-◌, min}
use native.Mathlib.Omega.{arith}
use borrow.Author.Tests.{lt-ltb, le-ltb}
use Rattle.bits.proofs.Lists.{lt_or_le}
use Rattle.recent.specs.Readings.{least_from, back_from, readings, kept, worst}
use Rattle.recent.proofs.worst.Goals as goal

min_kept : (n : ℕ) → min n 32 ≡ kept n
min_kept n = ⊎_elim (λ l. rw (lt-ltb n 32 l) (omega arith)) (λ l. rw (le-ltb n 32 l) (omega arith)) (lt_or_le n 32)

pub loop-preserved : goal.loop-preserved
unfolding back_from least_from
loop-preserved c =
    let l = c.loop in
    let n = c.min-n.result in
    let e : n - l.counter ≡ suc (n - (l.counter + 1)) = omega arith in
    (omega arith, rw c.lower-low.ensures (rw e at l.invariant.1))

pub returns : goal.returns
unfolding back_from least_from readings worst
returns c =
    let l = c.loop in
    let n = c.min-n.result in
    let e : n - l.counter ≡ 0 = omega arith in
    rw (c.min-n.ensures, min_kept) at (rw e at l.invariant.1)
