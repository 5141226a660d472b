-- `wire::number::widen_at` meets its contract: each return rewrites with the tests that led there. Assumes nothing.
use borrow.Author.Tests.{lt-ltb, le-ltb}
use Rattle.wire.specs.Numbers.{widened_at}
use Rattle.wire.proofs.number.widen_at.Goals as goal

pub returns-then-d-lt128 : goal.returns-then-d-lt128
unfolding widened_at
returns-then-d-lt128 c = rw c.from.ensures (simp (lt-ltb _ _ (rw c.from.ensures at c.if-d-lt128.true)))

pub returns-then-next-back : goal.returns-then-next-back
unfolding widened_at
returns-then-next-back c =
    simp (le-ltb _ _ (rw c.from.ensures at c.if-d-lt128.false), lt-ltb _ _ (rw c.from.ensures at c.if-next-back.true))

pub returns : goal.returns
unfolding widened_at
returns c =
    rw c.from.ensures (simp (le-ltb _ _ (rw c.from.ensures at c.if-d-lt128.false), le-ltb _ _ (rw c.from.ensures at c.if-next-back.false)))
