-- `wire::number::widen8` meets its contract. Assumes nothing.
use borrow.Author.Tests.{lt-ltb, le-ltb}
use Rattle.wire.specs.Numbers.{widened}
use Rattle.wire.proofs.number.widen8.Goals as goal

pub returns-then-next-gt-NUMBERS : goal.returns-then-next-gt-NUMBERS
unfolding widened
returns-then-next-gt-NUMBERS c = rw (lt-ltb _ _ c.if-next-gt-NUMBERS.true) c.widen_at.ensures

pub returns : goal.returns
unfolding widened
returns c = rw (le-ltb _ _ c.if-next-gt-NUMBERS.false) c.widen_at-2.ensures
