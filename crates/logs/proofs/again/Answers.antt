-- Assumes nothing.
use mathlib.Core.Path.{sym}
use borrow.Author.Tests.{lt-ltb, le-ltb}
use Rattle.bits.proofs.Lists.{cond_true, cond_false}
use Rattle.logs.specs.Steps as steps
use Rattle.logs.proofs.again.Goals as goal

pub returns-then-s-lt5 : goal.returns-then-s-lt5
unfolding steps.again
returns-then-s-lt5 c = sym (cond_true _ _ _ (lt-ltb _ _ c.if-s-lt5.true))

pub returns : goal.returns
unfolding steps.again
returns c = sym (cond_false _ _ _ (le-ltb _ _ c.if-s-lt5.false))
