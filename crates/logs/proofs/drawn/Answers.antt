-- Assumes nothing.
use mathlib.Core.Path.{sym}
use borrow.Author.Tests.{eq-eqb, ne_eqb}
use Rattle.bits.proofs.Lists.{cond_true, cond_false}
use Rattle.logs.specs.Steps as steps
use Rattle.logs.proofs.drawn.Goals as goal

pub returns-then-s-ne0 : goal.returns-then-s-ne0
unfolding steps.drawn
returns-then-s-ne0 c = sym (cond_false _ _ _ (ne_eqb _ _ c.if-s-ne0.true))

pub returns : goal.returns
unfolding steps.drawn
returns c = sym (cond_true _ _ _ (eq-eqb _ _ c.if-s-ne0.false))
