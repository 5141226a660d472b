-- Assumes nothing.
use mathlib.Core.Path.{sym, ◌∙◌}
use borrow.Author.Tests.{eq-eqb, ne_eqb}
use Rattle.bits.proofs.Lists.{cond_true, cond_false}
use Rattle.logs.specs.Steps as steps
use Rattle.logs.proofs.sent.Goals as goal

pub returns-then-h-eq-TINY : goal.returns-then-h-eq-TINY
unfolding steps.sent
returns-then-h-eq-TINY c = c.tiny_sent.ensures ∙ sym (cond_true _ _ _ (eq-eqb _ _ c.if-h-eq-TINY.true))

pub returns : goal.returns
unfolding steps.sent
returns c = sym (cond_false _ _ _ (ne_eqb _ _ c.if-h-eq-TINY.false))
