-- Assumes nothing.
use mathlib.Core.Path.{sym, ap, ◌∙◌}
use borrow.Author.Tests.{eq-eqb, ne_eqb}
use Rattle.bits.proofs.Lists.{cond_true, cond_false}
use Rattle.logs.specs.Steps as steps
use Rattle.logs.proofs.word_step.Goals as goal

pub returns-then-is_mark : goal.returns-then-is_mark
unfolding steps.word_step
returns-then-is_mark c = c.drawn.ensures ∙ sym (cond_true _ _ _ (sym c.is_mark.ensures ∙ c.if-is_mark.true))

pub returns-then-w-eq8 : goal.returns-then-w-eq8
unfolding steps.word_step
returns-then-w-eq8 c = c.sent.ensures ∙ ap (steps.sent _) c.head_of.ensures ∙ sym (cond_false _ _ _ (sym c.is_mark.ensures ∙ c.if-is_mark.false) ∙ cond_true _ _ _ (eq-eqb _ _ c.if-w-eq8.true))

pub returns : goal.returns
unfolding steps.word_step
returns c = sym (cond_false _ _ _ (sym c.is_mark.ensures ∙ c.if-is_mark.false) ∙ cond_false _ _ _ (ne_eqb _ _ c.if-w-eq8.false))
