-- Assumes nothing.
use mathlib.Core.Path.{sym, ◌∙◌}
use Rattle.bits.proofs.Lists.{cond_true, cond_false}
use Rattle.logs.specs.Steps.{count_step}
use Rattle.logs.proofs.count_step.Goals as goal

pub returns-then-not-is_mark : goal.returns-then-not-is_mark
unfolding count_step
returns-then-not-is_mark c = sym (cond_false _ _ _ (sym c.is_mark.ensures ∙ c.if-not-is_mark.true))

pub returns-then-not-mark_ok : goal.returns-then-not-mark_ok
unfolding count_step
returns-then-not-mark_ok c = sym (cond_true _ _ _ (sym c.is_mark.ensures ∙ c.if-not-is_mark.false) ∙ cond_false _ _ _ (sym c.mark_ok.ensures ∙ c.if-not-mark_ok.true))

pub returns : goal.returns
unfolding count_step
returns c = sym (cond_true _ _ _ (sym c.is_mark.ensures ∙ c.if-not-is_mark.false) ∙ cond_true _ _ _ (sym c.mark_ok.ensures ∙ c.if-not-mark_ok.false))
