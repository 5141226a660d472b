-- Assumes nothing.
use mathlib.Core.Path.{sym, ◌∙◌}
use Rattle.bits.proofs.Lists.{cond_true, cond_false}
use Rattle.logs.specs.Steps as steps
use Rattle.logs.proofs.polled.Goals as goal

pub returns-then-runs : goal.returns-then-runs
unfolding steps.polled
returns-then-runs c = c.again.ensures ∙ sym (cond_true _ _ _ (sym c.runs.ensures ∙ c.if-runs.true))

pub returns : goal.returns
unfolding steps.polled
returns c = c.begins.ensures ∙ sym (cond_false _ _ _ (sym c.runs.ensures ∙ c.if-runs.false))
