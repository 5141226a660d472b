-- Assumes nothing.
use mathlib.Core.Path.{sym, ◌∙◌}
use borrow.Author.Tests.{eq-eqb, ne_eqb}
use Rattle.bits.proofs.Lists.{cond_true, cond_false}
use Rattle.logs.specs.Steps.{mark_step}
use Rattle.logs.proofs.mark_step.Goals as goal

pub returns-then-m-eq0 : goal.returns-then-m-eq0
unfolding mark_step
returns-then-m-eq0 c = let x = c.args.m in c.count_step.ensures ∙ sym (cond_true _ _ _ (eq-eqb x.left 0 c.if-m-eq0.true))

pub returns : goal.returns
unfolding mark_step
returns c = let x = c.args.m in c.slot_step.ensures ∙ sym (cond_false _ _ _ (ne_eqb x.left 0 c.if-m-eq0.false))
