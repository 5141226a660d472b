-- Assumes nothing.
use mathlib.Core.Path.{sym, ap, ◌∙◌}
use borrow.Author.Tests.{eq-eqb, ne_eqb}
use Rattle.bits.proofs.Lists.{cond_true, cond_false}
use Rattle.std.specs.Prelude.{Some}
use Rattle.logs.specs.Steps as steps
use Rattle.logs.proofs.watch_step.Goals as goal

pub returns-then-s-eq0 : goal.returns-then-s-eq0
unfolding steps.watch_step
returns-then-s-eq0 c = let x = c.args.s in c.word_step.ensures ∙ sym (cond_true _ _ _ (eq-eqb x.left 0 c.if-s-eq0.true))

pub returns : goal.returns
unfolding steps.watch_step
returns c = let x = c.args.s in ap Some c.listed.ensures ∙ sym (cond_false _ _ _ (ne_eqb x.left 0 c.if-s-eq0.false))
