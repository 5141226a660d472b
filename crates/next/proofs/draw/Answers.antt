use Rattle.std.proofs.Common.{sym, refl, ◌∙◌, arith}
use Rattle.bits.proofs.Loops.{fold_turn, fold_end}
use Rattle.bursts.specs.Rows.{mask_where}
use Rattle.next.proofs.draw.Goals as goal

pub loop-i-init : goal.loop-i-init
unfolding mask_where
loop-i-init c = refl

pub loop-i-preserved : goal.loop-i-preserved
loop-i-preserved c = let l = c.loop-i in rw (c.with_if-list.ensures, c.has.ensures) (sym (fold_turn _ 62 l.i l.list (omega arith)) ∙ l.invariant)

pub returns : goal.returns
returns c = sym (fold_end _ _ _ _ c.loop-i-test.false) ∙ c.loop-i.invariant
