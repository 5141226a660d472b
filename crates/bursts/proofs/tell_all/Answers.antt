use mathlib.Core.Path.{refl, sym, ◌∙◌}
use Rattle.bits.proofs.Loops.{fold_turn, fold_end}
use Rattle.bursts.specs.Bursts.{tell_all}
use Rattle.bursts.proofs.tell_all.Goals as goal

pub loop-i-init : goal.loop-i-init
unfolding tell_all
loop-i-init c = refl

pub loop-i-preserved : goal.loop-i-preserved
loop-i-preserved c =
    let l = c.loop-i in
    let h = c.loop-i-test.true in
    rw (c.tell_at-k.ensures, c.has.ensures) (sym (fold_turn _ 62 l.i l.s h) ∙ l.invariant)

pub returns : goal.returns
returns c = sym (fold_end _ _ _ _ c.loop-i-test.false) ∙ c.loop-i.invariant
