use mathlib.Core.Path.{refl, sym, ap, ◌∙◌}
use Rattle.bits.proofs.Loops.{fold_turn, fold_end}
use Rattle.bursts.specs.Rows.{or_floor, least_reach}
use Rattle.bursts.proofs.rows.least_reach.Goals as goal

pub loop-i-init : goal.loop-i-init
unfolding least_reach
loop-i-init c = refl

pub loop-i-preserved : goal.loop-i-preserved
loop-i-preserved c =
    let l = c.loop-i in
    let h = c.loop-i-test.true in
    rw (c.least_if-lev.ensures, c.reach_level.ensures, c.has.ensures, c.index-v.ensures) (ap or_floor (sym (fold_turn _ 62 l.i l.lev h)) ∙ l.invariant)

pub returns : goal.returns
returns c = rw c.or_floor.ensures (ap or_floor (sym (fold_end _ _ _ _ c.loop-i-test.false)) ∙ c.loop-i.invariant)
