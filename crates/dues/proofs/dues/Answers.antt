use native.Mathlib.Omega.{arith}
use mathlib.Core.Path.{refl, sym, ◌∙◌}
use Rattle.dues.specs.Dues.{dues_of}
use Rattle.dues.proofs.Lines.{reckoned_start, reckoned_turn, credit_below, taking_below, reckoned_end, figures_many, credit_most, takings_most}
use Rattle.dues.proofs.dues.Goals as goal

pub returns-then-not-figures_ok : goal.returns-then-not-figures_ok
unfolding dues_of
returns-then-not-figures_ok c = rw (← c.figures_ok.ensures, c.if-not-figures_ok.true)

pub loop-i-init : goal.loop-i-init
loop-i-init c =
    (sym c.figures_ok.ensures ∙ c.if-not-figures_ok.false, reckoned_start _ _)

pub bounds-figures-i : goal.bounds-figures-i
bounds-figures-i c = let l = c.loop-i in omega (arith, figures_many _ l.invariant.0)

pub overflow_add-credits : goal.overflow_add-credits
overflow_add-credits c =
    let l = c.loop-i in
    let h = c.loop-i-test.true in
    let x = c.index-v in
    let a = credit_below _ _ _ _ _ l.i h l.invariant.1 _ _ _ _ c.charge_in-cents.ensures x.ensures c.tenth_to.ensures refl in
    omega (arith, credit_most _ l.invariant.0 c.args.s x.result)

pub overflow_add-takings : goal.overflow_add-takings
overflow_add-takings c =
    let l = c.loop-i in
    let h = c.loop-i-test.true in
    let a = taking_below _ _ _ _ _ l.i h l.invariant.1 _ _ _ _ c.charge_in-cents.ensures c.index-v.ensures c.tenth_to.ensures c.taking.ensures in
    omega (arith, takings_most _ l.invariant.0 c.args.s)

pub loop-i-preserved : goal.loop-i-preserved
loop-i-preserved c =
    let l = c.loop-i in
    let h = c.loop-i-test.true in
    (l.invariant.0, rw c.from-takings.ensures (reckoned_turn _ _ _ _ _ l.i h l.invariant.1 _ _ _ _ c.charge_in-cents.ensures c.index-v.ensures c.tenth_to.ensures c.taking.ensures))

pub returns : goal.returns
returns c = let l = c.loop-i in reckoned_end _ _ _ _ _ l.i c.loop-i-test.false l.invariant.0 l.invariant.1
