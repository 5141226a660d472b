use mathlib.Core.Path.{sym, ◌∙◌}
use Rattle.bits.proofs.Loops.{any_pass, any_stop, any_end}
use Rattle.bursts.specs.Rows.{hole_at}
use Rattle.bursts.proofs.rows.any_holes.Goals as goal

pub returns-then-has-holes : goal.returns-then-has-holes
returns-then-has-holes c =
    let l = c.loop-i in
    let h = c.loop-i-test.true in
    sym (any_stop (hole_at c.args.s) 62 l.i h (rw (← c.holes.ensures, ← c.has.ensures) c.if-has-holes.true)) ∙ l.invariant

pub loop-i-preserved : goal.loop-i-preserved
loop-i-preserved c =
    let l = c.loop-i in
    let h = c.loop-i-test.true in
    sym (any_pass (hole_at c.args.s) 62 l.i h (rw (← c.holes.ensures, ← c.has.ensures) c.if-has-holes.false)) ∙ l.invariant

pub returns : goal.returns
returns c = sym (any_end (hole_at c.args.s) _ _ c.loop-i-test.false) ∙ c.loop-i.invariant
