use mathlib.Core.Path.{sym, ◌∙◌}
use native.Mathlib.Omega.{arith}
use Rattle.bursts.proofs.Waiting.{beyond_turn, beyond_end}
use Rattle.bursts.proofs.beyond_nine.Goals as goal

pub loop-preserved : goal.loop-preserved
loop-preserved c =
    let l = c.loop in
    rw c.without_lowest-m.ensures (sym (beyond_turn 9 l.counter l.m (omega (arith, c.loop-test.true))) ∙ l.invariant)

pub returns : goal.returns
returns c =
    let l = c.loop in
    sym (beyond_end 9 l.counter l.m (omega (arith, c.loop-test.false))) ∙ l.invariant
