use mathlib.Core.Path.{◌≡◌, sym, ap, ◌∙◌}
use native.Mathlib.Omega.{arith}
use Rattle.level.specs.Levels.{level_below}
use Rattle.level.proofs.Levels.{hit, miss}
use Rattle.level.proofs.level_of.Goals as goal

pub returns-then-snr-thresholds : goal.returns-then-snr-thresholds
returns-then-snr-thresholds c =
    sym (c.loop-l.invariant.1 ∙ hit c.args.thresholds.now c.args.margin c.args.snr c.loop-l.l (omega arith) c.if-snr-thresholds.true)

pub loop-l-preserved : goal.loop-l-preserved
loop-l-preserved c = (
  omega arith,
  c.loop-l.invariant.1 ∙ miss c.args.thresholds.now c.args.margin c.args.snr c.loop-l.l (omega arith) c.if-snr-thresholds.false,
)

pub returns : goal.returns
unfolding level_below
returns c =
    let z : c.loop-l.l ≡ 0 = omega arith in
    sym (c.loop-l.invariant.1 ∙ ap (level_below c.args.thresholds.now c.args.margin c.args.snr) z)
