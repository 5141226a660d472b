use Rattle.std.proofs.Common.{refl, ◌∙◌, arith}
use Rattle.std.proofs.Math.ListN.{length-set}
use Rattle.script.proofs.Numbers.{read_next}
use Rattle.script.specs.Settings.{f32s_at}
use Rattle.script.proofs.given.thresholds.Goals as goal

pub loop-i-init : goal.loop-i-init
unfolding f32s_at
loop-i-init c = (refl, refl)

pub loop-i-preserved : goal.loop-i-preserved
loop-i-preserved c =
    let p = c.args.p.now in
    let i = c.loop-i.i in
    let t = c.loop-i.t in (
      length-set t i c.at.result ∙ c.loop-i.invariant.0,
      read_next p 88 i t c.at.result (omega arith) c.at.ensures c.loop-i.invariant.1,
    )
