use Rattle.std.proofs.Common.{rules, arith}
use Rattle.text.proofs.Hex.{hex_turn}
use Rattle.text.proofs.number.hex_value.Goals as goal

pub loop-b-preserved : goal.loop-b-preserved
loop-b-preserved c =
    hex_turn c.args.digits.now c.loop-b.b-index c.loop-b.value _ (omega arith) (search rules) (search rules) c.loop-b.invariant
