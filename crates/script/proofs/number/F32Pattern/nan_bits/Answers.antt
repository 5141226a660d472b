use Rattle.std.proofs.Common.{refl}
use Rattle.std.specs.Float.Ieee.{nan_bits}
use Rattle.script.proofs.number.F32Pattern.nan_bits.Goals as goal

pub returns : goal.returns
unfolding nan_bits
returns c = refl
