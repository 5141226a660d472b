use Rattle.std.proofs.Common.{refl}
use Rattle.std.specs.Float.{binary32}
use Rattle.script.proofs.Numbers.{float_none, float_some}
use Rattle.script.proofs.number.F32Pattern.of.Goals as goal

pub returns-then-nan_bits : goal.returns-then-nan_bits
returns-then-nan_bits c = float_none binary32 refl c.nan_bits.ensures c.if-nan_bits.true

pub returns : goal.returns
returns c = float_some binary32 refl c.nan_bits.ensures c.if-nan_bits.false
