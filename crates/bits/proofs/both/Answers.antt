-- Assumes nothing.
use mathlib.Core.Path.{refl}
use Rattle.bits.specs.Mask.{both_of}
use Rattle.bits.proofs.both.Goals as goal

pub returns : goal.returns
unfolding both_of
returns c = refl
