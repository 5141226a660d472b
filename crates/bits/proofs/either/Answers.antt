-- Assumes nothing.
use mathlib.Core.Path.{refl}
use Rattle.bits.specs.Mask.{either_of}
use Rattle.bits.proofs.either.Goals as goal

pub returns : goal.returns
unfolding either_of
returns c = refl
