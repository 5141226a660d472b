-- Assumes nothing.
use mathlib.Core.Path.{refl}
use Rattle.bits.specs.Mask.{minus_of}
use Rattle.bits.proofs.minus.Goals as goal

pub returns : goal.returns
unfolding minus_of
returns c = refl
