-- Assumes nothing.
use mathlib.Core.Path.{refl}
use Rattle.shore.specs.Blocks.{station_of}
use Rattle.shore.proofs.shore_silent.Goals as goal

pub returns : goal.returns
unfolding station_of
returns c = refl
