-- Assumes nothing.
use Rattle.shore.specs.Blocks.{station_of}
use Rattle.shore.proofs.shore_hears_field.Goals as goal

pub returns : goal.returns
unfolding station_of
returns c = c.heard_at.ensures
