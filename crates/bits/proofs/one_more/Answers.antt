-- Assumes nothing.
use Rattle.bits.proofs.Stops.{stop_min}
use Rattle.bits.proofs.one_more.Goals as goal

pub returns : goal.returns
returns c = rw c.saturating_add.ensures (stop_min _)
