-- Assumes nothing.
use Rattle.bits.specs.Stop.{stop}
use Rattle.frames.proofs.pieces.size_of.Goals as goal

pub returns-in-None : goal.returns-in-None
unfolding stop
returns-in-None c = rw c.in-None.is
