-- Assumes nothing.
use Rattle.frames.specs.Code.Pieces.{piece_of}
use Rattle.frames.proofs.pieces.piece_of.Goals as goal

pub returns-in_default : goal.returns-in_default
unfolding piece_of
returns-in_default c = rw (← c.high8.ensures, ← c.widen8.ensures, c.in_default.is) c.unwanted.ensures

pub returns : goal.returns
unfolding piece_of
returns c = rw (← c.high8.ensures, ← c.widen8.ensures, c.in-Some.is) c.numbered.ensures
