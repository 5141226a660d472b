-- Assumes nothing.
use Rattle.roster.proofs.is_willing.Goals as goal

pub returns : goal.returns
returns c = rw c.relays.ensures
