-- Assumes nothing.
use Rattle.roster.specs.Relays.{best_low}
use Rattle.roster.proofs.relay.best_low.Goals as goal

pub returns : goal.returns
unfolding best_low
returns c = c.best.ensures
