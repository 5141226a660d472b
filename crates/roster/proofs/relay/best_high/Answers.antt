-- Assumes nothing.
use Rattle.roster.specs.Relays.{best_high}
use Rattle.roster.proofs.relay.best_high.Goals as goal

pub returns : goal.returns
unfolding best_high
returns c = c.best.ensures
