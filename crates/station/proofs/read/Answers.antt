-- Assumes nothing.
use mathlib.Core.Path.{sym}
use Rattle.station.specs.Entries.{reading_of}
use Rattle.station.proofs.Laws.{read_in}
use Rattle.station.proofs.read.Goals as goal

pub read-requires : goal.read-requires
read-requires c = read_in _ _ _ _ (sym c.in_ok-read_refusal.ensures)

pub returns-clause-message : goal.returns-clause-message
unfolding reading_of
returns-clause-message c = rw (← c.in_ok-read_refusal.ensures) c.read.ensures
