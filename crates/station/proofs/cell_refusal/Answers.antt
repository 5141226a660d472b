-- Assumes nothing.
use Rattle.station.specs.Entries.{cell_refusal}
use Rattle.station.proofs.cell_refusal.Goals as goal

pub returns-then-count-cell : goal.returns-then-count-cell
unfolding cell_refusal
returns-then-count-cell c = rw c.if-count-cell.true

pub returns-then-not-has : goal.returns-then-not-has
unfolding cell_refusal
returns-then-not-has c = rw (c.if-count-cell.false, ← c.has.ensures, c.if-not-has.true)

pub returns : goal.returns
unfolding cell_refusal
returns c = rw (c.if-count-cell.false, ← c.has.ensures, c.if-not-has.false)
