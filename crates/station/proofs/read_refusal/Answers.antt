-- Assumes nothing.
use borrow.Author.Tests.{lt-ltb, le-ltb}
use Rattle.station.specs.Entries.{read_refusal}
use Rattle.station.proofs.read_refusal.Goals as goal

pub returns-then-lent-count : goal.returns-then-lent-count
unfolding read_refusal
returns-then-lent-count c = rw (lt-ltb _ _ c.if-lent-count.true)

pub returns : goal.returns
unfolding read_refusal
returns c = rw (le-ltb _ _ c.if-lent-count.false) c.cell_refusal.ensures
