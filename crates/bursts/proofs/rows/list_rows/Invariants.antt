-- Assumes nothing.
use mathlib.Core.List.{[]}
use Rattle.bursts.specs.Rows.{list_at, list_row}
use Rattle.bursts.proofs.Filling.{Rows}
use Rattle.bursts.proofs.rows.list_rows.Given as goal

abbrev pub invariant-loop-i : goal.invariant-loop-i
invariant-loop-i l = Rows (list_at l.s) (list_row l.s) 3 [] l.i l.rows.items
