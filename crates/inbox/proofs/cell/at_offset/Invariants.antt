-- The loop's invariant: what is left to search is the whole search. Assumes nothing.
use mathlib.Core.Bool.{Bool}
use mathlib.Core.Path.{◌≡◌}
use Prim.Native.Nat.{ℕ, ◌-◌}
use lib.Dec.{eqb}
use Rattle.inbox.specs.declared.cell.Cell.{Cell}
use Rattle.inbox.specs.Cells.{offset, seek, place_at}
use Rattle.inbox.proofs.cell.at_offset.Given as goal

abbrev pub starts : Cell → ℕ → ℕ → Bool
starts cell o k = eqb (offset cell k) o

abbrev pub invariant-loop-k : goal.invariant-loop-k
invariant-loop-k l = seek (starts l.cell l.offset) (16 - l.k) l.k ≡ place_at l.cell l.offset
