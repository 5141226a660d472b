-- The loop's invariant: what is left to search is the whole search. Assumes nothing.
use mathlib.Core.Bool.{Bool}
use mathlib.Core.Path.{◌≡◌}
use Prim.Native.Nat.{ℕ, ◌-◌}
use lib.Dec.{leb}
use Rattle.inbox.specs.declared.cell.Cell.{Cell}
use Rattle.inbox.specs.Cells.{end_at, seek, free_place}
use Rattle.inbox.proofs.cell.free_place.Given as goal

abbrev pub ends : Cell → ℕ → Bool
ends cell k = leb (end_at cell k) cell.joined

abbrev pub invariant-loop-k : goal.invariant-loop-k
invariant-loop-k l = (l.joined ≡ l.cell.joined) × (seek (ends l.cell) (16 - l.k) l.k ≡ free_place l.cell)
