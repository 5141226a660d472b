-- The loop's invariant: what is left to search, with the best so far, is the whole search. Assumes nothing.
use mathlib.Core.Path.{◌≡◌}
use Prim.Native.Nat.{ℕ, ◌-◌}
use Rattle.std.specs.declared.option.Option.{Option}
use Rattle.std.specs.declared.option.Option.TheVariants.{None, Some}
use Rattle.inbox.specs.Cells.{next, next_place, found}
use Rattle.inbox.proofs.cell.next_place.Given as goal

abbrev pub place_of : Option ℕ → ℕ
place_of None = 16
place_of (Some k) = k

abbrev pub invariant-loop-k : goal.invariant-loop-k
invariant-loop-k l = (found (place_of l.best) ≡ l.best) × (next (16 - l.k) l.cell l.k (place_of l.best) l.from ≡ next_place l.cell)
