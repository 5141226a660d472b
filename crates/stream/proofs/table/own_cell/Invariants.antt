-- The invariant: searching on from c finds what the search was to find. Assumes nothing.
use mathlib.Core.Path.{◌≡◌}
use mathlib.Core.Bool.{Bool}
use mathlib.Core.List.{List}
use Prim.Native.Nat.{ℕ, ◌-◌}
use lib.ListN.{get_or}
use Rattle.bits.specs.Loop.{first}
use Rattle.stream.specs.Table.{is_own, own_cell}
use Rattle.stream.proofs.table.own_cell.Given as goal

abbrev pub test : List ℕ → ℕ → ℕ → ℕ → ℕ → Bool
test owners busy landed owner c = is_own busy landed c (get_or owners c 0) owner

abbrev pub invariant-loop-c : goal.invariant-loop-c
invariant-loop-c l =
    first (test l.owners l.busy l.landed l.owner) (l.n - l.c) l.c ≡ own_cell l.owners l.busy l.landed l.n l.owner
