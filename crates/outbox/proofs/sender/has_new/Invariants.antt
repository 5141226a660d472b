-- The loop's invariant: what is left to search says what the whole does. Assumes nothing.
use mathlib.Core.Path.{◌≡◌}
use mathlib.Core.List.{List}
use Prim.Native.Nat.{ℕ, ◌-◌, ◌≤◌}
use lib.ListN.{length}
use Rattle.outbox.specs.Outbox as O
use Rattle.outbox.specs.Senders as S
use Rattle.outbox.proofs.sender.has_new.Given as goal

abbrev pub invariant-loop-i : goal.invariant-loop-i
invariant-loop-i l = (l.n ≡ S.count_of l.s) × (l.n ≤ 8) × ((bytes marks : List ℕ) → 16384 ≤ length bytes → O.any_new (S.msgs l.s bytes marks (l.n - l.i) l.i) ≡ O.any_new (S.msgs l.s bytes marks l.n 0))
