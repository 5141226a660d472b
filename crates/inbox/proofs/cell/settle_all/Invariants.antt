-- The loop's invariant: what is left to join, within n turns, is the whole; each turn joins a byte, so n never runs out. Assumes nothing.
use mathlib.Core.Path.{◌≡◌}
use Prim.Native.Nat.{ℕ, ◌+◌, ◌-◌, ◌≤◌}
use lib.ListN.{length}
use Rattle.inbox.specs.Cells.{held, settle}
use Rattle.inbox.proofs.cell.settle_all.Given as goal

abbrev pub invariant-loop-k : goal.invariant-loop-k
invariant-loop-k l =
    (l.c.joined ≤ 2048) × (length l.bytes ≡ length l.initial.bytes) × (6144 ≤ length l.initial.bytes)
    × ((n : ℕ) × (2048 ≤ n + l.c.joined) × (settle n (held l.c l.bytes) ≡ settle 2048 (held l.initial.c l.initial.bytes)))

abbrev pub decreases-loop-k : goal.decreases-loop-k
decreases-loop-k l = 2048 - l.c.joined
