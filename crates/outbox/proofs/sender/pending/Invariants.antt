-- The loop's invariant: what was counted, with what is left to count, is the whole. Assumes nothing.
use mathlib.Core.Path.{◌≡◌}
use mathlib.Core.List.{List}
use Prim.Native.Nat.{ℕ, ◌+◌, ◌-◌, ◌*◌, ◌≤◌}
use lib.ListN.{length}
use Rattle.outbox.specs.Outbox as O
use Rattle.outbox.specs.Senders as S
use Rattle.outbox.proofs.sender.pending.Given as goal

abbrev pub invariant-loop-i : goal.invariant-loop-i
invariant-loop-i l = (l.n ≡ S.count_of l.s) × (l.n ≤ 8) × (l.sum ≤ 4096 * l.i) × (16384 ≤ length l.marks) × ((bytes : List ℕ) → 16384 ≤ length bytes → l.sum + O.pending_in (S.msgs l.s bytes l.marks (l.n - l.i) l.i) ≡ O.pending_in (S.msgs l.s bytes l.marks l.n 0))
