-- The loop's invariant: what is done, with what is to be done, is the whole. Assumes nothing.
use mathlib.Core.Path.{◌≡◌}
use mathlib.Core.List.{List, ◌++◌, map}
use Prim.Native.Nat.{ℕ, ◌-◌, ◌≤◌}
use lib.ListN.{length}
use Rattle.outbox.specs.Outbox as O
use Rattle.outbox.specs.Senders as S
use Rattle.outbox.proofs.sender.stale.Given as goal

abbrev pub invariant-loop-i : goal.invariant-loop-i
invariant-loop-i l = (l.n ≡ S.count_of l.s) × (l.n ≤ 8) × (16384 ≤ length l.initial.marks) × (length l.marks ≡ length l.initial.marks) × ((bytes : List ℕ) → S.msgs l.s bytes l.marks l.i 0 ++ map O.stale_in (S.msgs l.s bytes l.marks (l.n - l.i) l.i) ≡ map O.stale_in (S.msgs l.s bytes l.initial.marks l.n 0))
