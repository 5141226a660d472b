-- The loop's invariant: what stays so far, with what is to be asked, is the whole. Assumes nothing.
use mathlib.Core.Path.{◌≡◌}
use mathlib.Core.List.{◌++◌}
use Prim.Native.Nat.{◌-◌, ◌≤◌}
use lib.ListN.{length}
use Rattle.outbox.specs.Outbox as O
use Rattle.outbox.specs.Senders as S
use Rattle.outbox.proofs.leave.drop_finished.Given as goal

abbrev pub invariant-loop-i : goal.invariant-loop-i
invariant-loop-i l = (l.i ≤ S.count_of l.s) × (l.s.next ≡ l.initial.s.next) × (length l.bytes ≡ length l.initial.bytes) × (length l.marks ≡ length l.initial.marks) × (16384 ≤ length l.initial.bytes) × (16384 ≤ length l.initial.marks) × (S.msgs l.s l.bytes l.marks l.i 0 ++ O.retain O.unfinished (S.msgs l.s l.bytes l.marks (S.count_of l.s - l.i) l.i) ≡ O.retain O.unfinished (S.msgs l.initial.s l.initial.bytes l.initial.marks (S.count_of l.initial.s) 0))

abbrev pub decreases-loop-i : goal.decreases-loop-i
decreases-loop-i l = S.count_of l.s - l.i
