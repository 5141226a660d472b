-- The loop's invariant: what is done, with what is to be done, is the whole. Assumes nothing.
use mathlib.Core.Path.{◌≡◌}
use mathlib.Core.List.{◌++◌}
use Prim.Native.Nat.{◌≤◌}
use lib.ListN.{length, take, drop}
use Rattle.outbox.specs.Marks as M
use Rattle.outbox.proofs.marks.recut.Given as goal

abbrev pub invariant-loop-i : goal.invariant-loop-i
invariant-loop-i l = (length l.marks ≡ length l.initial.marks) × (l.k ≤ l.max) × (take l.i l.marks ++ M.recut_marks l.max l.s l.k (drop l.i l.marks) ≡ M.recut_marks l.max 0 0 l.initial.marks)
