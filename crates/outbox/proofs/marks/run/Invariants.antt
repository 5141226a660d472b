-- The loop's invariant: what was counted, with what is left to count, is the whole. Assumes nothing.
use mathlib.Core.Path.{◌≡◌}
use Prim.Native.Nat.{◌+◌, ◌-◌}
use lib.ListN.{drop}
use Rattle.outbox.specs.Marks as M
use Rattle.outbox.proofs.marks.run.Given as goal

abbrev pub invariant-loop-k : goal.invariant-loop-k
invariant-loop-k l = l.k - l.i + M.run (drop l.k l.marks) ≡ M.run (drop l.i l.marks)
