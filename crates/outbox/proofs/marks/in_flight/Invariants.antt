-- The loop's invariant: what was counted, with what is left to count, is the whole. Assumes nothing.
use mathlib.Core.Path.{◌≡◌}
use Prim.Native.Nat.{◌+◌, ◌≤◌}
use lib.ListN.{drop}
use Rattle.outbox.specs.Marks as M
use Rattle.outbox.proofs.Said as P
use Rattle.outbox.specs.Outbox.{lens}
use Rattle.outbox.proofs.marks.in_flight.Given as goal

abbrev pub invariant-loop-m : goal.invariant-loop-m
invariant-loop-m l = (l.n ≤ l.m-index) × (l.n + P.flight l.s l.m-index (drop l.m-index l.marks) ≡ lens (M.pieces 0 l.marks))
