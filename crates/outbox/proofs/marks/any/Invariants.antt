-- The loop's invariant: what is left to search says what the whole does. Assumes nothing.
use mathlib.Core.Path.{◌≡◌}
use lib.ListN.{drop}
use Rattle.outbox.specs.Marks as M
use Rattle.outbox.specs.Outbox.{some}
use Rattle.outbox.proofs.marks.any.Given as goal

abbrev pub invariant-loop-m : goal.invariant-loop-m
invariant-loop-m l = (some (M.pieces l.m-index (drop l.m-index l.marks)) ≡ some (M.pieces 0 l.marks))
