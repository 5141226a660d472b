-- The loop's invariant: what is done, with what is to be done, is the whole. Assumes nothing.
use mathlib.Core.Path.{◌≡◌}
use mathlib.Core.List.{◌++◌}
use lib.ListN.{take, drop}
use Rattle.outbox.specs.Marks as M
use Rattle.outbox.proofs.marks.stale.Given as goal

abbrev pub invariant-loop-m : goal.invariant-loop-m
invariant-loop-m l = (take l.m-index l.marks ++ M.stale_marks (drop l.m-index l.marks) ≡ M.stale_marks l.initial.marks)
