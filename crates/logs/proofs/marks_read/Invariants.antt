-- Assumes nothing.
use mathlib.Core.Path.{◌≡◌}
use lib.ListN.{drop}
use Rattle.logs.specs.Steps.{walk, marks, mark_step}
use Rattle.logs.proofs.marks_read.Given as goal

abbrev pub invariant-loop-w : goal.invariant-loop-w
invariant-loop-w l = walk mark_step (marks 0 0) l.words ≡ walk mark_step l.m (drop l.w-index l.words)
