-- Assumes nothing.
use mathlib.Core.Path.{◌≡◌}
use mathlib.Core.List.{[]}
use Rattle.net.specs.Net.{said}
use Rattle.bursts.specs.Reroute.{able_of, move_at, move_all}
use Rattle.bursts.proofs.Saying.{Going}
use Rattle.bursts.proofs.reroute.move_leaves.Given as goal

abbrev pub invariant-loop-c : goal.invariant-loop-c
invariant-loop-c l = (l.free ≡ able_of l.s) × Going (move_at l.leaves) (move_all (said l.initial.s [])) l.initial.o l.c l.s l.o
