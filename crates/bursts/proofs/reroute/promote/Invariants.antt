-- Assumes nothing.
use Rattle.bursts.specs.Reroute.{promote_at, promote_all}
use Rattle.bursts.proofs.Saying.{Going}
use Rattle.bursts.proofs.reroute.promote.Given as goal

abbrev pub invariant-loop-i : goal.invariant-loop-i
invariant-loop-i l = Going (promote_at l.floor) (promote_all l.initial.s) l.initial.o l.i l.s l.o
