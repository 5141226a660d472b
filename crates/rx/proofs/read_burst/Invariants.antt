-- Assumes nothing.
use Prim.Native.Nat.{◌-◌}
use Rattle.rx.proofs.Turns.{Going}
use Rattle.rx.proofs.read_burst.Given as goal

abbrev pub invariant-loop-x : goal.invariant-loop-x
invariant-loop-x l = Going l.a l.words l.n l.initial.s l.initial.lent l.initial.o l.lent l.o l.s l.x

abbrev pub decreases-loop-x : goal.decreases-loop-x
decreases-loop-x l = l.n - l.x.frame
