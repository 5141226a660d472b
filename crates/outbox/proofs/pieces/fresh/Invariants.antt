-- The loop's invariant: what was cut and what is to be cut is the whole. Assumes nothing.
use Prim.Native.Nat.{◌-◌}
use lib.ListN.{length}
use Rattle.outbox.proofs.Passes as P
use Rattle.outbox.proofs.pieces.fresh.Given as goal

abbrev pub invariant-loop-c : goal.invariant-loop-c
invariant-loop-c l = P.Cutting l.max l.seq l.whole l.initial.o l.initial.left l.cut l.initial.marks l.o l.marks l.left l.c

abbrev pub decreases-loop-c : goal.decreases-loop-c
decreases-loop-c l = length l.whole - l.c
