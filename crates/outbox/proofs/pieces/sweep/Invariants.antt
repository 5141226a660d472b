-- The loop's invariant: what was done and what is to be done from i on is the whole. Assumes nothing.
use Rattle.outbox.proofs.Passes as P
use Rattle.outbox.proofs.pieces.sweep.Given as goal

abbrev pub invariant-loop-i : goal.invariant-loop-i
invariant-loop-i l = P.Sweeping l.mark l.seq l.whole l.initial.o l.initial.left l.initial.marks l.o l.marks l.left l.i
