-- The calls one after the other, put together by `next_said`: `n` is where the ways round a burst to all meet, `j` where those round the end of a round do. Assumes nothing.
use Rattle.next.proofs.Looks.{Looking}
use Rattle.next.proofs.ncs_next.Given as goal

abbrev pub invariant-loop-j : goal.invariant-loop-j
invariant-loop-j l = Looking l.s l.slot l.end l.seen l.j
