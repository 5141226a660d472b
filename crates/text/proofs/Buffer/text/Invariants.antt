-- The invariant: the bytes of s from the next on are still to be written.
use lib.ListN.{drop}
use Rattle.out.proofs.Laws.{Still}
use Rattle.text.proofs.Buffer.text.Given as goal

abbrev pub invariant-loop-b : goal.invariant-loop-b
invariant-loop-b l = Still l.initial.self.bytes l.initial.self.end l.s l.self.bytes l.self.end (drop l.b-index l.s)
