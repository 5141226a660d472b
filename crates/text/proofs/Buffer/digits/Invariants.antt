-- The invariant: the last k digits are still to be written.

use Rattle.text.specs.Digits.{digits_of}
use Rattle.out.proofs.Laws.{Still}
use Rattle.text.proofs.Buffer.digits.Given as goal

abbrev pub invariant-loop-k : goal.invariant-loop-k
invariant-loop-k l = Still l.initial.self.bytes l.initial.self.end (digits_of l.small l.v l.digits) l.self.bytes l.self.end (digits_of l.small l.v l.k)
