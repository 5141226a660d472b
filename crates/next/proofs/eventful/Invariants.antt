-- Assumes nothing.
use Rattle.std.proofs.Common.{◌≡◌, ◌-◌}
use Rattle.bits.specs.Loop.{any}
use Rattle.next.specs.Code.Decision.{eventful_in}
use Rattle.next.proofs.eventful.Given as goal

abbrev pub invariant-loop-i : goal.invariant-loop-i
invariant-loop-i l = any (eventful_in l.ms l.used l.g) (62 - l.i) l.i ≡ any (eventful_in l.ms l.used l.g) 62 0
