-- Assumes nothing.
use Rattle.std.proofs.Common.{◌≡◌, ◌-◌}
use Rattle.bits.specs.Loop.{fold}
use Rattle.next.specs.Code.Decision.{tell_in, told_in}
use Rattle.next.proofs.told_in.Given as goal

abbrev pub invariant-loop-i : goal.invariant-loop-i
invariant-loop-i l = fold (tell_in l.due l.used) (62 - l.i) l.i l.ks ≡ told_in l.due l.used l.initial.ks
