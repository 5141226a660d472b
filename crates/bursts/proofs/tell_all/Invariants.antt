-- Assumes nothing.
use mathlib.Core.Path.{◌≡◌}
use Prim.Native.Nat.{◌-◌}
use Rattle.bits.specs.Loop.{fold}
use Rattle.bursts.specs.Bursts.{tell_at, tell_all}
use Rattle.bursts.proofs.tell_all.Given as goal

abbrev pub invariant-loop-i : goal.invariant-loop-i
invariant-loop-i l = fold tell_at (62 - l.i) l.i l.s ≡ tell_all l.initial.s
