-- Assumes nothing.
use mathlib.Core.Path.{◌≡◌}
use Prim.Native.Nat.{◌-◌}
use Rattle.bits.specs.Loop.{first}
use Rattle.admit.specs.Admission.{find_call, has_call}
use Rattle.admit.proofs.find_call.Given as goal

abbrev pub invariant-loop-i : goal.invariant-loop-i
invariant-loop-i l = first (has_call l.s l.key) (62 - l.i) l.i ≡ find_call l.s l.key
