-- As many shifts as turns are left. Assumes nothing.
use mathlib.Core.Path.{◌≡◌}
use Prim.Native.Nat.{◌-◌}
use Rattle.wire.proofs.Packed.{times}
use Rattle.wire.proofs.calls.unpack_number.Given as goal

abbrev pub invariant-loop : goal.invariant-loop
invariant-loop l = times (7 - l.counter) l.c ≡ times 7 l.initial.c
