-- Assumes nothing.
use mathlib.Core.Path.{◌≡◌}
use Prim.Native.Nat.{◌-◌}
use Rattle.bursts.specs.Bursts.{beyond}
use Rattle.bursts.proofs.beyond_nine.Given as goal

abbrev pub invariant-loop : goal.invariant-loop
invariant-loop l = beyond (9 - l.counter) l.m ≡ beyond 9 l.mask
