-- Assumes nothing.
use Rattle.bits.specs.Loop.{any}
use mathlib.Core.Path.{◌≡◌}
use Prim.Native.Nat.{◌-◌}
use Rattle.roster.specs.Relays.{hears_it, any_hears}
use Rattle.roster.proofs.relay.any_hears.Given as goal

abbrev pub invariant-loop-i : goal.invariant-loop-i
invariant-loop-i l = any (hears_it l.hears l.left l.a) (62 - l.i) l.i ≡ any_hears l.hears l.left l.a
