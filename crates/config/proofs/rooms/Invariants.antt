-- The invariant: the rooms of the first i levels stand, and zeros behind them. Assumes nothing.
use mathlib.Core.Path.{◌≡◌}
use mathlib.Core.List.{◌++◌}
use Prim.Native.Nat.{◌-◌}
use lib.ListN.{replicate}
use Rattle.config.specs.Checks.{rooms_from}
use Rattle.config.proofs.rooms.Given as goal

abbrev pub invariant-loop-i : goal.invariant-loop-i
invariant-loop-i l = l.r ≡ rooms_from l.d l.max l.i 0 ++ replicate (17 - l.i) 0
