-- Assumes nothing.
use mathlib.Core.Path.{◌≡◌}
use Prim.Native.Nat.{◌-◌}
use Rattle.bits.specs.Loop.{fold}
use Rattle.bursts.specs.Rows.{or_floor, reach_at, least_reach}
use Rattle.bursts.proofs.rows.least_reach.Given as goal

abbrev pub invariant-loop-i : goal.invariant-loop-i
invariant-loop-i l = or_floor (fold (reach_at l.s l.mask) (62 - l.i) l.i l.lev) ≡ least_reach l.s l.mask
