-- Assumes nothing.
use mathlib.Core.Path.{◌≡◌}
use Prim.Native.Nat.{◌-◌}
use Rattle.bits.specs.Loop.{fold}
use Rattle.bursts.specs.Rows.{or_floor, direct_at, least_direct}
use Rattle.bursts.proofs.rows.least_direct.Given as goal

abbrev pub invariant-loop-i : goal.invariant-loop-i
invariant-loop-i l = or_floor (fold (direct_at l.s) (62 - l.i) l.i l.lev) ≡ least_direct l.s
