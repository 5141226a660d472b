-- Assumes nothing.
use mathlib.Core.Path.{◌≡◌}
use Prim.Native.Nat.{◌-◌}
use Rattle.bits.specs.Loop.{any}
use Rattle.bursts.specs.Rows.{hole_at, any_holes}
use Rattle.bursts.proofs.rows.any_holes.Given as goal

abbrev pub invariant-loop-i : goal.invariant-loop-i
invariant-loop-i l = any (hole_at l.s) (62 - l.i) l.i ≡ any_holes l.s
