-- Assumes nothing.
use mathlib.Core.Path.{◌≡◌}
use Prim.Native.Nat.{◌-◌}
use Rattle.bits.specs.Loop.{fold}
use Rattle.bursts.specs.Rows.{mark_if}
use Rattle.bursts.specs.Reroute.{leaf_at, leaves_of}
use Rattle.bursts.proofs.reroute.leaves_of.Given as goal

abbrev pub invariant-loop-i : goal.invariant-loop-i
invariant-loop-i l = fold (mark_if (leaf_at l.s)) (62 - l.i) l.i l.leaves ≡ leaves_of l.s
