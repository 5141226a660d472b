-- `level::level_of` meets its contract. The invariant: no level from l on is reached, so the answer is that among those below l.
-- Assumes nothing.
use mathlib.Core.Path.{◌≡◌}
use Prim.Native.Nat.{◌≤◌}
use Rattle.level.specs.Levels.{level_below}
use Rattle.level.proofs.level_of.Given as goal

abbrev pub invariant-loop-l : goal.invariant-loop-l
invariant-loop-l l = (l.l ≤ 17) × (level_below l.thresholds l.margin l.snr 17 ≡ level_below l.thresholds l.margin l.snr l.l)
