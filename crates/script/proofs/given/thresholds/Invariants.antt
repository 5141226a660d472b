-- The floats before i are read.
use Rattle.std.proofs.Common.{◌≡◌, length, take}
use Rattle.script.specs.Settings.{f32s_at}
use Rattle.script.proofs.given.thresholds.Given as goal

abbrev pub invariant-loop-i : goal.invariant-loop-i
invariant-loop-i l = (length l.t ≡ 17) × (take l.i l.t ≡ f32s_at l.p l.i 88)
