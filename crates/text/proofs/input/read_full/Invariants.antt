-- `read_full` ends, since each turn leaves less to fill.
use mathlib.Core.Path.{◌≡◌}
use Prim.Native.Nat.{◌-◌, ◌^◌, ◌≤◌, ◌<◌}
use lib.ListN.{length}
use Rattle.text.proofs.input.read_full.Given as goal

abbrev pub invariant-loop-done : goal.invariant-loop-done
invariant-loop-done l = (length l.b ≡ length l.initial.b) × (l.done ≤ length l.b) × (length l.b < 2 ^ 64)

abbrev pub decreases-loop-done : goal.decreases-loop-done
decreases-loop-done l = length l.b - l.done
