-- The invariant: the lowest of all is the lowest so far and those still to be read. Assumes nothing.
use mathlib.Core.Path.{◌≡◌}
use Prim.Native.Nat.{◌-◌, ◌<◌}
use Rattle.recent.specs.Readings.{least_from, back_from}
use Rattle.recent.proofs.worst.Given as goal

abbrev pub invariant-loop : goal.invariant-loop
invariant-loop l = (l.p < 32) × (least_from l.low (back_from l.levels l.p (l.n - l.counter)) ≡ least_from l.initial.low (back_from l.levels l.initial.p l.n))
