-- Assumes nothing.
use mathlib.Core.Path.{◌≡◌}
use Prim.Native.Nat.{◌-◌}
use Rattle.config.specs.Checks.{room_on, room}
use Rattle.config.proofs.room.Given as goal

abbrev pub invariant-loop-n : goal.invariant-loop-n
invariant-loop-n l = room_on l.d l.max l.level (64 - l.n) l.n ≡ room l.d l.max l.level
