-- `words::shape_of` meets its contract. The invariant: the shape of the whole is the shape of what is left, with n frames before it.
-- Assumes nothing.
use mathlib.Core.Path.{◌≡◌}
use Prim.Native.Nat.{◌-◌, ◌≤◌}
use lib.ListN.{length, drop}
use Rattle.words.specs.Words.{shape_of, parse, frames_of}
use Rattle.words.proofs.Laws.{shape_from}
use Rattle.words.proofs.shape_of.Given as goal

abbrev pub invariant-loop-n : goal.invariant-loop-n
invariant-loop-n l = (l.at ≤ length l.words) × (shape_of (parse l.words) ≡ shape_from l.n (frames_of (64 - l.n) (drop l.at l.words)))
