-- The invariant: the first i elements are done. Assumes nothing.
use mathlib.Core.Path.{◌≡◌}
use mathlib.Core.List.{map}
use lib.ListN.{length, take}
use Rattle.shore.proofs.pack.each.Given as goal

abbrev pub invariant-loop-i : goal.invariant-loop-i
invariant-loop-i g l =
    (length l.out ≡ 62)
    × ((h : g.row.A.Denot → g.row.B.Denot) → ((x : g.row.A.Denot) (y : g.row.B.Denot) → goal.F-post g l.f x y → y ≡ h x) → take l.i l.out ≡ map h (take l.i l.xs))
