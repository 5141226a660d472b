-- What is promised of smoothing: the smoothed level lies between the old one and the new. Definitions only.
use Rattle.std.specs.Prelude.{◌*◌, ◌^◌, Bool, false, ◌||◌, T, ◌⊎◌, ◌==◌, nat_le, Float}
use Rattle.std.specs.Float.{nan, inf, fin}
use Rattle.std.specs.Float.Ieee.{up, down, le}

-- a finite number that is zero, or at least 2 ^ -100 in size: `fin s m e` is m * 2 ^ e, which is m * up e / down e
abbrev pub sized : Float → Bool
sized nan = false
sized (inf s) = false
sized (fin s m e) = m == 0 || nat_le (down e) (m * up e * 2 ^ 100)

-- r lies between old and new, ends included, whichever of the two is the lesser; one of them is at most the other
pub record Between (old new r : Float) : Type 0 where
  pub ordered : T (le old new) ⊎ T (le new old)
  pub rising : T (le old new) → T (le old r) × T (le r new)
  pub falling : T (le new old) → T (le new r) × T (le r old)
