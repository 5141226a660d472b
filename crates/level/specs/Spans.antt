-- What a number handed in may be: document 01, Settings and the refusals 1, 2 and 5. Definitions only.
use Rattle.std.specs.Prelude.{ℕ, ◌*◌, Bool, false, not, ◌&&◌, ◌||◌, leb, eqb, Float}
use Rattle.std.specs.Float.{nan, inf, fin}
use Rattle.std.specs.Float.Ieee.{up, down}

-- `fin s m e` is m * 2 ^ e, which is m * up e / down e, negative where s is true.
-- a finite number from 0 to n, -0 included
abbrev pub up_to : ℕ → Float → Bool
up_to n nan = false
up_to n (inf s) = false
up_to n (fin s m e) = (not s || eqb m 0) && leb (m * up e) (n * down e)

-- a finite number from -n to n
abbrev pub within : ℕ → Float → Bool
within n nan = false
within n (inf s) = false
within n (fin s m e) = leb (m * up e) (n * down e)
