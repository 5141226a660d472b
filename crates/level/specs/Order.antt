-- The order of levels in ncs.rs, Rust's `total_cmp` on values that are no NaN: the order of numbers, and -0 below +0. `f64::min` on times. Definitions only.
use Rattle.std.specs.Prelude.{Bool, true, false, cond, not, ◌&&◌, ◌||◌, Float}
use Rattle.std.specs.Float.{nan, inf, fin}
use Rattle.std.specs.Float.Ieee.{lt, eq}

abbrev pub negative : Float → Bool
negative nan = false
negative (inf s) = s
negative (fin s m e) = s

unfoldable pub total_lt : Float → Float → Bool
total_lt x y = lt x y || (eq x y && (negative x && not (negative y)))

abbrev pub is_nan : Float → Bool
is_nan nan = true
is_nan (inf s) = false
is_nan (fin s m e) = false

-- `a.min(b)`: the lesser of two times, and b where a is a NaN; of two zeros of unlike sign a
abbrev pub least : Float → Float → Float
least a b = cond (is_nan a || lt b a) b a
