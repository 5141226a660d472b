-- `smooth`, `level_of` and `tiny_wave`'s choice of level in net.rs, `Option::or` on levels, over the declared Level; a clock that may be missing is an Option of seconds. Definitions only.
use Rattle.std.specs.Prelude.{ℕ, zero, suc, List, Bool, true, false, cond, get_or, Float, Option, Some, None}
use Rattle.std.specs.Float.{nan, binary32}
use Rattle.std.specs.Float.Ieee.{add, mul, le}
use Rattle.level.specs.Consts.{half}
use Rattle.level.specs.declared.Level.{Level}
use Rattle.level.specs.declared.Level.TheVariants.{Unheard, Decibels}

-- 0.5 times old plus 0.5 times new, each operation rounded once; new alone where nothing was heard before
abbrev pub smoothed : Level → Float → Float
smoothed Unheard new = new
smoothed (Decibels old) new = add binary32 (mul binary32 half old) (mul binary32 half new)

-- the greatest l below n with snr >= thresholds[l] + margin, and 0 where there is none
unfoldable pub level_below : List Float → Float → Float → ℕ → ℕ
level_below thresholds margin snr zero = zero
level_below thresholds margin snr (suc l) = cond (le (add binary32 (get_or thresholds l nan) margin) snr) l (level_below thresholds margin snr l)

-- the ladder has 17 levels
abbrev pub level_of : List Float → Float → Float → ℕ
level_of thresholds margin snr = level_below thresholds margin snr 17

-- an unheard station is sent to at the floor
abbrev pub level_for : List Float → Float → Level → ℕ
level_for thresholds margin Unheard = 0
level_for thresholds margin (Decibels snr) = level_of thresholds margin snr

-- a, or b where a is unheard
abbrev pub or_else : Level → Level → Level
or_else Unheard b = b
or_else (Decibels x) b = Decibels x

-- the decibels that a level is, an `Option<f32>` of the Rust
abbrev pub decibels_in : Level → Option Float
decibels_in Unheard = None
decibels_in (Decibels x) = Some x

abbrev pub is_heard : Level → Bool
is_heard Unheard = false
is_heard (Decibels x) = true
