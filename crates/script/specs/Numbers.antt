-- Numbers in a frame's payload p, lowest byte first, and the bits of floats (IEEE 754).
use Rattle.std.specs.Prelude.{ℕ, ◌+◌, ◌*◌, Bool, cond, List, ltb, get_or, Float}
use Rattle.std.specs.Float.{Format, binary32, binary64}
use Rattle.std.specs.Float.Ieee.{of_bits, to_bits, nan_bits, is_nan}

-- the u32 and the u64 whose first byte is at `at`; 0 where the 255 bytes do not hold it whole
unfoldable pub u32_at : List ℕ → ℕ → ℕ
u32_at p at = cond (ltb 251 at) 0 (get_or p at 0 + 256 * get_or p (at + 1) 0 + 65536 * get_or p (at + 2) 0 + 16777216 * get_or p (at + 3) 0)

unfoldable pub u64_at : List ℕ → ℕ → ℕ
u64_at p at = cond (ltb 247 at) 0 (u32_at p at + 4294967296 * u32_at p (at + 4))

-- the pattern there is a NaN's
abbrev pub nan32_at : List ℕ → ℕ → Bool
nan32_at p at = nan_bits binary32 (u32_at p at)

abbrev pub nan64_at : List ℕ → ℕ → Bool
nan64_at p at = nan_bits binary64 (u64_at p at)

-- the float of a pattern; 0.0 for a NaN's
unfoldable pub float_of : Format → ℕ → Float
float_of f b = cond (nan_bits f b) (of_bits f 0) (of_bits f b)

abbrev pub f32_at : List ℕ → ℕ → Float
f32_at p at = float_of binary32 (u32_at p at)

abbrev pub f64_at : List ℕ → ℕ → Float
f64_at p at = float_of binary64 (u64_at p at)

-- the pattern of x; a NaN's is that with the fraction's first bit alone
unfoldable pub bits32 : Float → ℕ
bits32 x = cond (is_nan x) 0x7fc0_0000 (to_bits binary32 x)

unfoldable pub bits64 : Float → ℕ
bits64 x = cond (is_nan x) 0x7ff8_0000_0000_0000 (to_bits binary64 x)
