-- A time in milliseconds as a number of 16 bits, as the beacon announces it. Definitions only.
use Rattle.std.specs.Prelude.{ℕ, ◌+◌, ◌*◌, ◌/◌, ◌≤◌, min, cond, Float}
use Rattle.std.specs.Float.{nan, inf, fin}
use Rattle.std.specs.Float.Ieee.{up, down}

-- IEEE 754 roundToIntegralTiesToAway of num / den, which is not negative: the nearest whole number, a tie away from zero.
-- It is num / den + 1 / 2 cut to a whole number.
abbrev pub away : ℕ → ℕ → ℕ
away num den = (2 * num + den) / (2 * den)

-- x rounded so, and then brought into 0 to 65535. A NaN gives 0, as Rust's `as u16` does.
unfoldable pub announced : Float → ℕ
announced nan = 0
announced (inf s) = cond s 0 65535
announced (fin s m e) = cond s 0 (min 65535 (away (m * up e) (down e)))

-- the whole number r is within one half of num / den: |2 * r * den - 2 * num| ≤ den, as two inequalities of whole numbers
pub record Close (r num den : ℕ) : Type 0 where
  pub below : 2 * num ≤ (2 * r + 1) * den
  pub above : 2 * (r * den) ≤ 2 * num + den
