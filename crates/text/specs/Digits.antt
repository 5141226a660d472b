-- Digits of a number, as bytes of text.
use Rattle.std.specs.Prelude.{Bool, cond, List, [], ◌∷◌, ◌++◌, ℕ, zero, suc, ◌+◌, ◌-◌, ◌*◌, ◌/◌, ◌%◌, ◌^◌, ◌<◌, ◌≤◌, ltb, nat_lt}
use Rattle.out.specs.Encode.{Wrote}

-- a hexadecimal digit: 0 to 9, then a to f in small letters or in capitals
abbrev pub glyph : Bool → ℕ → ℕ
glyph small d = cond (ltb (d % 16) 10) (d % 16 + 48) (cond small (d % 16 + 87) (d % 16 + 55))

-- digit k of v, the lowest being 0; a number of 64 bits has 16
abbrev pub digit_of : ℕ → ℕ → ℕ
digit_of v k = cond (ltb k 16) (v / 2 ^ (4 * k) % 16) 0

-- the last k digits of v, the highest first
unfoldable pub digits_of : Bool → ℕ → ℕ → List ℕ
digits_of small v zero = []
digits_of small v (suc k) = glyph small (digit_of v k) ∷ digits_of small v k

-- the ASCII code of a digit below 16: `0` to `9`, then `a` to `f`
abbrev pub digit_code : ℕ → ℕ
digit_code d = cond (nat_lt d 10) (48 + d) (87 + d)

-- the last k digits of n in base b, the most significant first
abbrev pub last_digits : ℕ → ℕ → ℕ → List ℕ
last_digits b zero n = []
last_digits b (suc k) n = last_digits b k (n / b) ++ (digit_code (n % b) ∷ [])

-- n takes k digits in base b, when padded to `width` digits
abbrev pub IsDigitCount : ℕ → ℕ → ℕ → ℕ → Type 0
IsDigitCount b width n k = (width ≤ k) × (n < b ^ k) × (width < k → b ^ (k - 1) ≤ n)

-- the decimal digits of v, as many as it needs and one at least
pub record Decimal (t : List ℕ) (at v : ℕ) (u : List ℕ) (end : ℕ) : Type 0 where
  pub count : ℕ
  pub fewest : IsDigitCount 10 1 v count
  pub wrote : Wrote t at (last_digits 10 count v) u end
