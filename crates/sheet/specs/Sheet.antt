-- All short calls: the sheet of the calls of up to two characters that a port hands out, and what an output holds with it. Definitions only.
use Rattle.std.specs.Prelude.{◌≡◌, cond, ℕ, zero, suc, ltb, length, drop}
use mathlib.Core.List.{List, [], ◌∷◌, ◌++◌, map, flat_map, flatten}
use Rattle.wire.specs.Call.{digit, char, pad}

-- n numbers, from i on
unfoldable pub counted : ℕ → ℕ → List ℕ
counted zero i = []
counted (suc n) i = i ∷ counted n (suc i)

-- the 37 characters that are not space, which is the character of value 0
unfoldable pub characters : List ℕ
characters = map char (counted 37 1)

-- the calls that begin with a: it alone, then it with each second character
unfoldable pub calls_from : ℕ → List (List ℕ)
calls_from a = pad 7 (a ∷ []) ∷ map (λ b. pad 7 (a ∷ b ∷ [])) characters

-- the empty call, then those of each first character; each as a call is held, seven bytes, padded right
unfoldable pub short_calls : List (List ℕ)
short_calls = pad 7 [] ∷ flat_map calls_from characters

-- the sheet: their bytes one after the other
unfoldable pub sheet : List ℕ
sheet = flatten short_calls

-- how many bytes it has
abbrev pub sheet_bytes : ℕ
sheet_bytes = 9849

-- 4 for an output below that
abbrev pub refusal : List ℕ → ℕ
refusal out = cond (ltb (length out) sheet_bytes) 4 0

-- what the output then holds: refused, what it held; else the sheet at its front, and behind it what was there
abbrev pub written : List ℕ → List ℕ
written out = cond (ltb (length out) sheet_bytes) out (sheet ++ drop sheet_bytes out)

-- one of the 38 characters other than the space
pub record NotSpace (c : ℕ) : Type 0 where
  pub known : char (digit c) ≡ c
  pub other : c ≡ 32 → ⊥

-- a call of at most two characters that are not space
pub data Short : List ℕ → Type 0 where
  empty : Short (pad 7 [])
  one : {a : ℕ} → NotSpace a → Short (pad 7 (a ∷ []))
  two : {a b : ℕ} → NotSpace a → NotSpace b → Short (pad 7 (a ∷ b ∷ []))
