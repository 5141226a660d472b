-- What stands at each place of the sheet, by the values of its characters. Assumes nothing.
use mathlib.Core.Path.{◌≡◌, refl, sym, ap, ◌∙◌}
use mathlib.Core.List.{List, [], ◌∷◌}
use Prim.Native.Nat.{ℕ, zero, suc, ◌+◌, ◌*◌, ◌/◌, ◌%◌, ◌<◌}
use native.Mathlib.Omega.{arith}
use lib.ListN.{length, get_or}
use Rattle.wire.specs.Call.{digit, char, packed, pad}
use Rattle.wire.proofs.Trip.{digit_char}
use Rattle.sheet.specs.Sheet.{counted, characters, calls_from, short_calls}
use Rattle.sheet.proofs.Rows.{length_map, get_or_map, length_counted, get_or_counted, length_rows, get_or_rows}

-- the call of the characters of values a and b, where 0 is the space
abbrev pub pair : ℕ → ℕ → List ℕ
pair a b = pad 7 (char a ∷ char b ∷ [])

pub space_char : char 0 ≡ 32
unfolding char
space_char = refl

pub space_value : digit 32 ≡ 0
unfolding digit
space_value = refl

pub space : char (digit 32) ≡ 32
space = ap char space_value ∙ space_char

pub pair_one : (c : ℕ) → pad 7 (c ∷ char 0 ∷ []) ≡ pad 7 (c ∷ [])
unfolding char
pair_one c = refl

-- ---- the characters

pub length_characters : length characters ≡ 37
unfolding characters
length_characters = length_map char (counted 37 1) ∙ length_counted 37 1

pub character_at : (i : ℕ) → i < 37 → get_or characters i 0 ≡ char (suc i)
unfolding characters
character_at i h =
    get_or_map char (counted 37 1) i 0 0 (omega (arith, length_counted 37 1)) ∙ ap char (get_or_counted 37 1 i h ∙ omega arith)

-- ---- the calls of one first character

pub length_from : (a : ℕ) → length (calls_from a) ≡ 38
unfolding calls_from
length_from a = ap suc (length_map (λ b. pad 7 (a ∷ b ∷ [])) characters ∙ length_characters)

from_at : (a b : ℕ) → b < 38 → get_or (calls_from (char a)) b [] ≡ pair a b
unfolding calls_from char
from_at a zero h = refl
from_at a (suc b) h =
    get_or_map (λ c. pad 7 (char a ∷ c ∷ [])) characters b 0 [] (omega (arith, length_characters)) ∙ ap (λ (c : ℕ). pad 7 (char a ∷ c ∷ [])) (character_at b (omega arith))

-- ---- all of them

pub length_short : length short_calls ≡ 1407
unfolding short_calls
length_short = omega (arith, length_rows calls_from 38 length_from characters, length_characters)

pub first_place : get_or short_calls 0 [] ≡ pad 7 []
unfolding short_calls
first_place = refl

-- the place of the call of the values a and b
pub place : (a b : ℕ) → a < 37 → b < 38 → get_or short_calls (suc (38 * a + b)) [] ≡ pair (suc a) b
unfolding short_calls
place a b h k =
    get_or_rows calls_from 38 length_from characters a b 0 [] (omega (arith, length_characters)) k
    ∙ ap (λ (c : ℕ). get_or (calls_from c) b []) (character_at a h)
    ∙ from_at (suc a) b k

-- what stands at place k + 1: the two values are those of k in base 38, the first of them one more
pub place_of : (k : ℕ) → suc k < 1407 → get_or short_calls (suc k) [] ≡ pair (suc (k / 38)) (k % 38)
place_of k h =
    let e : suc k ≡ suc (38 * (k / 38) + k % 38) = omega arith in
    ap (λ (n : ℕ). get_or short_calls n []) e ∙ place (k / 38) (k % 38) (omega arith) (omega arith)

-- ---- their numbers

pub pair_packed : (a b : ℕ) → a < 38 → b < 38 → packed (pair a b) ≡ (38 * a + b) * 79235168
pair_packed a b h k = omega (arith, space_value, digit_char a h, digit_char b k)

pub number_first : packed (get_or short_calls 0 []) ≡ 0
unfolding digit
number_first = rw first_place

pub number_of : (k : ℕ) → suc k < 1407 → packed (get_or short_calls (suc k) []) ≡ (suc k + 37) * 79235168
number_of k h = ap packed (place_of k h) ∙ pair_packed (suc (k / 38)) (k % 38) (omega arith) (omega arith) ∙ omega arith

pub number_at : (k : ℕ) → (k ≡ 0 → ⊥) → k < 1407 → (k + 37) * 79235168 ≡ packed (get_or short_calls k [])
number_at zero z h = absurd (z refl)
number_at (suc k) z h = sym (number_of k h)
