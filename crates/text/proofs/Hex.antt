-- What a turn of `hex_value` leaves to read.
use Rattle.std.proofs.Common.{◌≡◌, ◌<◌, ◌%◌, ◌+◌, ◌*◌, ℕ, List, [], ◌∷◌, drop, length, subst, ◌∙◌, arith, slice_index}
use Rattle.std.specs.Char.{digit_value}
use Rattle.std.specs.Str.Parse.{AllDigits, digits_value, digits_value_after}
use Rattle.std.proofs.lemmas.List.{drop_more}

-- the last 32 bits of a number decide the last 32 of what it and further digits make
pub same_low : (a b : ℕ) (ds : List ℕ) → a % 4294967296 ≡ b % 4294967296 → digits_value_after 16 a ds % 4294967296 ≡ digits_value_after 16 b ds % 4294967296
same_low a b [] e = e
same_low a b (c ∷ cs) e = same_low (a * 16 + digit_value c) (b * 16 + digit_value c) cs (omega arith)

-- what the digits from i on say of all digits of s, v being what those before i make
abbrev pub Turn : List ℕ → ℕ → List ℕ → Type 0
Turn s v ds =
    (AllDigits 16 s → AllDigits 16 ds)
    × (AllDigits 16 ds → AllDigits 16 s)
    × (digits_value_after 16 v ds % 4294967296 ≡ digits_value 16 s % 4294967296)

pub hex_turn : (s : List ℕ) (i v d : ℕ) → i < length s → d ≡ digit_value (slice_index s i) → digit_value (slice_index s i) < 16 → Turn s v (drop i s) → Turn s (v % 268435456 * 16 + d) (drop (i + 1) s)
hex_turn s i v d h e small inv =
    let now = subst (λ ds. Turn s v ds) (drop_more s i 0 h) inv in
    (λ all. (now.0 all).1, λ rest. now.1 (small, rest), same_low (v % 268435456 * 16 + d) (v * 16 + digit_value (slice_index s i)) (drop (i + 1) s) (omega arith) ∙ now.2)
