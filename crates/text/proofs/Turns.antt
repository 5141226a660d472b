-- What a turn of a writing loop leaves to write.
use mathlib.Core.Path.{◌≡◌, refl}
use mathlib.Core.Bool.{Bool}
use mathlib.Core.List.{List, [], ◌∷◌, ◌++◌}
use Prim.Native.Nat.{ℕ, zero, suc, ◌-◌, ◌<◌, ◌≤◌, ◌+◌}
use native.Mathlib.Numerals.{add-one}
use native.Mathlib.Omega.{arith}
use lib.ListN.{length, drop, get_or, drop_of_length-le}
use lib.Seq.{drop-cons}
use Rattle.text.specs.Digits.{glyph, digit_of, digits_of}

-- the bytes from i on: one, and those from the next on
pub text_turn : (s : List ℕ) (i : ℕ) → i < length s → drop i s ≡ (get_or s i 0 ∷ []) ++ drop (i + 1) s
text_turn s i h = rw (add-one, drop-cons s i 0)

-- k digits: one, and those below it
pub digits_turn : (small : Bool) (v k d b : ℕ) → 0 < k → d ≡ digit_of v (k - 1) → b ≡ glyph small d → digits_of small v k ≡ (b ∷ []) ++ digits_of small v (k - 1)
unfolding digits_of
digits_turn small v zero d b h e g = absurd (omega arith)
digits_turn small v (suc k) d b h e g =
    let z : suc k - 1 ≡ k = omega arith in
    rw (z, g, e, z)

-- at the end nothing is left
pub text_end : (s : List ℕ) (i : ℕ) → length s ≤ i → drop i s ≡ []
text_end s i h = drop_of_length-le s h

pub digits_end : (small : Bool) (v k : ℕ) → k ≤ 0 → digits_of small v k ≡ []
unfolding digits_of
digits_end small v zero h = refl
digits_end small v (suc k) h = absurd (omega arith)
