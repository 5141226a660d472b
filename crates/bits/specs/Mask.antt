-- A set of slots below 64 as a number: slot i is in the set where bit i of the number is 1 (document 01, 'Member': the mask of used slots).
use Rattle.std.specs.Prelude.{ℕ, zero, suc, ◌+◌, ◌-◌, ◌/◌, ◌%◌, ◌^◌, Bool, not, cond, List, [], ◌∷◌, eqb, ltb, Option}
use Rattle.std.specs.Int.Bits.{bit_and, bit_or}
use Rattle.bits.specs.Loop.{first}

unfoldable pub has_bit : ℕ → ℕ → Bool
has_bit m i = eqb (m / 2 ^ i % 2) 1

-- the set with slot i, and without it; from 64 on there is no slot
unfoldable pub with_bit : ℕ → ℕ → ℕ
with_bit m i = cond (ltb i 64) (cond (has_bit m i) m (m + 2 ^ i)) m

unfoldable pub without_bit : ℕ → ℕ → ℕ
without_bit m i = cond (has_bit m i) (m - 2 ^ i) m

-- the slots of both sets, of either, and of the first without those of the second
unfoldable pub both_of : ℕ → ℕ → ℕ
both_of a b = bit_and a b

unfoldable pub either_of : ℕ → ℕ → ℕ
either_of a b = bit_or a b

unfoldable pub minus_of : ℕ → ℕ → ℕ
minus_of a b = bit_and a (2 ^ 64 - 1 - b)

-- the least slot of the set, and the least of `count` slots that is not in it
unfoldable pub lowest_bit : ℕ → Option ℕ
lowest_bit m = first (has_bit m) 64 0

unfoldable pub lowest_free : ℕ → ℕ → Option ℕ
lowest_free m count = first (λ s. not (has_bit m s)) count 0

-- of n slots from i on those in the set, rising
unfoldable pub slots_of : ℕ → ℕ → ℕ → List ℕ
slots_of m zero i = []
slots_of m (suc n) i = cond (has_bit m i) (i ∷ slots_of m n (suc i)) (slots_of m n (suc i))
