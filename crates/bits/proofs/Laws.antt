-- The laws of the masks' definitions, for callers: no proof above this crate opens those definitions.
-- Assumes nothing.
use Rattle.std.specs.Prelude.{Some, None}
use mathlib.Core.Path.{◌≡◌, refl, sym, ap, ◌∙◌}
use mathlib.Core.Logic.{◌≢◌, ⊎_elim}
use mathlib.Core.Bool.{Bool, true, false, not, cond, ◌&&◌, ◌||◌}
use mathlib.Core.List.{◌∷◌}
use Prim.Native.Nat.{ℕ, zero, suc, ◌+◌, ◌-◌, ◌*◌, ◌/◌, ◌%◌, ◌^◌, ◌≤◌, ◌<◌, suc-le-suc}
use native.Mathlib.Nat.{le_of_suc-le-suc}
use native.Mathlib.Omega.{arith}
use lib.Dec.{eqb, ltb}
use lib.Count.{count_trailing_zeros}
use lib.ListN.{length, get_or}
use lib.Bits.{bit_and, bit_or, or_zero_l, and_shr, or_shr, and_mod, or_mod, and_lt, or_lt, and_le_l}
use borrow.Author.Tests.{eqb-true, eqb-false, eq-eqb, ne_eqb, lt-ltb, le-ltb, ltb-true, not-true, not-false}
use Rattle.bits.specs.Mask.{has_bit, with_bit, without_bit, both_of, either_of, minus_of, lowest_free, slots_of}
use Rattle.bits.proofs.Loops.{first_lt, first_found, first_nothing}
use Rattle.bits.proofs.Lists.{le_or_lt}
use Rattle.bits.proofs.Bits.{bit, bit_zero, bit_suc, bit_lt, bit_high, bit_below, bit_above, add_same, add_other, add_fits, sub_same, sub_other, bit_ext, not_bit, trailing_below, trailing_at}

pub has_true : (m i : ℕ) → has_bit m i ≡ true → bit m i ≡ 1
unfolding has_bit
has_true m i h = eqb-true (bit m i) 1 h

pub has_false : (m i : ℕ) → has_bit m i ≡ false → bit m i ≡ 0
unfolding has_bit
has_false m i h = let n = eqb-false (bit m i) 1 h in let l = bit_lt m i in omega arith

pub true_has : (m i : ℕ) → bit m i ≡ 1 → has_bit m i ≡ true
unfolding has_bit
true_has m i h = eq-eqb (bit m i) 1 h

pub false_has : (m i : ℕ) → bit m i ≡ 0 → has_bit m i ≡ false
unfolding has_bit
false_has m i h = ne_eqb (bit m i) 1 (λ e. omega arith)

pub has_bit_lem : (m n i j : ℕ) → bit m i ≡ bit n j → has_bit m i ≡ has_bit n j
unfolding has_bit
has_bit_lem m n i j e = ap (λ (x : ℕ). eqb x 1) e

-- from 64 on nothing is in a mask, and nothing is in the empty one
pub has_high : (m i : ℕ) → m < 2 ^ 64 → 64 ≤ i → has_bit m i ≡ false
has_high m i h l = false_has m i (bit_high 64 m i h l)

pub has_none : (i : ℕ) → has_bit 0 i ≡ false
has_none i = false_has 0 i (bit_high 0 0 i (omega arith) (omega arith))

-- a number of k digits has none from place k on; and a number in two parts, cut at place k
pub has_past : (k m i : ℕ) → m < 2 ^ k → k ≤ i → has_bit m i ≡ false
has_past k m i h l = false_has m i (bit_high k m i h l)

pub has_below : (k a b i : ℕ) → i < k → has_bit (a + 2 ^ k * b) i ≡ has_bit a i
has_below k a b i l = has_bit_lem (a + 2 ^ k * b) a i i (bit_below k a b i l)

pub has_above : (k a b j : ℕ) → a < 2 ^ k → has_bit (a + 2 ^ k * b) (k + j) ≡ has_bit b j
has_above k a b j h = has_bit_lem (a + 2 ^ k * b) b (k + j) j (bit_above k a b j h)

-- the lowest bit, and the others by halving
pub has_zero : (m : ℕ) → has_bit m 0 ≡ eqb (m % 2) 1
unfolding has_bit
has_zero m = ap (λ (x : ℕ). eqb x 1) (bit_zero m)

pub has_half : (m i : ℕ) → has_bit (m / 2) i ≡ has_bit m (suc i)
has_half m i = has_bit_lem (m / 2) m i (suc i) (sym (bit_suc m i))

-- ---- with

with_cases : (m i : ℕ) (b : Bool) → has_bit m i ≡ b → i < 64 → with_bit m i ≡ cond b m (m + 2 ^ i)
unfolding with_bit
with_cases m i b e l = simp (lt-ltb _ _ l, e)

pub with_there : (m i : ℕ) → has_bit m i ≡ true → with_bit m i ≡ m
unfolding with_bit
with_there m i e = go (ltb i 64)
  where
    go : (s : Bool) → cond s (cond (has_bit m i) m (m + 2 ^ i)) m ≡ m
    go true = simp e
    go false = refl

pub with_new : (m i : ℕ) → i < 64 → has_bit m i ≡ false → with_bit m i ≡ m + 2 ^ i
with_new m i l e = with_cases m i false e l

pub with_high : (m i : ℕ) → 64 ≤ i → with_bit m i ≡ m
unfolding with_bit
with_high m i l = simp (le-ltb _ _ l)

pub with_fits : (m i : ℕ) → m < 2 ^ 64 → with_bit m i < 2 ^ 64
unfolding with_bit
with_fits m i h = go (ltb i 64) (has_bit m i) refl refl
  where
    go : (s b : Bool) → ltb i 64 ≡ s → has_bit m i ≡ b → cond s (cond b m (m + 2 ^ i)) m < 2 ^ 64
    go false b e f = h
    go true true e f = h
    go true false e f = add_fits 64 m i h (ltb-true i 64 e) (has_false m i f)

pub with_same : (m i : ℕ) → i < 64 → has_bit (with_bit m i) i ≡ true
with_same m i l = go (has_bit m i) refl
  where
    go : (b : Bool) → has_bit m i ≡ b → has_bit (with_bit m i) i ≡ true
    go true e = ap (λ (x : ℕ). has_bit x i) (with_cases m i true e l) ∙ e
    go false e = ap (λ (x : ℕ). has_bit x i) (with_cases m i false e l) ∙ true_has (m + 2 ^ i) i (add_same m i (has_false m i e))

pub with_other : (m i j : ℕ) → i ≢ j → has_bit (with_bit m i) j ≡ has_bit m j
unfolding with_bit
with_other m i j n = go (ltb i 64) (has_bit m i) refl refl
  where
    go : (s b : Bool) → ltb i 64 ≡ s → has_bit m i ≡ b → has_bit (cond s (cond b m (m + 2 ^ i)) m) j ≡ has_bit m j
    go false b e f = refl
    go true true e f = refl
    go true false e f = has_bit_lem (m + 2 ^ i) m j j (add_other m i j (has_false m i f) n)

-- ---- without

pub without_gone : (m i : ℕ) → has_bit m i ≡ false → without_bit m i ≡ m
unfolding without_bit
without_gone m i e = simp e

pub without_there : (m i : ℕ) → has_bit m i ≡ true → without_bit m i ≡ m - 2 ^ i
unfolding without_bit
without_there m i e = simp e

pub without_fits : (m i : ℕ) → m < 2 ^ 64 → without_bit m i < 2 ^ 64
unfolding without_bit
without_fits m i h = go (has_bit m i)
  where
    go : (b : Bool) → cond b (m - 2 ^ i) m < 2 ^ 64
    go false = h
    go true = omega arith

pub without_same : (m i : ℕ) → has_bit (without_bit m i) i ≡ false
unfolding without_bit
without_same m i = go (has_bit m i) refl
  where
    go : (b : Bool) → has_bit m i ≡ b → has_bit (cond b (m - 2 ^ i) m) i ≡ false
    go false e = e
    go true e = false_has (m - 2 ^ i) i (sub_same m i (has_true m i e))

pub without_other : (m i j : ℕ) → i ≢ j → has_bit (without_bit m i) j ≡ has_bit m j
unfolding without_bit
without_other m i j n = go (has_bit m i) refl
  where
    go : (b : Bool) → has_bit m i ≡ b → has_bit (cond b (m - 2 ^ i) m) j ≡ has_bit m j
    go false e = refl
    go true e = has_bit_lem (m - 2 ^ i) m j j (sub_other m i j (has_true m i e) n)

-- ---- two masks with the same slots are equal

pub mask_ext : (m n : ℕ) → m < 2 ^ 64 → n < 2 ^ 64 → ((i : ℕ) → i < 64 → has_bit m i ≡ has_bit n i) → m ≡ n
mask_ext m n h l e = bit_ext 64 m n h l (λ i q. go i (has_bit m i) refl (e i q))
  where
    go : (i : ℕ) (b : Bool) → has_bit m i ≡ b → has_bit m i ≡ has_bit n i → bit m i ≡ bit n i
    go i true f s = has_true m i f ∙ sym (has_true n i (sym s ∙ f))
    go i false f s = has_false m i f ∙ sym (has_false n i (sym s ∙ f))

-- ---- the trailing zeros of the complement: every slot below them is in the mask, and where they are fewer than 64 the next is not

abbrev pub free_at : ℕ → ℕ
free_at m = count_trailing_zeros 64 (2 ^ 64 - 1 - m)

pub free_below : (m j : ℕ) → m < 2 ^ 64 → j < 64 → j < free_at m → not (has_bit m j) ≡ false
free_below m j h k l =
    ap not (true_has m j (let e = trailing_below 64 (2 ^ 64 - 1 - m) j l in let b = bit_lt m j in omega (arith, not_bit 64 m j h k)))

pub free_at_lem : (m : ℕ) → m < 2 ^ 64 → free_at m < 64 → not (has_bit m (free_at m)) ≡ true
free_at_lem m h l =
    ap not (false_has m (free_at m) (let e = trailing_at 64 (2 ^ 64 - 1 - m) l in omega (arith, not_bit 64 m (free_at m) h l)))

-- where all 64 are in the mask, 64 is free
pub free_next : (m : ℕ) → m < 2 ^ 64 → not (has_bit m (free_at m)) ≡ true
free_next m h =
    ⊎_elim (λ q. ap not (has_high m (free_at m) h q)) (λ q. free_at_lem m h q) (le_or_lt 64 (free_at m))

pub free_lt : (m n s : ℕ) → lowest_free m n ≡ Some s → s < n
unfolding lowest_free
free_lt m n s e = first_lt _ n s e

pub free_is : (m n s : ℕ) → lowest_free m n ≡ Some s → has_bit m s ≡ false
unfolding lowest_free
free_is m n s e = not-true (has_bit m s) (first_found (λ s. not (has_bit m s)) n 0 s e).1

pub free_none : (m n : ℕ) → lowest_free m n ≡ None → (j : ℕ) → j < n → has_bit m j ≡ true
unfolding lowest_free
free_none m n e j l = not-false (has_bit m j) (first_nothing (λ s. not (has_bit m s)) n 0 e j (omega arith) (omega arith))

-- ---- two masks taken together

and_bit : (x y : ℕ) → x < 2 → y < 2 → eqb (bit_and x y) 1 ≡ eqb x 1 && eqb y 1
and_bit zero y h l = refl
and_bit (suc zero) zero h l = refl
and_bit (suc zero) (suc zero) h l = refl
and_bit (suc zero) (suc (suc y)) h l = absurd (omega arith)
and_bit (suc (suc x)) y h l = absurd (omega arith)

or_bit : (x y : ℕ) → x < 2 → y < 2 → eqb (bit_or x y) 1 ≡ eqb x 1 || eqb y 1
or_bit zero y h l = ap (λ (x : ℕ). eqb x 1) (or_zero_l y)
or_bit (suc zero) zero h l = refl
or_bit (suc zero) (suc zero) h l = refl
or_bit (suc zero) (suc (suc y)) h l = absurd (omega arith)
or_bit (suc (suc x)) y h l = absurd (omega arith)

has_and : (a b i : ℕ) → has_bit (bit_and a b) i ≡ has_bit a i && has_bit b i
unfolding has_bit
has_and a b i =
    ap (λ (x : ℕ). eqb (x % 2) 1) (and_shr a b i)
    ∙ ap (λ (x : ℕ). eqb x 1) (and_mod (a / 2 ^ i) (b / 2 ^ i) 1)
    ∙ and_bit (bit a i) (bit b i) (bit_lt a i) (bit_lt b i)

pub has_both : (a b i : ℕ) → has_bit (both_of a b) i ≡ has_bit a i && has_bit b i
unfolding both_of
has_both a b i = has_and a b i

pub has_either : (a b i : ℕ) → has_bit (either_of a b) i ≡ has_bit a i || has_bit b i
unfolding either_of has_bit
has_either a b i =
    ap (λ (x : ℕ). eqb (x % 2) 1) (or_shr a b i)
    ∙ ap (λ (x : ℕ). eqb x 1) (or_mod (a / 2 ^ i) (b / 2 ^ i) 1)
    ∙ or_bit (bit a i) (bit b i) (bit_lt a i) (bit_lt b i)

has_not : (b i : ℕ) → b < 2 ^ 64 → i < 64 → has_bit (2 ^ 64 - 1 - b) i ≡ not (has_bit b i)
has_not b i h l = go (has_bit b i) refl
  where
    go : (t : Bool) → has_bit b i ≡ t → has_bit (2 ^ 64 - 1 - b) i ≡ not t
    go true e = false_has _ i (let k = has_true b i e in omega (arith, not_bit 64 b i h l))
    go false e = true_has _ i (let k = has_false b i e in omega (arith, not_bit 64 b i h l))

pub has_minus : (a b i : ℕ) → a < 2 ^ 64 → b < 2 ^ 64 → has_bit (minus_of a b) i ≡ has_bit a i && not (has_bit b i)
unfolding minus_of
has_minus a b i h l =
    has_and a (2 ^ 64 - 1 - b) i
    ∙ ⊎_elim
    (λ q. rw (has_high a i h q))
    (λ q. rw (has_not b i l q))
    (le_or_lt 64 i)

pub both_fits : (a b : ℕ) → a < 2 ^ 64 → b < 2 ^ 64 → both_of a b < 2 ^ 64
unfolding both_of
both_fits a b h l = and_lt 64 a b h l

pub either_fits : (a b : ℕ) → a < 2 ^ 64 → b < 2 ^ 64 → either_of a b < 2 ^ 64
unfolding either_of
either_fits a b h l = or_lt 64 a b h l

pub minus_fits : (a b : ℕ) → a < 2 ^ 64 → minus_of a b < 2 ^ 64
unfolding minus_of
minus_fits a b h = let l = and_le_l a (2 ^ 64 - 1 - b) in omega arith

-- ---- the slots of a mask as a list

pub slots_has : (m n i : ℕ) → has_bit m i ≡ true → slots_of m (suc n) i ≡ i ∷ slots_of m n (suc i)
unfolding slots_of
slots_has m n i e = rw e

pub slots_hasnt : (m n i : ℕ) → has_bit m i ≡ false → slots_of m (suc n) i ≡ slots_of m n (suc i)
unfolding slots_of
slots_hasnt m n i e = rw e

pub slots_length : (m n i : ℕ) → length (slots_of m n i) ≤ n
unfolding slots_of
slots_length m zero i = omega arith
slots_length m (suc n) i = go (has_bit m i) (slots_length m n (suc i))
  where
    go : (b : Bool) → length (slots_of m n (suc i)) ≤ n → length (cond b (i ∷ slots_of m n (suc i)) (slots_of m n (suc i))) ≤ suc n
    go true h = suc-le-suc h
    go false h = omega arith

-- each of them is in the mask and in the range
pub slots_at : (m n i k : ℕ) → k < length (slots_of m n i)
    → (has_bit m (get_or (slots_of m n i) k 0) ≡ true) × (i ≤ get_or (slots_of m n i) k 0) × (get_or (slots_of m n i) k 0 < i + n)
unfolding slots_of
slots_at m zero i k h = absurd (omega arith)
slots_at m (suc n) i k h = go (has_bit m i) refl k h (λ k l. slots_at m n (suc i) k l)
  where
    go : (b : Bool) → has_bit m i ≡ b → (k : ℕ) → k < length (cond b (i ∷ slots_of m n (suc i)) (slots_of m n (suc i)))
        → ((k : ℕ) → k < length (slots_of m n (suc i))
        → (has_bit m (get_or (slots_of m n (suc i)) k 0) ≡ true)
        × (suc i ≤ get_or (slots_of m n (suc i)) k 0)
        × (get_or (slots_of m n (suc i)) k 0 < suc i + n))
        → (has_bit m (get_or (cond b (i ∷ slots_of m n (suc i)) (slots_of m n (suc i))) k 0) ≡ true)
        × (i ≤ get_or (cond b (i ∷ slots_of m n (suc i)) (slots_of m n (suc i))) k 0)
        × (get_or (cond b (i ∷ slots_of m n (suc i)) (slots_of m n (suc i))) k 0 < i + suc n)
    go true e zero l ih = (e, omega arith, omega arith)
    go true e (suc k) l ih = let r = ih k (le_of_suc-le-suc l) in (r.0, omega arith, omega arith)
    go false e k l ih = let r = ih k l in (r.0, omega arith, omega arith)
