-- Bit i of a number m is `m / 2 ^ i % 2`. Each law goes by halving: bit 0 is `m % 2`, and bit i + 1 of m is bit i of `m / 2`.
-- Assumes nothing.
use mathlib.Core.Path.{◌≡◌, refl, sym, ap, ap₂, ◌∙◌}
use mathlib.Core.Logic.{◌≢◌}
use Prim.Native.Nat.{ℕ, zero, suc, ◌+◌, ◌-◌, ◌*◌, ◌/◌, ◌%◌, ◌^◌, ◌≤◌, ◌<◌, suc-le-suc}
use native.Mathlib.Nat.{pow-suc, mul_comm, mul_assoc, div-one, div-div-eq-div-mul, le_of_suc-le-suc, zero-lt-suc, div-eq_of_lt, lt_of_lt_of_le}
use native.Mathlib.Omega.{arith}
use lib.Pow.{pow_mono}
use lib.Count.{count_trailing_zeros, under}

abbrev pub bit : ℕ → ℕ → ℕ
bit m i = m / 2 ^ i % 2

pub bit_zero : (m : ℕ) → bit m 0 ≡ m % 2
bit_zero m = ap (λ (x : ℕ). x % 2) (div-one m)

pub bit_suc : (m i : ℕ) → bit m (suc i) ≡ bit (m / 2) i
bit_suc m i = ap (λ (x : ℕ). x % 2) (ap (λ (x : ℕ). m / x) (pow-suc 2 i ∙ mul_comm (2 ^ i) 2) ∙ sym (div-div-eq-div-mul m 2 (2 ^ i)))

pub bit_lt : (m i : ℕ) → bit m i < 2
bit_lt m i = omega arith

-- a number of k digits has none from place k on
pub bit_high : (k m i : ℕ) → m < 2 ^ k → k ≤ i → bit m i ≡ 0
bit_high k m i h l = ap (λ (x : ℕ). x % 2) (div-eq_of_lt (lt_of_lt_of_le h (pow_mono l)))

-- ---- a number in two parts: below place k stand the digits of the lower one, from k on those of the upper

pub twice : (k b : ℕ) → 2 ^ suc k * b ≡ 2 * (2 ^ k * b)
twice k b = ap (λ (x : ℕ). x * b) (pow-suc 2 k ∙ mul_comm (2 ^ k) 2) ∙ mul_assoc 2 (2 ^ k) b

pub bit_below : (k a b i : ℕ) → i < k → bit (a + 2 ^ k * b) i ≡ bit a i
bit_below zero a b i l = absurd (omega arith)
bit_below (suc k) a b zero l = bit_zero (a + 2 ^ suc k * b) ∙ omega (arith, twice k b) ∙ sym (bit_zero a)
bit_below (suc k) a b (suc i) l =
    bit_suc (a + 2 ^ suc k * b) i
    ∙ ap (λ (x : ℕ). bit x i) (omega (arith, twice k b))
    ∙ bit_below k (a / 2) b i (le_of_suc-le-suc l)
    ∙ sym (bit_suc a i)

pub bit_above : (k a b j : ℕ) → a < 2 ^ k → bit (a + 2 ^ k * b) (k + j) ≡ bit b j
bit_above zero a b j h =
    let e : a + 2 ^ zero * b ≡ b = omega arith in
    let f : zero + j ≡ j = omega arith in
    ap₂ bit e f
bit_above (suc k) a b j h =
    let e : suc k + j ≡ suc (k + j) = omega arith in
    let half : (a + 2 ^ suc k * b) / 2 ≡ a / 2 + 2 ^ k * b = omega (arith, twice k b) in
    ap (λ (x : ℕ). bit (a + 2 ^ suc k * b) x) e
    ∙ bit_suc (a + 2 ^ suc k * b) (k + j)
    ∙ ap (λ (x : ℕ). bit x (k + j)) half
    ∙ bit_above k (a / 2) b j (omega (arith, pow-suc 2 k))

-- ---- a digit is added

pub add_same : (m i : ℕ) → bit m i ≡ 0 → bit (m + 2 ^ i) i ≡ 1
add_same m zero h = bit_zero (m + 1) ∙ omega (arith, bit_zero m)
add_same m (suc i) h =
    bit_suc (m + 2 ^ suc i) i
    ∙ ap (λ (x : ℕ). bit x i) (omega (arith, pow-suc 2 i))
    ∙ add_same (m / 2) i (sym (bit_suc m i) ∙ h)

pub add_other : (m i j : ℕ) → bit m i ≡ 0 → i ≢ j → bit (m + 2 ^ i) j ≡ bit m j
add_other m zero zero h n = absurd (n refl)
add_other m zero (suc j) h n =
    bit_suc (m + 1) j ∙ ap (λ (x : ℕ). bit x j) (omega (arith, bit_zero m)) ∙ sym (bit_suc m j)
add_other m (suc i) zero h n =
    bit_zero (m + 2 ^ suc i) ∙ omega (arith, pow-suc 2 i) ∙ sym (bit_zero m)
add_other m (suc i) (suc j) h n =
    bit_suc (m + 2 ^ suc i) j
    ∙ ap (λ (x : ℕ). bit x j) (omega (arith, pow-suc 2 i))
    ∙ add_other (m / 2) i j (sym (bit_suc m i) ∙ h) (λ e. n (ap suc e))
    ∙ sym (bit_suc m j)

pub add_fits : (k m i : ℕ) → m < 2 ^ k → i < k → bit m i ≡ 0 → m + 2 ^ i < 2 ^ k
add_fits zero m i h l e = absurd (omega arith)
add_fits (suc k) m zero h l e = omega (arith, bit_zero m, pow-suc 2 k)
add_fits (suc k) m (suc i) h l e =
    let ih = add_fits k (m / 2) i (omega (arith, pow-suc 2 k)) (le_of_suc-le-suc l) (sym (bit_suc m i) ∙ e) in
    omega (arith, pow-suc 2 k, pow-suc 2 i)

-- ---- a digit is taken away

pub sub_le : (m i : ℕ) → bit m i ≡ 1 → 2 ^ i ≤ m
sub_le m zero h = omega (arith, bit_zero m)
sub_le m (suc i) h =
    let ih = sub_le (m / 2) i (sym (bit_suc m i) ∙ h) in
    omega (arith, pow-suc 2 i)

pub sub_same : (m i : ℕ) → bit m i ≡ 1 → bit (m - 2 ^ i) i ≡ 0
sub_same m zero h = bit_zero (m - 1) ∙ omega (arith, bit_zero m)
sub_same m (suc i) h =
    let l = sub_le (m / 2) i (sym (bit_suc m i) ∙ h) in
    bit_suc (m - 2 ^ suc i) i
    ∙ ap (λ (x : ℕ). bit x i) (omega (arith, pow-suc 2 i))
    ∙ sub_same (m / 2) i (sym (bit_suc m i) ∙ h)

pub sub_other : (m i j : ℕ) → bit m i ≡ 1 → i ≢ j → bit (m - 2 ^ i) j ≡ bit m j
sub_other m i j h n =
    let l = sub_le m i h in
    sym (add_other (m - 2 ^ i) i j (sub_same m i h) n) ∙ ap (λ (x : ℕ). bit x j) (omega arith)

-- ---- the complement in k digits

pub not_bit : (k m i : ℕ) → m < 2 ^ k → i < k → bit (2 ^ k - 1 - m) i ≡ 1 - bit m i
not_bit zero m i h l = absurd (omega arith)
not_bit (suc k) m zero h l = bit_zero (2 ^ suc k - 1 - m) ∙ omega (arith, bit_zero m, pow-suc 2 k)
not_bit (suc k) m (suc i) h l =
    bit_suc (2 ^ suc k - 1 - m) i
    ∙ ap (λ (x : ℕ). bit x i) (omega (arith, pow-suc 2 k))
    ∙ not_bit k (m / 2) i (omega (arith, pow-suc 2 k)) (le_of_suc-le-suc l)
    ∙ ap (λ (x : ℕ). 1 - x) (sym (bit_suc m i))

-- ---- the trailing zeros: below them no digit is set, and where they are fewer than k the next is

pub trailing_below : (k m j : ℕ) → j < count_trailing_zeros k m → bit m j ≡ 0
unfolding count_trailing_zeros
trailing_below zero m j h = absurd (omega arith)
trailing_below (suc k) m zero h = bit_zero m ∙ go (m % 2) h
  where
    go : (d : ℕ) → 0 < under d (count_trailing_zeros k (m / 2)) → d ≡ 0
    go zero h' = refl
    go (suc d) h' = absurd (omega arith)
trailing_below (suc k) m (suc j) h = bit_suc m j ∙ trailing_below k (m / 2) j (go (m % 2) h)
  where
    go : (d : ℕ) → suc j < under d (count_trailing_zeros k (m / 2)) → j < count_trailing_zeros k (m / 2)
    go zero h' = le_of_suc-le-suc h'
    go (suc d) h' = absurd (omega arith)

pub trailing_at : (k m : ℕ) → count_trailing_zeros k m < k → bit m (count_trailing_zeros k m) ≡ 1
unfolding count_trailing_zeros
trailing_at zero m h = absurd (omega arith)
trailing_at (suc k) m h = go (m % 2) refl h (trailing_at k (m / 2))
  where
    go : (d : ℕ) → m % 2 ≡ d → under d (count_trailing_zeros k (m / 2)) < suc k
        → (count_trailing_zeros k (m / 2) < k → bit (m / 2) (count_trailing_zeros k (m / 2)) ≡ 1)
        → bit m (under d (count_trailing_zeros k (m / 2))) ≡ 1
    go zero e h' ih = bit_suc m (count_trailing_zeros k (m / 2)) ∙ ih (le_of_suc-le-suc h')
    go (suc d) e h' ih = bit_zero m ∙ omega arith

-- ---- two numbers of k digits that agree at each are equal

pub bit_ext : (k m n : ℕ) → m < 2 ^ k → n < 2 ^ k → ((i : ℕ) → i < k → bit m i ≡ bit n i) → m ≡ n
bit_ext zero m n h l e = omega arith
bit_ext (suc k) m n h l e =
    let low : m % 2 ≡ n % 2 = sym (bit_zero m) ∙ e 0 (zero-lt-suc k) ∙ bit_zero n in
    let up : m / 2 ≡ n / 2 =
    bit_ext k (m / 2) (n / 2) (omega (arith, pow-suc 2 k)) (omega (arith, pow-suc 2 k))
    (λ i q. sym (bit_suc m i) ∙ e (suc i) (suc-le-suc q) ∙ bit_suc n i) in
    omega arith
