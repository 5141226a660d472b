-- A message number is made whole as document 01 says, and a number near `next` comes back. Assumes nothing.
use Rattle.std.specs.Prelude.{Option, Some, None}
use mathlib.Core.Path.{◌≡◌, refl, sym, ap, ◌∙◌, subst⁻¹}
use mathlib.Core.Bool.{Bool, false, ◌&&◌}
use mathlib.Core.Logic.{⊎_elim}
use Prim.Native.Nat.{ℕ, ◌+◌, ◌-◌, ◌%◌, ◌≤◌, ◌<◌}
use native.Mathlib.Omega.{arith}
use lib.Dec.{ltb}
use borrow.Author.Tests.{lt-ltb, le-ltb}
use Rattle.bits.proofs.Lists.{le_or_lt}
use Rattle.wire.specs.Numbers.{numbers, distance, widened_at, widened, serial_lt, is_above}

-- for every next that a station can have
pub widened_at_lem : (s n : ℕ) → n ≤ numbers → widened s n ≡ widened_at s n
unfolding widened
widened_at_lem s n h = rw (le-ltb numbers n h)

-- the three answers
module _ (s n : ℕ) where
  pub widen_up : distance s n < 128 → widened_at s n ≡ Some (n + distance s n)
  unfolding widened_at
  widen_up h = rw (lt-ltb (distance s n) 128 h)

  pub widen_back : 128 ≤ distance s n → 256 ≤ n + distance s n → widened_at s n ≡ Some (n - (256 - distance s n))
  unfolding widened_at
  widen_back h k = rw (le-ltb (distance s n) 128 h, le-ltb n (256 - distance s n) (omega arith))

  pub widen_none : 128 ≤ distance s n → n + distance s n < 256 → widened_at s n ≡ None
  unfolding widened_at
  widen_none h k = rw (le-ltb (distance s n) 128 h, lt-ltb n (256 - distance s n) (omega arith))

-- the distance of a number from next, modulo 256
gap_up : (k n : ℕ) → n ≤ k → k ≤ n + 127 → distance (k % 256) n ≡ k - n
gap_up k n a b = omega arith

gap_back : (k n : ℕ) → k < n → n ≤ k + 128 → distance (k % 256) n ≡ 256 - (n - k)
gap_back k n a b = omega arith

up_to : (k n d : ℕ) → n ≤ k → d ≡ k - n → n + d ≡ k
up_to k n d a e = omega arith

back_to : (k n d : ℕ) → k < n → n ≤ k + 128 → d ≡ 256 - (n - k) → (128 ≤ d) × (256 ≤ n + d) × (n - (256 - d) ≡ k)
back_to k n d a b e = (omega arith, omega arith, omega arith)

-- a number from 128 below next to 127 above it
pub widen_near : (k n : ℕ) → n ≤ numbers → n ≤ k + 128 → k ≤ n + 127 → widened (k % 256) n ≡ Some k
widen_near k n t a b =
    widened_at_lem (k % 256) n t
    ∙ ⊎_elim (λ c.
    let d = gap_up k n c b in
    widen_up (k % 256) n (subst⁻¹ (λ (x : ℕ). x < 128) d (omega arith)) ∙ ap Some (up_to k n (distance (k % 256) n) c d))
    (λ c.
    let r = back_to k n (distance (k % 256) n) c a (gap_back k n c a) in
    widen_back (k % 256) n r.0 r.1 ∙ ap Some r.2)
    (le_or_lt n k)

-- ---- RFC 1982

-- above by 1 to 127
abbrev ahead : ℕ → Bool
ahead d = ltb 0 d && ltb d 128

above_up : (n d : ℕ) → d < 128 → ltb n (n + d) ≡ ahead d
above_up n d h =
    ⊎_elim (λ z. rw (le-ltb n (n + d) (omega arith), le-ltb 0 d z)) (λ z. rw (lt-ltb n (n + d) (omega arith), lt-ltb 0 d z, lt-ltb d 128 h))
    (le_or_lt d 0)

not_ahead : (d : ℕ) → 128 ≤ d → ahead d ≡ false
not_ahead d h = rw (lt-ltb 0 d (omega arith), le-ltb d 128 h)

above_is : (s n : ℕ) → is_above (widened_at s n) n ≡ ahead (distance s n)
above_is s n =
    ⊎_elim (λ h.
    ⊎_elim (λ k. ap (λ (x : Option ℕ). is_above x n) (widen_back s n h k) ∙ le-ltb n (n - (256 - distance s n)) (omega arith) ∙ sym (not_ahead (distance s n) h))
    (λ k. ap (λ (x : Option ℕ). is_above x n) (widen_none s n h k) ∙ sym (not_ahead (distance s n) h)) (le_or_lt 256 (n + distance s n)))
    (λ h. ap (λ (x : Option ℕ). is_above x n) (widen_up s n h) ∙ above_up n (distance s n) h)
    (le_or_lt 128 (distance s n))

-- d is the distance of s from r
module _ (r s d : ℕ) (R : r < 256) (S : s < 256) (e : d ≡ (s + 256 - r) % 256) where
  serial_same : r ≡ s → serial_lt 128 r s ≡ ahead d
  serial_same h = rw (le-ltb r s (omega arith), le-ltb s r (omega arith), le-ltb 0 d (omega arith))

  serial_up : r < s → serial_lt 128 r s ≡ ahead d
  serial_up h =
      let z : d ≡ s - r = omega arith in
      ⊎_elim (λ k. rw (lt-ltb r s h, le-ltb s r (omega arith), le-ltb (s - r) 128 k) (sym (not_ahead d (omega arith))))
      (λ k. rw (lt-ltb r s h, lt-ltb (s - r) 128 k, lt-ltb 0 d (omega arith), lt-ltb d 128 (omega arith))) (le_or_lt 128 (s - r))

  serial_back : s < r → serial_lt 128 r s ≡ ahead d
  serial_back h =
      let z : d ≡ 256 - (r - s) = omega arith in
      ⊎_elim (λ k. rw (le-ltb r s (omega arith), lt-ltb s r h, le-ltb 128 (r - s) k) (sym (not_ahead d (omega arith))))
      (λ k. rw (le-ltb r s (omega arith), lt-ltb s r h, lt-ltb 128 (r - s) k, lt-ltb 0 d (omega arith), lt-ltb d 128 (omega arith))) (le_or_lt (r - s) 128)

  serial_is : serial_lt 128 r s ≡ ahead d
  serial_is = ⊎_elim (λ h. ⊎_elim (λ k. serial_same (omega arith)) (λ k. serial_up k) (le_or_lt s r)) (λ h. serial_back h) (le_or_lt r s)

-- the number made whole is above next exactly where RFC 1982 says that next's own eight bits are less than s
pub widen_serial : (s n : ℕ) → s < 256 → n ≤ numbers → is_above (widened s n) n ≡ serial_lt 128 (n % 256) s
widen_serial s n a t =
    ap (λ (x : Option ℕ). is_above x n) (widened_at_lem s n t) ∙ above_is s n ∙ sym (serial_is (n % 256) s (distance s n) (omega arith) a refl)
