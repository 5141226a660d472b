-- `le`, `lt` and `eq` of two finite values, by the signs: each is one comparison of two products. Assumes nothing.
use mathlib.Core.Path.{◌≡◌, refl, sym, ap, ◌∙◌, subst}
use mathlib.Core.Logic.{inl, inr}
use Prim.Native.Nat.{ℕ, ◌+◌, ◌*◌, ◌<◌}
use native.Mathlib.Nat.{le_of_eq, le_of_lt, eq-or-lt_of_le, eq-zero-or-pos, mul-le-mul_right, mul-lt-mul_of_pos_right, le_of_mul-le-mul_right, lt_of_mul-lt-mul_right}
use native.Mathlib.Omega.{arith}
use mathlib.Core.Bool.{Bool, true, false, ◌&&◌, ◌||◌}
use lib.IntN.{ℤ}
use lib.Dec.{T, leb, ltb, eqb, leb→le, le→leb, ltb→lt, lt→ltb, eqb→eq, eqb_refl}
use lib.Ieee.{fin, up, down, le}
use lib.Ieee.Fits.{and_i, and_l}

-- two tests that pass together are equal
pub iff : (a b : Bool) → (T a → T b) → (T b → T a) → a ≡ b
iff true true f g = refl
iff true false f g = absurd (f tt)
iff false true f g = absurd (g tt)
iff false false f g = refl

pub and_true : (b : Bool) → (b && true) ≡ b
and_true true = refl
and_true false = refl

pub or_l : (a b : Bool) → T a → T (a || b)
or_l true b t = tt
or_l false b t = absurd t

pub or_r : (a b : Bool) → T b → T (a || b)
or_r true b t = tt
or_r false b t = t

pub or_elim : {P : Type 0} (a b : Bool) → (T a → P) → (T b → P) → T (a || b) → P
or_elim true b f g t = f tt
or_elim false b f g t = g t

pub same_eqb : {a b : ℕ} → a ≡ b → T (eqb a b)
same_eqb {a} {b} e = subst (λ (x : ℕ). T (eqb a x)) e (eqb_refl a)

-- less or equal, as `le` puts it together
lt_or_eq : (a b : ℕ) (c : Bool) → T c → (ltb a b || (eqb a b && c)) ≡ leb a b
lt_or_eq a b c C =
    iff (ltb a b || (eqb a b && c)) (leb a b)
    (or_elim (ltb a b) (eqb a b && c) (λ t. le→leb a b (le_of_lt (ltb→lt a b t))) (λ t. le→leb a b (le_of_eq (eqb→eq a b (and_l (eqb a b) c t)))))
    (λ t. elim (eq-or-lt_of_le (leb→le a b t)) [ inl e ↦ or_r (ltb a b) (eqb a b && c) (and_i (eqb a b) c (same_eqb e) C) | inr l ↦ or_l (ltb a b) (eqb a b && c) (lt→ltb a b l) ])

flip : (a b : ℕ) → eqb a b ≡ eqb b a
flip a b = iff (eqb a b) (eqb b a) (λ t. same_eqb (sym (eqb→eq a b t))) (λ t. same_eqb (sym (eqb→eq b a t)))

module _ (m : ℕ) (e : ℤ) (n : ℕ) (d : ℤ) where
  pub le_plus : le (fin false m e) (fin false n d) ≡ leb (m * up e * down d) (n * up d * down e)
  unfolding le
  le_plus = lt_or_eq (m * up e * down d) (n * up d * down e) true tt

  pub le_minus : le (fin true m e) (fin true n d) ≡ leb (n * up d * down e) (m * up e * down d)
  unfolding le
  le_minus =
      ap (λ (x : Bool). ltb (n * up d * down e) (m * up e * down d) || (x && true)) (flip (m * up e * down d) (n * up d * down e))
      ∙ lt_or_eq (n * up d * down e) (m * up e * down d) true tt

  pub le_across : le (fin true m e) (fin false n d) ≡ true
  unfolding le
  le_across = go (m * up e * down d) (n * up d * down e)
    where
      go : (a b : ℕ) → (ltb 0 (a + b) || (eqb a b && (false || eqb a 0))) ≡ true
      go a b = elim (eq-zero-or-pos (a + b)) [
        | inl z ↦
            let za : a ≡ 0 = omega arith in
            let zb : a ≡ b = omega arith in
            iff (ltb 0 (a + b) || (eqb a b && eqb a 0)) true (λ t. tt) (λ t. or_r (ltb 0 (a + b)) (eqb a b && eqb a 0) (and_i (eqb a b) (eqb a 0) (same_eqb zb) (same_eqb za)))
        | inr p ↦ iff (ltb 0 (a + b) || (eqb a b && eqb a 0)) true (λ t. tt) (λ t. or_l (ltb 0 (a + b)) (eqb a b && eqb a 0) (lt→ltb 0 (a + b) p))
      ]

  -- a value that is not negative is at most one that is: only where both are zero
  pub le_back : le (fin false m e) (fin true n d) ≡ (eqb (m * up e * down d) (n * up d * down e) && eqb (m * up e * down d) 0)
  unfolding le
  le_back = refl

-- ---- a common factor
pub leb_scale : (a b k : ℕ) → 0 < k → leb (a * k) (b * k) ≡ leb a b
leb_scale a b k K = iff (leb (a * k) (b * k)) (leb a b) (λ t. le→leb a b (le_of_mul-le-mul_right (leb→le (a * k) (b * k) t) K)) (λ t. le→leb (a * k) (b * k) (mul-le-mul_right k (leb→le a b t)))

pub ltb_scale : (a b k : ℕ) → 0 < k → ltb (a * k) (b * k) ≡ ltb a b
ltb_scale a b k K = iff (ltb (a * k) (b * k)) (ltb a b) (λ t. lt→ltb a b (lt_of_mul-lt-mul_right k (ltb→lt (a * k) (b * k) t))) (λ t. lt→ltb (a * k) (b * k) (mul-lt-mul_of_pos_right (ltb→lt a b t) K))
