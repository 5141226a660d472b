-- What is equal to itself, and the order of `total_lt` on finite values. Assumes nothing.
use mathlib.Core.Path.{◌≡◌, refl, ap, ◌∙◌, subst, subst⁻¹}
use Prim.Native.Nat.{ℕ, ◌*◌, ◌<◌}
use native.Mathlib.Nat.{mul_right_comm, lt_irrefl, lt_trans, le_of_eq, lt_of_le_of_lt, lt_of_lt_of_le, mul-lt-mul_of_pos_right, lt_of_mul-lt-mul_right}
use mathlib.Core.Bool.{Bool, true, false, not, beq, ◌&&◌, ◌||◌}
use lib.IntN.{ℤ}
use lib.Dec.{T, ltb, eqb, ltb→lt, lt→ltb}
use borrow.Author.Tests.{eq-eqb}
use lib.Ieee.{Float, nan, inf, fin, up, down, lt, eq, le}
use lib.Ieee.Fits.{down_pos}
use lib.Ieee.Scale.{finite}
use Rattle.level.specs.Order.{is_nan, total_lt}
use Rattle.level.proofs.Le.{and_true, le_across}

-- ---- a NaN alone is not equal to itself
nan_alone_by : (s : Bool) (a : ℕ) → not (eqb a a && (beq s s || eqb a 0)) ≡ false
nan_alone_by true a = rw (eq-eqb a a refl)
nan_alone_by false a = rw (eq-eqb a a refl)

pub nan_alone : (x : Float) → not (eq x x) ≡ is_nan x
unfolding eq
nan_alone nan = refl
nan_alone (inf true) = refl
nan_alone (inf false) = refl
nan_alone (fin s m e) = nan_alone_by s (m * up e * down e)

-- ---- `total_lt` of two finite values, by the signs
-- the part for equal values, where the signs are not - and +
no_tie : (a : Bool) → (a && false) ≡ false
no_tie true = refl
no_tie false = refl

or_false : (a : Bool) → (a || false) ≡ a
or_false true = refl
or_false false = refl

as_le : (x y : Float) → (lt x y || eq x y) ≡ le x y
unfolding le
as_le x y = refl

module _ (m : ℕ) (e : ℤ) (n : ℕ) (d : ℤ) where
  pub total_plus : total_lt (fin false m e) (fin false n d) ≡ ltb (m * up e * down d) (n * up d * down e)
  unfolding total_lt lt
  total_plus = ap (λ (b : Bool). ltb (m * up e * down d) (n * up d * down e) || b) (no_tie (eq (fin false m e) (fin false n d))) ∙ or_false (ltb (m * up e * down d) (n * up d * down e))

  pub total_minus : total_lt (fin true m e) (fin true n d) ≡ ltb (n * up d * down e) (m * up e * down d)
  unfolding total_lt lt
  total_minus = ap (λ (b : Bool). ltb (n * up d * down e) (m * up e * down d) || b) (no_tie (eq (fin true m e) (fin true n d))) ∙ or_false (ltb (n * up d * down e) (m * up e * down d))

  pub total_back : total_lt (fin false m e) (fin true n d) ≡ false
  unfolding total_lt lt
  total_back = no_tie (eq (fin false m e) (fin true n d))

  -- whatever the sizes, zeros included
  pub total_across : total_lt (fin true m e) (fin false n d) ≡ true
  unfolding total_lt
  total_across = ap (λ (b : Bool). lt (fin true m e) (fin false n d) || b) (and_true (eq (fin true m e) (fin false n d))) ∙ as_le (fin true m e) (fin false n d) ∙ le_across m e n d

-- ---- it is a strict order
chain : (x p y q z r : ℕ) → 0 < p → 0 < q → 0 < r → x * q < y * p → y * r < z * q → x * r < z * p
chain x p y q z r P Q R h k =
    lt_of_mul-lt-mul_right q
    (lt_of_le_of_lt (le_of_eq (mul_right_comm x r q))
    (lt_trans (mul-lt-mul_of_pos_right h R)
    (lt_of_le_of_lt (le_of_eq (mul_right_comm y p r))
    (lt_of_lt_of_le (mul-lt-mul_of_pos_right k P) (le_of_eq (mul_right_comm z q p))))))

pub total_trans : (x y z : Float) → T (finite x) → T (finite y) → T (finite z) → T (total_lt x y) → T (total_lt y z) → T (total_lt x z)
total_trans nan y z a b c h k = absurd a
total_trans (inf s) y z a b c h k = absurd a
total_trans (fin s m e) nan z a b c h k = absurd b
total_trans (fin s m e) (inf t) z a b c h k = absurd b
total_trans (fin s m e) (fin t n d) nan a b c h k = absurd c
total_trans (fin s m e) (fin t n d) (inf u) a b c h k = absurd c
total_trans (fin true m e) (fin true n d) (fin false o g) a b c h k = subst⁻¹ T (total_across m e o g) tt
total_trans (fin true m e) (fin false n d) (fin false o g) a b c h k = subst⁻¹ T (total_across m e o g) tt
total_trans (fin true m e) (fin false n d) (fin true o g) a b c h k = absurd (subst T (total_back n d o g) k)
total_trans (fin false m e) (fin true n d) (fin u o g) a b c h k = absurd (subst T (total_back m e n d) h)
total_trans (fin false m e) (fin false n d) (fin true o g) a b c h k = absurd (subst T (total_back n d o g) k)
total_trans (fin false m e) (fin false n d) (fin false o g) a b c h k =
    subst⁻¹ T (total_plus m e o g)
    (lt→ltb (m * up e * down g) (o * up g * down e)
    (chain (m * up e) (down e) (n * up d) (down d) (o * up g) (down g) (down_pos e) (down_pos d) (down_pos g)
    (ltb→lt (m * up e * down d) (n * up d * down e) (subst T (total_plus m e n d) h)) (ltb→lt (n * up d * down g) (o * up g * down d) (subst T (total_plus n d o g) k))))
total_trans (fin true m e) (fin true n d) (fin true o g) a b c h k =
    subst⁻¹ T (total_minus m e o g)
    (lt→ltb (o * up g * down e) (m * up e * down g)
    (chain (o * up g) (down g) (n * up d) (down d) (m * up e) (down e) (down_pos g) (down_pos d) (down_pos e)
    (ltb→lt (o * up g * down d) (n * up d * down g) (subst T (total_minus n d o g) k)) (ltb→lt (n * up d * down e) (m * up e * down d) (subst T (total_minus m e n d) h))))

pub total_irrefl : (x : Float) → T (finite x) → T (total_lt x x) → ⊥
total_irrefl nan a h = a
total_irrefl (inf s) a h = a
total_irrefl (fin true m e) a h = lt_irrefl (m * up e * down e) (ltb→lt (m * up e * down e) (m * up e * down e) (subst T (total_minus m e m e) h))
total_irrefl (fin false m e) a h = lt_irrefl (m * up e * down e) (ltb→lt (m * up e * down e) (m * up e * down e) (subst T (total_plus m e m e) h))
