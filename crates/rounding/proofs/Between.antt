-- A smoothed level lies between the old and the new, ends included, when each is zero or 2 ^ -100 at least in size: each is halved exactly, so that only the sum rounds,
-- and rounding keeps the order of a fraction with a value of the format. Assumes nothing.
use Rattle.std.proofs.Common.{◌≡◌, ℕ, ◌+◌, ◌-◌, ◌*◌, ◌<◌, ◌≤◌, Bool, true, false, cond, not, T, eqb, ltb, leb, ◌⊎◌, ℤ, negsuc, sym, refl, ap, ◌∙◌, subst, inl, inr, ⊎_elim, true≢false, zero-le, le_trans, le_of_eq, le_of_lt, lt_irrefl, mul-le-mul_right, zero-lt-suc, mul_assoc, mul_comm, add-mul, eq-zero-or-pos, add_comm, mul-pos, zero-mul, mul_left_comm, arith, lit<, le→leb, eqb→eq, ltb→lt, leb→le, nltb→le}
use mathlib.Core.Path.{subst⁻¹}
use lib.Ieee.{Float, nan, inf, fin, binary32, up, down, round, sum, add, mul, neg, le, fits, of_bits}
use lib.Ieee.Fits.{down_pos, and_l, and_r, and_i}
use lib.Ieee.Exact.{HasValue, round_exact}
use Rattle.rounding.specs.Between.{sized, Between}
use Rattle.level.specs.Consts as consts
use Rattle.level.specs.Levels.{smoothed}
use Rattle.level.specs.declared.Level.TheVariants.{Decibels}
use Rattle.level.proofs.Le.{le_plus, le_minus, le_across, le_back, same_eqb}
use Rattle.rounding.proofs.Value.{add_values, add_sym}
use Rattle.rounding.proofs.Rounded.{Fit, fit, lower, upper, round_neg, le_neg, below_plus, neg_below, plus_round, halved}

-- ---- the mean of A / a and B / b, with A / a at most B / b, as the fraction that the sum of the halves is
module _ (A a B b : ℕ) (h : A * b ≤ B * a) where
  mean_low : A * (2 * a * (2 * b)) ≤ (A * (2 * b) + B * (2 * a)) * a
  mean_low =
      let l : A * (2 * a * (2 * b)) ≡ 2 * (2 * (A * b * a)) = simp (mul_assoc, mul_comm, mul_left_comm) in
      let r : (A * (2 * b) + B * (2 * a)) * a ≡ 2 * (A * b * a) + 2 * (B * a * a) = add-mul (A * (2 * b)) (B * (2 * a)) a ∙ simp (mul_assoc, mul_comm, mul_left_comm) in
      let k : A * b * a ≤ B * a * a = mul-le-mul_right a h in
      omega arith

  mean_high : (A * (2 * b) + B * (2 * a)) * b ≤ B * (2 * a * (2 * b))
  mean_high =
      let l : (A * (2 * b) + B * (2 * a)) * b ≡ 2 * (A * b * b) + 2 * (B * a * b) = add-mul (A * (2 * b)) (B * (2 * a)) b ∙ simp (mul_assoc, mul_comm, mul_left_comm) in
      let r : B * (2 * a * (2 * b)) ≡ 2 * (2 * (B * a * b)) = simp (mul_assoc, mul_comm, mul_left_comm) in
      let k : A * b * b ≤ B * a * b = mul-le-mul_right b h in
      omega arith

-- a difference is no more than what it is taken from
diff_high : (P B a b : ℕ) → (B * (2 * a) - P) * b ≤ B * (2 * a * (2 * b))
diff_high P B a b =
    let k : (B * (2 * a) - P) * b ≤ B * (2 * a) * b = mul-le-mul_right b (under (B * (2 * a)) P) in
    let r : B * (2 * a * (2 * b)) ≡ 2 * (B * (2 * a) * b) = simp (mul_assoc, mul_left_comm) in
    omega arith
  where
    under : (x y : ℕ) → x - y ≤ x
    under x y = omega arith

swapped : (a b : ℕ) → 2 * a * (2 * b) ≡ 2 * b * (2 * a)
swapped a b = mul_comm (2 * a) (2 * b)

-- ---- the rounded sum of the halves of x and y, where x is at most y
abbrev Within : Float → Float → Float → Type 0
Within x y r = T (le x r) × T (le r y)

module _ (m : ℕ) (e : ℤ) (n : ℕ) (d : ℤ) (p : Fit binary32 m e) (q : Fit binary32 n d) where
  C-pos : 0 < 2 * down e * (2 * down d)
  C-pos = mul-pos (mul-pos (zero-lt-suc 1) (down_pos e)) (mul-pos (zero-lt-suc 1) (down_pos d))

  both_plus : m * up e * down d ≤ n * up d * down e → Within (fin false m e) (fin false n d) (round binary32 false (m * up e * (2 * down d) + n * up d * (2 * down e)) (2 * down e * (2 * down d)))
  both_plus h = (
    lower binary32 m e _ _ p C-pos (mean_low (m * up e) (down e) (n * up d) (down d) h),
    upper binary32 n d _ _ q C-pos (mean_high (m * up e) (down e) (n * up d) (down d) h),
  )

  -- the mean with the fractions' places changed
  turned : (Z : ℕ → ℕ → Type 0) → Z (n * up d * (2 * down e) + m * up e * (2 * down d)) (2 * down d * (2 * down e)) → Z (m * up e * (2 * down d) + n * up d * (2 * down e)) (2 * down e * (2 * down d))
  turned Z z =
      subst (λ (k : ℕ). Z k (2 * down e * (2 * down d))) (add_comm (n * up d * (2 * down e)) (m * up e * (2 * down d)))
      (subst (λ (k : ℕ). Z (n * up d * (2 * down e) + m * up e * (2 * down d)) k) (swapped (down d) (down e)) z)

  both_minus : n * up d * down e ≤ m * up e * down d → Within (fin true m e) (fin true n d) (round binary32 true (m * up e * (2 * down d) + n * up d * (2 * down e)) (2 * down e * (2 * down d)))
  unfolding neg
  both_minus h =
      let S = m * up e * (2 * down d) + n * up d * (2 * down e) in
      let C = 2 * down e * (2 * down d) in
      let R = round binary32 false S C in
      subst⁻¹ (Within (fin true m e) (fin true n d)) (round_neg binary32 S C) (
        subst⁻¹ T (le_neg (fin false m e) R tt (plus_round binary32 S C))
            (upper binary32 m e S C p C-pos (turned (λ s c. s * down e ≤ m * up e * c) (mean_high (n * up d) (down d) (m * up e) (down e) h))),
        subst⁻¹ T (le_neg R (fin false n d) (plus_round binary32 S C) tt)
            (lower binary32 n d S C q C-pos (turned (λ s c. n * up d * c ≤ s * down d) (mean_low (n * up d) (down d) (m * up e) (down e) h))),
      )

  across : (P Q C : ℕ) → 0 < C → (Q - P) * down d ≤ n * up d * C → (P - Q) * down e ≤ m * up e * C → Within (fin true m e) (fin false n d) (sum binary32 true P false Q C)
  unfolding sum neg
  across P Q C c h k = go (ltb P Q) (ltb Q P) (nltb→le Q P)
    where
      none : (x y : ℕ) → x ≤ y → x - y ≡ 0
      none x y h = omega arith

      go : (l g : Bool) → (T (not g) → P ≤ Q) → Within (fin true m e) (fin false n d) (cond l (round binary32 false (Q - P) C) (round binary32 g (P - Q) C))
      go true g u = (below_plus m e (round binary32 false (Q - P) C) (plus_round binary32 (Q - P) C), upper binary32 n d (Q - P) C q c h)
      go false true u =
          subst⁻¹ (Within (fin true m e) (fin false n d)) (round_neg binary32 (P - Q) C) (
            subst⁻¹ T (le_neg (fin false m e) (round binary32 false (P - Q) C) tt (plus_round binary32 (P - Q) C)) (upper binary32 m e (P - Q) C p c k),
            neg_below (round binary32 false (P - Q) C) n d (plus_round binary32 (P - Q) C),
          )
      go false false u = (
        below_plus m e (round binary32 false (P - Q) C) (plus_round binary32 (P - Q) C),
        upper binary32 n d (P - Q) C q c (le_trans (le_of_eq (ap (λ (z : ℕ). z * down d) (none P Q (u tt)) ∙ zero-mul (down d))) zero-le),
      )

-- ---- +0 and -0
zero_round : (C : ℕ) → 0 < C → HasValue (round binary32 false 0 C) false 0 C
zero_round C c = round_exact binary32 false 0 C 0 0 c (lit< tt) (lit< tt) (sym (zero-mul C))

factor_zero : (x y : ℕ) → 0 < y → x * y ≡ 0 → x ≡ 0
factor_zero x y Y h = elim (eq-zero-or-pos x) [ inl z ↦ z | inr p ↦ absurd (lt_irrefl 0 (subst (λ (k : ℕ). 0 < k) h (mul-pos p Y))) ]

zero_back : (z : Float) (C n : ℕ) (d : ℤ) → 0 < C → HasValue z false 0 C → n * up d ≡ 0 → T (le z (fin true n d))
zero_back nan C n d c h b = absurd h
zero_back (inf s) C n d c h b = absurd h
zero_back (fin true k j) C n d c h b = absurd (true≢false h.0)
zero_back (fin false k j) C n d c h b =
    let z : k * up j ≡ 0 = factor_zero (k * up j) C c (h.1 ∙ zero-mul (down j)) in
    let l : k * up j * down d ≡ 0 = ap (λ (x : ℕ). x * down d) z ∙ zero-mul (down d) in
    let r : n * up d * down j ≡ 0 = ap (λ (x : ℕ). x * down j) b ∙ zero-mul (down j) in
    subst⁻¹ T (le_back k j n d) (and_i (eqb (k * up j * down d) (n * up d * down j)) (eqb (k * up j * down d) 0) (same_eqb (l ∙ sym r)) (same_eqb l))

-- x is +0 and y is -0
back : (m : ℕ) (e : ℤ) (n : ℕ) (d : ℤ) (P Q C : ℕ) → Fit binary32 m e → 0 < C → m * up e ≡ 0 → n * up d ≡ 0 → P ≡ 0 → Q ≡ 0 → Within (fin false m e) (fin true n d) (sum binary32 false P true Q C)
unfolding sum
back m e n d P Q C p c u v x y =
    subst⁻¹ (λ (k : ℕ). Within (fin false m e) (fin true n d) (cond (ltb k Q) (round binary32 true (Q - k) C) (round binary32 false (k - Q) C))) x
    (subst⁻¹ (λ (k : ℕ). Within (fin false m e) (fin true n d) (cond (ltb 0 k) (round binary32 true (k - 0) C) (round binary32 false (0 - k) C))) y (
      lower binary32 m e 0 C p c (le_trans (le_of_eq (ap (λ (k : ℕ). k * C) u ∙ zero-mul C)) zero-le),
      zero_back (round binary32 false 0 C) C n d c (zero_round C c) v,
    ))

-- ---- the law
abbrev half : Float
half = fin false 1 (negsuc 0)

abbrev mean : Float → Float → Float
mean x y = add binary32 (mul binary32 half x) (mul binary32 half y)

two_pos : (x : ℕ) → 0 < x → 0 < 2 * x
two_pos x h = mul-pos (zero-lt-suc 1) h

halves : (s : Bool) (m : ℕ) (e : ℤ) (t : Bool) (n : ℕ) (d : ℤ) → T (fits binary32 (fin s m e)) → T (fits binary32 (fin t n d)) → T (sized (fin s m e)) → T (sized (fin t n d))
    → mean (fin s m e) (fin t n d) ≡ sum binary32 s (m * up e * (2 * down d)) t (n * up d * (2 * down e)) (2 * down e * (2 * down d))
halves s m e t n d p q u v =
    add_values binary32 (mul binary32 half (fin s m e)) (mul binary32 half (fin t n d)) s (m * up e) (2 * down e) t (n * up d) (2 * down d) (two_pos (down e) (down_pos e)) (two_pos (down d) (down_pos d))
    (halved s m e p u) (halved t n d q v)

pub mean_within : (x y : Float) → T (fits binary32 x) → T (fits binary32 y) → T (sized x) → T (sized y) → T (le x y) → Within x y (mean x y)
mean_within nan y p q u v h = absurd u
mean_within (inf s) y p q u v h = absurd u
mean_within (fin s m e) nan p q u v h = absurd v
mean_within (fin s m e) (inf t) p q u v h = absurd v
mean_within (fin false m e) (fin false n d) p q u v h =
    subst⁻¹ (Within (fin false m e) (fin false n d)) (halves false m e false n d p q u v)
    (unfold sum in both_plus m e n d (fit binary32 false m e p) (fit binary32 false n d q) (leb→le (m * up e * down d) (n * up d * down e) (subst T (le_plus m e n d) h)))
mean_within (fin true m e) (fin true n d) p q u v h =
    subst⁻¹ (Within (fin true m e) (fin true n d)) (halves true m e true n d p q u v)
    (unfold sum in both_minus m e n d (fit binary32 true m e p) (fit binary32 true n d q) (leb→le (n * up d * down e) (m * up e * down d) (subst T (le_minus m e n d) h)))
mean_within (fin true m e) (fin false n d) p q u v h =
    subst⁻¹ (Within (fin true m e) (fin false n d)) (halves true m e false n d p q u v)
    (across m e n d (fit binary32 true m e p) (fit binary32 false n d q) (m * up e * (2 * down d)) (n * up d * (2 * down e)) (2 * down e * (2 * down d))
    (mul-pos (two_pos (down e) (down_pos e)) (two_pos (down d) (down_pos d)))
    (diff_high (m * up e * (2 * down d)) (n * up d) (down e) (down d))
    (subst (λ (c : ℕ). (m * up e * (2 * down d) - n * up d * (2 * down e)) * down e ≤ m * up e * c) (swapped (down d) (down e)) (diff_high (n * up d * (2 * down e)) (m * up e) (down d) (down e))))
mean_within (fin false m e) (fin true n d) p q u v h =
    let A = m * up e in
    let B = n * up d in
    let k = subst T (le_back m e n d) h in
    let z : A * down d ≡ 0 = eqb→eq (A * down d) 0 (and_r (eqb (A * down d) (B * down e)) (eqb (A * down d) 0) k) in
    let y : B * down e ≡ 0 = sym (eqb→eq (A * down d) (B * down e) (and_l (eqb (A * down d) (B * down e)) (eqb (A * down d) 0) k)) ∙ z in
    let a : A ≡ 0 = factor_zero A (down d) (down_pos d) z in
    let b : B ≡ 0 = factor_zero B (down e) (down_pos e) y in
    subst⁻¹ (Within (fin false m e) (fin true n d)) (halves false m e true n d p q u v)
    (back m e n d (A * (2 * down d)) (B * (2 * down e)) (2 * down e * (2 * down d)) (fit binary32 false m e p) (mul-pos (two_pos (down e) (down_pos e)) (two_pos (down d) (down_pos d))) a b
    (ap (λ (x : ℕ). x * (2 * down d)) a ∙ zero-mul (2 * down d)) (ap (λ (x : ℕ). x * (2 * down e)) b ∙ zero-mul (2 * down e)))

-- ---- of two finite numbers one is at most the other

leb_total : (a b : ℕ) → T (leb a b) ⊎ T (leb b a)
leb_total a b = go (ltb a b) (ltb→lt a b) (nltb→le a b)
  where
    go : (t : Bool) → (T t → a < b) → (T (not t) → b ≤ a) → T (leb a b) ⊎ T (leb b a)
    go true f g = inl (le→leb a b (le_of_lt (f tt)))
    go false f g = inr (le→leb b a (g tt))

sized_total : (x y : Float) → T (sized x) → T (sized y) → T (le x y) ⊎ T (le y x)
sized_total nan y u v = absurd u
sized_total (inf s) y u v = absurd u
sized_total (fin s m e) nan u v = absurd v
sized_total (fin s m e) (inf t) u v = absurd v
sized_total (fin true m e) (fin false n d) u v = inl (subst⁻¹ T (le_across m e n d) tt)
sized_total (fin false m e) (fin true n d) u v = inr (subst⁻¹ T (le_across n d m e) tt)
sized_total (fin false m e) (fin false n d) u v =
    ⊎_elim (λ t. inl (subst⁻¹ T (le_plus m e n d) t)) (λ t. inr (subst⁻¹ T (le_plus n d m e) t)) (leb_total (m * up e * down d) (n * up d * down e))
sized_total (fin true m e) (fin true n d) u v =
    ⊎_elim (λ t. inl (subst⁻¹ T (le_minus m e n d) t)) (λ t. inr (subst⁻¹ T (le_minus n d m e) t)) (leb_total (n * up d * down e) (m * up e * down d))

-- ---- the level's own half

half_is : consts.half ≡ half
unfolding of_bits
half_is = refl

pub smoothed_between : (old new : Float) → T (fits binary32 old) → T (fits binary32 new) → T (sized old) → T (sized new) → Between old new (smoothed (Decibels old) new)
smoothed_between old new p q u v =
    let e : smoothed (Decibels old) new ≡ mean old new = ap (λ (h : Float). add binary32 (mul binary32 h old) (mul binary32 h new)) half_is in
    record {
      ordered = sized_total old new u v;
      rising = λ h. subst⁻¹ (Within old new) e (mean_within old new p q u v h);
      falling = λ h. subst⁻¹ (Within new old) (e ∙ add_sym binary32 (mul binary32 half old) (mul binary32 half new)) (mean_within new old q p v u h);
    }
