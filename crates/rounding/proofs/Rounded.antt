-- A fraction rounded, against a value of the format: a value that is at most n / c is at most n / c rounded, and so the other way round. With it the negative side:
-- `round f true` is `round f false` negated. And a value of the format that is zero, or not too small, is halved exactly. Assumes nothing.
use Rattle.std.proofs.Common.{◌≡◌, ℕ, zero, suc, ◌+◌, ◌-◌, ◌*◌, ◌%◌, ◌^◌, ◌<◌, ◌≤◌, Bool, true, false, cond, not, ◌&&◌, ◌||◌, T, eqb, ltb, leb, ℤ, pos, negsuc, sym, refl, ap, ◌∙◌, subst, true≢false, zero-le, le_trans, le_of_eq, lt_of_lt_of_le, le_of_suc-le-suc, lt_of_le_of_lt, mul-le-mul_right, mul_assoc, mul-pos, one-mul, lt_of_not-le, zero-mul, mul-one, not-le_of_lt, arith, lit<, lit≤, le→leb, eqb→eq, ltb→lt, leb→le, pow_pos, pow_mono, pow-add, shl_lt}
use mathlib.Core.Path.{subst⁻¹}
use lib.Dec.{eqb-suc-zero}
use lib.Pow.{pow-lt}
use lib.Ieee.{Float, nan, inf, fin, Format, binary32, prec, emax, low, up, down, odd, units, round, neg, mul, le, fits, unlike}
use lib.Ieee.Fits.{down_pos, up_pos, round_is, reach, and_l, and_r}
use lib.Ieee.Exact.{HasValue, round_exact, odd_sign}
use lib.Ieee.Order.{transfer, round_mono}
use Rattle.level.proofs.Le.{le_plus, le_minus, le_across, or_elim}

-- ---- what `round f false` gives: no NaN, and no minus sign
abbrev pub plus : Float → Bool
plus nan = false
plus (inf s) = not s
plus (fin s m e) = not s

plus_value : (x : Float) (a c : ℕ) → HasValue x false a c → T (plus x)
plus_value nan a c h = absurd h
plus_value (inf s) a c h = absurd h
plus_value (fin true m e) a c h = absurd (true≢false h.0)
plus_value (fin false m e) a c h = tt

plus_units : (f : Format) (q k : ℕ) → T (plus (units f false q k))
unfolding units
plus_units f q k = go (ltb (q * 2 ^ k) (2 ^ (low f + suc (emax f))))
  where
    go : (b : Bool) → T (plus (cond b (odd (suc (prec f)) false q k (low f)) (inf false)))
    go true = plus_value (odd (suc (prec f)) false q k (low f)) (q * 2 ^ k) (2 ^ low f) (odd_sign (suc (prec f)) false q k (low f))
    go false = tt

pub plus_round : (f : Format) (n c : ℕ) → T (plus (round f false n c))
plus_round f n c = subst⁻¹ (λ (z : Float). T (plus z)) (round_is f false n c) (plus_units f _ _)

-- ---- the sign
neg_odd : (d q k l : ℕ) → odd d true q k l ≡ neg (odd d false q k l)
unfolding neg odd
neg_odd d zero k l = refl
neg_odd d (suc q) k l = refl

neg_units : (f : Format) (q k : ℕ) → units f true q k ≡ neg (units f false q k)
unfolding units neg
neg_units f q k = go (ltb (q * 2 ^ k) (2 ^ (low f + suc (emax f))))
  where
    go : (b : Bool) → cond b (odd (suc (prec f)) true q k (low f)) (inf true) ≡ neg (cond b (odd (suc (prec f)) false q k (low f)) (inf false))
    go true = neg_odd (suc (prec f)) q k (low f)
    go false = refl

pub round_neg : (f : Format) (n c : ℕ) → round f true n c ≡ neg (round f false n c)
round_neg f n c = round_is f true n c ∙ neg_units f _ _ ∙ sym (ap neg (round_is f false n c))

pub le_neg : (x y : Float) → T (plus x) → T (plus y) → le (neg x) (neg y) ≡ le y x
unfolding neg
le_neg nan y p q = absurd p
le_neg (inf true) y p q = absurd p
le_neg (inf false) nan p q = absurd q
le_neg (inf false) (inf true) p q = absurd q
le_neg (inf false) (inf false) p q = unfold le in refl
le_neg (inf false) (fin true n d) p q = absurd q
le_neg (inf false) (fin false n d) p q = unfold le in refl
le_neg (fin true m e) y p q = absurd p
le_neg (fin false m e) nan p q = absurd q
le_neg (fin false m e) (inf true) p q = absurd q
le_neg (fin false m e) (inf false) p q = unfold le in refl
le_neg (fin false m e) (fin true n d) p q = absurd q
le_neg (fin false m e) (fin false n d) p q = le_minus m e n d ∙ sym (le_plus n d m e)

-- a value with a minus sign against one without
pub below_plus : (m : ℕ) (e : ℤ) (z : Float) → T (plus z) → T (le (fin true m e) z)
below_plus m e nan p = absurd p
below_plus m e (inf true) p = absurd p
below_plus m e (inf false) p = unfold le in tt
below_plus m e (fin true n d) p = absurd p
below_plus m e (fin false n d) p = subst⁻¹ T (le_across m e n d) tt

pub neg_below : (z : Float) (n : ℕ) (d : ℤ) → T (plus z) → T (le (neg z) (fin false n d))
unfolding neg
neg_below nan n d p = absurd p
neg_below (inf true) n d p = absurd p
neg_below (inf false) n d p = unfold le in tt
neg_below (fin true m e) n d p = absurd p
neg_below (fin false m e) n d p = subst⁻¹ T (le_across m e n d) tt

-- ---- m * 2 ^ k / 2 ^ g is exact, where it is no finer than the format's smallest value
pow_le_back : (i j : ℕ) → 2 ^ i ≤ 2 ^ j → i ≤ j
pow_le_back i j h = le_of_suc-le-suc (lt_of_not-le (λ (g : suc j ≤ i). not-le_of_lt (pow-lt g) h))

rejoin : (l g : ℕ) → g ≤ l → l - g + g ≡ l
rejoin l g h = omega arith

less : (l g : ℕ) → g ≤ l → l - g ≤ l
less l g h = omega arith

exact_at : (f : Format) (s : Bool) (m k g : ℕ) → m < 2 ^ prec f → g ≤ low f → m * 2 ^ k < 2 ^ suc (emax f) → HasValue (round f s (m * 2 ^ k) (2 ^ g)) s (m * 2 ^ k) (2 ^ g)
exact_at f s m k g small deep fine =
    let j = low f - g in
    let e : m * 2 ^ (k + j) ≡ m * 2 ^ k * 2 ^ j = ap (λ (z : ℕ). m * z) (pow-add 2 k j) ∙ sym (mul_assoc m (2 ^ k) (2 ^ j)) in
    round_exact f s (m * 2 ^ k) (2 ^ g) m (k + j) (pow_pos g) small
    (lt_of_le_of_lt (le_of_eq e) (lt_of_lt_of_le (shl_lt (suc (emax f)) j fine) (pow_mono (within (emax f) (low f) j (less (low f) g deep)))))
    (ap (λ (z : ℕ). m * 2 ^ k * z) (ap (λ (z : ℕ). 2 ^ z) (sym (rejoin (low f) g deep)) ∙ pow-add 2 j g) ∙ sym (mul_assoc (m * 2 ^ k) (2 ^ j) (2 ^ g)) ∙ ap (λ (z : ℕ). z * 2 ^ g) (sym e))
  where
    within : (e l j : ℕ) → j ≤ l → suc e + j ≤ l + suc e
    within e l j h = omega arith

-- ---- what `fits` says
pub record Fit (f : Format) (m : ℕ) (e : ℤ) : Type 0 where
  pub small : m < 2 ^ prec f
  pub deep : down e ≤ 2 ^ low f
  pub fine : m * up e < 2 ^ suc (emax f) * down e

pub fit : (f : Format) (s : Bool) (m : ℕ) (e : ℤ) → T (fits f (fin s m e)) → Fit f m e
unfolding fits
fit f s zero e t =
    record {
      small = pow_pos (prec f);
      deep = le_trans (le_trans (le_of_eq (sym (one-mul (down e)))) (mul-le-mul_right (down e) (up_pos e))) (le_trans (le_of_eq (eqb→eq (up e * down e) 1 t)) (pow_pos (low f)));
      fine = lt_of_le_of_lt (le_of_eq (zero-mul (up e))) (mul-pos (pow_pos (suc (emax f))) (down_pos e));
    }
fit f s (suc m) e t =
    let a : Bool = eqb (suc m % 2) 1 in
    let b : Bool = ltb (suc m) (2 ^ prec f) in
    let c : Bool = leb (down e) (2 ^ low f) in
    let d : Bool = ltb (suc m * up e) (2 ^ suc (emax f) * down e) in
    record {
      small = ltb→lt (suc m) (2 ^ prec f) (and_r a b (and_l (a && b) c (and_l (a && b && c) d t)));
      deep = leb→le (down e) (2 ^ low f) (and_r (a && b) c (and_l (a && b && c) d t));
      fine = ltb→lt (suc m * up e) (2 ^ suc (emax f) * down e) (and_r (a && b && c) d t);
    }

wide : (f : Format) (m : ℕ) → m < 2 ^ prec f → m * 1 < 2 ^ suc (emax f)
wide f m h = lt_of_le_of_lt (le_of_eq (mul-one m)) (lt_of_lt_of_le h (pow_mono (reach f)))

-- a value of the format, rounded, has its own value
pub self : (f : Format) (m : ℕ) (e : ℤ) → Fit f m e → HasValue (round f false (m * up e) (down e)) false (m * up e) (down e)
self f m (pos k) p = exact_at f false m k 0 p.small zero-le (subst (λ (z : ℕ). m * 2 ^ k < z) (mul-one (2 ^ suc (emax f))) p.fine)
self f m (negsuc k) p = exact_at f false m 0 (suc k) p.small (pow_le_back (suc k) (low f) p.deep) (wide f m p.small)

-- ---- a value of the format against a fraction that is rounded
swap_left : (z w : Float) (m : ℕ) (e : ℤ) → T (plus w) → HasValue z false (m * up e) (down e) → T (le z w) → T (le (fin false m e) w)
swap_left nan w m e p h t = absurd h
swap_left (inf s) w m e p h t = absurd h
swap_left (fin true k j) w m e p h t = absurd (true≢false h.0)
swap_left (fin false k j) nan m e p h t = absurd p
swap_left (fin false k j) (inf true) m e p h t = absurd p
swap_left (fin false k j) (inf false) m e p h t = unfold le in tt
swap_left (fin false k j) (fin true n d) m e p h t = absurd p
swap_left (fin false k j) (fin false n d) m e p h t =
    subst⁻¹ T (le_plus m e n d)
    (le→leb (m * up e * down d) (n * up d * down e)
    (transfer (m * up e) (n * up d) (down e) (down d) (k * up j) (n * up d) (down j) (down d) (down_pos j) (down_pos d) (sym h.1) refl (leb→le (k * up j * down d) (n * up d * down j) (subst T (le_plus k j n d) t))))

swap_right : (z w : Float) (m : ℕ) (e : ℤ) → T (plus w) → HasValue z false (m * up e) (down e) → T (le w z) → T (le w (fin false m e))
swap_right nan w m e p h t = absurd h
swap_right (inf s) w m e p h t = absurd h
swap_right (fin true k j) w m e p h t = absurd (true≢false h.0)
swap_right (fin false k j) nan m e p h t = absurd p
swap_right (fin false k j) (inf true) m e p h t = absurd p
swap_right (fin false k j) (inf false) m e p h t = absurd (unfold le in t)
swap_right (fin false k j) (fin true n d) m e p h t = absurd p
swap_right (fin false k j) (fin false n d) m e p h t =
    subst⁻¹ T (le_plus n d m e)
    (le→leb (n * up d * down e) (m * up e * down d)
    (transfer (n * up d) (m * up e) (down d) (down e) (n * up d) (k * up j) (down d) (down j) (down_pos d) (down_pos j) refl (sym h.1) (leb→le (n * up d * down j) (k * up j * down d) (subst T (le_plus n d k j) t))))

module _ (f : Format) (m : ℕ) (e : ℤ) (n c : ℕ) (p : Fit f m e) (C : 0 < c) where
  pub lower : m * up e * c ≤ n * down e → T (le (fin false m e) (round f false n c))
  lower h = swap_left (round f false (m * up e) (down e)) (round f false n c) m e (plus_round f n c) (self f m e p) (round_mono f (m * up e) (down e) n c (down_pos e) C h)

  pub upper : n * down e ≤ m * up e * c → T (le (round f false n c) (fin false m e))
  upper h = swap_right (round f false (m * up e) (down e)) (round f false n c) m e (plus_round f n c) (self f m e p) (round_mono f n c (m * up e) (down e) C (down_pos e) h)

-- ---- halving, for a value that is zero or 2 ^ -100 at least in size
pow_lt_back : (i j : ℕ) → 2 ^ i < 2 ^ j → i < j
pow_lt_back i j h = lt_of_not-le (λ (g : j ≤ i). not-le_of_lt h (pow_mono g))

room : (k : ℕ) → k < 124 → 1 + k ≤ 149
room k h = omega arith

-- the exponent of such a value is not too low
not_low : (s : Bool) (m k : ℕ) → T (fits binary32 (fin s m (negsuc k))) → T (eqb m 0 || leb (2 ^ suc k) (m * 1 * 2 ^ 100)) → 2 ^ suc k < 2 ^ 124
unfolding fits
not_low s zero k t h = lt_of_le_of_lt (le_of_eq (sym (one-mul (2 ^ suc k)) ∙ eqb→eq (1 * 2 ^ suc k) 1 t)) (lit< tt)
not_low s (suc m) k t h =
    lt_of_le_of_lt (leb→le (2 ^ suc k) (suc m * 1 * 2 ^ 100) (or_elim (eqb (suc m) 0) (leb (2 ^ suc k) (suc m * 1 * 2 ^ 100)) (λ u. absurd (subst T (eqb-suc-zero m) u)) (λ u. u) h))
    (shl_lt 24 100 (lt_of_le_of_lt (le_of_eq (mul-one (suc m))) (fit binary32 s (suc m) (negsuc k) t).small))

same : (s : Bool) → unlike false s ≡ s
same true = refl
same false = refl

pub halved : (s : Bool) (m : ℕ) (e : ℤ) → T (fits binary32 (fin s m e)) → T (eqb m 0 || leb (down e) (m * up e * 2 ^ 100))
    → HasValue (mul binary32 (fin false 1 (negsuc 0)) (fin s m e)) s (m * up e) (2 * down e)
unfolding mul
halved s m (pos k) t h =
    let p = fit binary32 s m (pos k) t in
    subst⁻¹ (λ (b : Bool). HasValue (round binary32 b (1 * (m * 2 ^ k)) 2) s (m * 2 ^ k) 2) (same s)
    (subst⁻¹ (λ (n : ℕ). HasValue (round binary32 s n 2) s (m * 2 ^ k) 2) (one-mul (m * 2 ^ k))
    (exact_at binary32 s m k 1 p.small (lit≤ tt) (subst (λ (z : ℕ). m * 2 ^ k < z) (mul-one (2 ^ 128)) p.fine)))
halved s m (negsuc k) t h =
    let p = fit binary32 s m (negsuc k) t in
    subst⁻¹ (λ (b : Bool). HasValue (round binary32 b (1 * (m * 1)) (2 * 2 ^ suc k)) s (m * 1) (2 * 2 ^ suc k)) (same s)
    (subst⁻¹ (λ (n : ℕ). HasValue (round binary32 s n (2 * 2 ^ suc k)) s (m * 1) (2 * 2 ^ suc k)) (one-mul (m * 1))
    (subst (λ (d : ℕ). HasValue (round binary32 s (m * 1) d) s (m * 1) d) (pow-add 2 1 (suc k))
    (exact_at binary32 s m 0 (1 + suc k) p.small (room (suc k) (pow_lt_back (suc k) 124 (not_low s m k t h))) (wide binary32 m p.small))))
