-- The tests of src/ against two ends are the spans of specs/: one law for every end, and what a span says of a value. Assumes nothing.
use mathlib.Core.Path.{◌≡◌, refl, sym, ap, ◌∙◌, subst}
use Prim.Native.Nat.{ℕ, zero, suc, ◌*◌, ◌≤◌, ◌<◌, zero-le}
use native.Mathlib.Nat.{mul-one, mul_right_comm, zero-mul, lt_irrefl, zero-lt-suc, mul-pos}
use mathlib.Core.Bool.{Bool, true, false, ◌&&◌, true≢false}
use lib.IntN.{ℤ, pos}
use lib.Dec.{T, leb, eqb, le→leb, eqb→eq}
use lib.Ieee.{Float, nan, inf, fin, up, down, le, neg}
use lib.Ieee.Fits.{down_pos, up_pos, and_l, and_i}
use lib.Ieee.Exact.{HasValue}
use Rattle.level.specs.Spans.{up_to, within}
use Rattle.level.proofs.Le.{iff, le_plus, le_minus, le_across, le_back, leb_scale, same_eqb, and_true}

-- m * 2 ^ e against C = k * 2 ^ j, which is n
under : (n m : ℕ) (e : ℤ) (k : ℕ) (j : ℤ) → k * up j * 1 ≡ n * down j → leb (m * up e * down j) (k * up j * down e) ≡ leb (m * up e) (n * down e)
under n m e k j h =
    ap (λ (z : ℕ). leb (m * up e * down j) (z * down e)) (sym (mul-one (k * up j)) ∙ h)
    ∙ ap (λ (z : ℕ). leb (m * up e * down j) z) (mul_right_comm n (down j) (down e))
    ∙ leb_scale (m * up e) (n * down e) (down j) (down_pos j)

zero_first : (m : ℕ) (e : ℤ) → leb (0 * down e) (m * up e * 1) ≡ true
zero_first m e = iff (leb (0 * down e) (m * up e * 1)) true (λ t. tt) (λ t. le→leb (0 * down e) (m * up e * 1) (subst (λ (z : ℕ). z ≤ m * up e * 1) (sym (zero-mul (down e))) zero-le))

-- 0 is at most -m * 2 ^ e only where m is 0
size_zero : (m : ℕ) (e : ℤ) → 0 * down e ≡ m * up e * 1 → m ≡ 0
size_zero zero e h = refl
size_zero (suc m) e h =
    absurd (lt_irrefl 0 (subst (λ (z : ℕ). 0 < z) (sym (sym (zero-mul (down e)) ∙ h)) (mul-pos (mul-pos (zero-lt-suc m) (up_pos e)) (zero-lt-suc 0))))

only_zero : (m : ℕ) (e : ℤ) → (eqb (0 * down e) (m * up e * 1) && eqb (0 * down e) 0) ≡ eqb m 0
only_zero m e =
    iff (eqb (0 * down e) (m * up e * 1) && eqb (0 * down e) 0) (eqb m 0)
    (λ t. same_eqb (size_zero m e (eqb→eq (0 * down e) (m * up e * 1) (and_l (eqb (0 * down e) (m * up e * 1)) (eqb (0 * down e) 0) t))))
    (λ t. and_i (eqb (0 * down e) (m * up e * 1)) (eqb (0 * down e) 0)
    (same_eqb (zero-mul (down e) ∙ sym (mul-one (m * up e) ∙ ap (λ (z : ℕ). z * up e) (eqb→eq m 0 t) ∙ zero-mul (up e))))
    (same_eqb (zero-mul (down e))))

-- zero is in every span
zero_in : (n m : ℕ) (e : ℤ) → (eqb m 0 && leb (m * up e) (n * down e)) ≡ eqb m 0
zero_in n m e =
    iff (eqb m 0 && leb (m * up e) (n * down e)) (eqb m 0) (and_l (eqb m 0) (leb (m * up e) (n * down e)))
    (λ t. and_i (eqb m 0) (leb (m * up e) (n * down e)) t
    (le→leb (m * up e) (n * down e) (subst (λ (z : ℕ). z ≤ n * down e) (sym (ap (λ (z : ℕ). z * up e) (eqb→eq m 0 t) ∙ zero-mul (up e))) zero-le)))

-- 0.0 <= x && x <= C
pub span_law : (n : ℕ) (C x : Float) → HasValue C false n 1 → (le (fin false 0 (pos 0)) x && le x C) ≡ up_to n x
span_law n nan x h = absurd h
span_law n (inf t) x h = absurd h
span_law n (fin true k j) x h = absurd (true≢false h.0)
span_law n (fin false k j) nan h = unfold le in refl
span_law n (fin false k j) (inf true) h = unfold le in refl
span_law n (fin false k j) (inf false) h = unfold le in refl
span_law n (fin false k j) (fin false m e) h =
    ap (λ (b : Bool). b && le (fin false m e) (fin false k j)) (le_plus 0 (pos 0) m e ∙ zero_first m e) ∙ le_plus m e k j ∙ under n m e k j h.1
span_law n (fin false k j) (fin true m e) h =
    ap (λ (b : Bool). b && le (fin true m e) (fin false k j)) (le_back 0 (pos 0) m e ∙ only_zero m e)
    ∙ ap (λ (b : Bool). eqb m 0 && b) (le_across m e k j)
    ∙ and_true (eqb m 0)
    ∙ sym (zero_in n m e)

-- -C <= x && x <= C
pub within_law : (n : ℕ) (C x : Float) → HasValue C false n 1 → (le (neg C) x && le x C) ≡ within n x
unfolding neg
within_law n nan x h = absurd h
within_law n (inf t) x h = absurd h
within_law n (fin true k j) x h = absurd (true≢false h.0)
within_law n (fin false k j) nan h = unfold le in refl
within_law n (fin false k j) (inf true) h = unfold le in refl
within_law n (fin false k j) (inf false) h = unfold le in refl
within_law n (fin false k j) (fin false m e) h =
    ap (λ (b : Bool). b && le (fin false m e) (fin false k j)) (le_across k j m e) ∙ le_plus m e k j ∙ under n m e k j h.1
within_law n (fin false k j) (fin true m e) h =
    ap (λ (b : Bool). le (fin true k j) (fin true m e) && b) (le_across m e k j) ∙ and_true (le (fin true k j) (fin true m e)) ∙ le_minus k j m e ∙ under n m e k j h.1

-- ---- what a span says
pub record Finite (x : Float) : Type 0 where
  pub sign : Bool
  pub mag : ℕ
  pub exp : ℤ
  pub is : x ≡ fin sign mag exp

pub up_to_finite : (n : ℕ) (x : Float) → T (up_to n x) → Finite x
up_to_finite n nan t = absurd t
up_to_finite n (inf s) t = absurd t
up_to_finite n (fin s m e) t = record { sign = s; mag = m; exp = e; is = refl }

pub within_finite : (n : ℕ) (x : Float) → T (within n x) → Finite x
within_finite n nan t = absurd t
within_finite n (inf s) t = absurd t
within_finite n (fin s m e) t = record { sign = s; mag = m; exp = e; is = refl }
