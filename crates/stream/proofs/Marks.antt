-- The marks and the bars as one number each and as two halves of 64 bits, and the steps of a slide. Assumes nothing.
use mathlib.Core.Path.{◌≡◌, refl, sym, ap, ◌∙◌}
use mathlib.Core.Bool.{Bool, true, false, not, cond, ◌||◌}
use mathlib.Core.Logic.{⊎_elim}
use Prim.Native.Nat.{ℕ, zero, suc, ◌+◌, ◌-◌, ◌*◌, ◌/◌, ◌%◌, ◌^◌, ◌≤◌, ◌<◌}
use native.Mathlib.Nat.{mul-le-mul_left, mul-suc, add_comm, add-lt-add_of_lt_of_le, lt_of_lt_of_le, le_refl}
use lib.Pow.{pow-add}
use native.Mathlib.Omega.{arith}
use lib.Dec.{eqb}
use borrow.Author.Tests.{lt-ltb, le-ltb, le-leb, eq-eqb, ne_eqb}
use Rattle.bits.specs.Mask.{has_bit, with_bit}
use Rattle.bits.specs.Stop.{stop}
use Rattle.bits.proofs.Bits.{add_fits}
use Rattle.bits.proofs.Laws.{has_false, has_zero, has_below, has_above, with_there, with_new, with_high}
use Rattle.bits.proofs.Lists.{le_or_lt, eq_or_not}
use Rattle.stream.specs.declared.window.Window.{Window}
use Rattle.stream.specs.Window.{marks_of, bars_of, marked, slid_of, slide_of, mark_of, bar_of}

abbrev pub window : ℕ → ℕ → ℕ → ℕ → ℕ → Window
window n l h bl bh = record { next = n; low = l; high = h; barlow = bl; barhigh = bh }

pub same_window : (n n' l l' h h' p p' q q' : ℕ) → n ≡ n' → l ≡ l' → h ≡ h' → p ≡ p' → q ≡ q' → window n l h p q ≡ window n' l' h' p' q'
same_window n n' l l' h h' p p' q q' a b c d e = rw (a, b, c, d, e)

-- a window is its next, its marks and its bars
pub marks_window : (m : ℕ) → m % 2 ^ 64 + 2 ^ 64 * (m / 2 ^ 64) ≡ m
marks_window m = omega arith

-- 128 bits are their two halves
pub halves : (l h : ℕ) → l < 2 ^ 64 → ((l + 2 ^ 64 * h) % 2 ^ 64 ≡ l) × ((l + 2 ^ 64 * h) / 2 ^ 64 ≡ h)
halves l h f = (omega arith, omega arith)

pub marks_fit : (l h : ℕ) → l < 2 ^ 64 → h < 2 ^ 64 → l + 2 ^ 64 * h < 2 ^ 128
marks_fit l h a b =
    let m : 2 ^ 64 * suc h ≤ 2 ^ 64 * 2 ^ 64 = mul-le-mul_left (2 ^ 64) b in
    let e : 2 ^ 64 + 2 ^ 64 * h ≡ 2 ^ 64 * suc h = add_comm (2 ^ 64) (2 ^ 64 * h) ∙ sym (mul-suc (2 ^ 64) h) in
    let q : l + 2 ^ 64 * h < 2 ^ 64 + 2 ^ 64 * h = add-lt-add_of_lt_of_le a (le_refl (2 ^ 64 * h)) in
    lt_of_lt_of_le (rw e at q) m

-- one mark, in the half that has it
pub mark_in_low : (l h d : ℕ) → d < 64 → has_bit (l + 2 ^ 64 * h) d ≡ has_bit l d
mark_in_low l h d a = has_below 64 l h d a

pub mark_in_high : (l h d : ℕ) → l < 2 ^ 64 → 64 ≤ d → has_bit (l + 2 ^ 64 * h) d ≡ has_bit h (d - 64)
mark_in_high l h d f a =
    let e : d ≡ 64 + (d - 64) = omega arith in
    ap (λ (x : ℕ). has_bit (l + 2 ^ 64 * h) x) e ∙ has_above 64 l h (d - 64) f

pub mark_lowest : (l h : ℕ) → has_bit (l + 2 ^ 64 * h) 0 ≡ eqb (l % 2) 1
mark_lowest l h =
    let e : (l + 2 ^ 64 * h) % 2 ≡ l % 2 = omega arith in
    has_zero (l + 2 ^ 64 * h) ∙ ap (λ (x : ℕ). eqb x 1) e

pub none_marked : (l h : ℕ) → not (eqb l 0) || not (eqb h 0) ≡ not (eqb (l + 2 ^ 64 * h) 0)
none_marked l h =
    ⊎_elim
    (λ a.
    ⊎_elim
    (λ b. rw (eq-eqb l 0 a, eq-eqb h 0 b, eq-eqb (l + 2 ^ 64 * h) 0 (omega arith)))
    (λ b. rw (eq-eqb l 0 a, ne_eqb h 0 b, ne_eqb (l + 2 ^ 64 * h) 0 (λ e. b (omega arith))))
    (eq_or_not h 0))
    (λ a. rw (ne_eqb l 0 a, ne_eqb (l + 2 ^ 64 * h) 0 (λ e. a (omega arith))))
    (eq_or_not l 0)

-- all marks one down
half_low : (l h : ℕ) → l < 2 ^ 64 → l / 2 + h % 2 * 9223372036854775808 ≡ (l + 2 ^ 64 * h) / 2 % 2 ^ 64
half_low l h f = omega arith

half_high : (l h : ℕ) → l < 2 ^ 64 → h / 2 ≡ (l + 2 ^ 64 * h) / 2 / 2 ^ 64
half_high l h f = omega arith

pub slid_halves : (n l h p q : ℕ) → l < 2 ^ 64 → p < 2 ^ 64
    → window (stop (n + 1)) (l / 2 + h % 2 * 9223372036854775808) (h / 2) (p / 2 + q % 2 * 9223372036854775808) (q / 2)
    ≡ slid_of n (l + 2 ^ 64 * h) (p + 2 ^ 64 * q)
slid_halves n l h p q f g =
    same_window _ _ _ _ _ _ _ _ _ _ refl (half_low l h f) (half_high l h f) (half_low p q g) (half_high p q g)

pub slid_fits : (l h : ℕ) → l < 2 ^ 64 → l / 2 + h % 2 * 9223372036854775808 < 2 ^ 64
slid_fits l h f = omega arith

-- a mark is set
power_high : (d : ℕ) → 64 ≤ d → 2 ^ d ≡ 2 ^ 64 * 2 ^ (d - 64)
power_high d a = let e : d ≡ 64 + (d - 64) = omega arith in ap (λ (x : ℕ). 2 ^ x) e ∙ pow-add 2 64 (d - 64)

-- bit d of 128 set, in the half that has it: the low half's, and the high half's
pub marked_low : (l h d : ℕ) → l < 2 ^ 64 → d < 64
    → (with_bit l d ≡ marked (l + 2 ^ 64 * h) d % 2 ^ 64) × (h ≡ marked (l + 2 ^ 64 * h) d / 2 ^ 64)
marked_low l h d f a = go (has_bit l d) refl
  where
    go : (b : Bool) → has_bit l d ≡ b
        → (with_bit l d ≡ cond (has_bit (l + 2 ^ 64 * h) d) (l + 2 ^ 64 * h) (l + 2 ^ 64 * h + 2 ^ d) % 2 ^ 64)
        × (h ≡ cond (has_bit (l + 2 ^ 64 * h) d) (l + 2 ^ 64 * h) (l + 2 ^ 64 * h + 2 ^ d) / 2 ^ 64)
    go true e = let q = halves l h f in (rw (mark_in_low l h d a, e, with_there l d e) (sym q.0), rw (mark_in_low l h d a, e) (sym q.1))
    go false e =
        let q = halves (l + 2 ^ d) h (add_fits 64 l d f a (has_false l d e)) in
        let s : l + 2 ^ 64 * h + 2 ^ d ≡ l + 2 ^ d + 2 ^ 64 * h = omega arith in
        (rw (mark_in_low l h d a, e, with_new l d a e, s) (sym q.0), rw (mark_in_low l h d a, e, s) (sym q.1))

pub marked_high : (l h d : ℕ) → l < 2 ^ 64 → 64 ≤ d → d < 128
    → (l ≡ marked (l + 2 ^ 64 * h) d % 2 ^ 64) × (with_bit h (d - 64) ≡ marked (l + 2 ^ 64 * h) d / 2 ^ 64)
marked_high l h d f a b = go (has_bit h (d - 64)) refl
  where
    go : (t : Bool) → has_bit h (d - 64) ≡ t
        → (l ≡ cond (has_bit (l + 2 ^ 64 * h) d) (l + 2 ^ 64 * h) (l + 2 ^ 64 * h + 2 ^ d) % 2 ^ 64)
        × (with_bit h (d - 64) ≡ cond (has_bit (l + 2 ^ 64 * h) d) (l + 2 ^ 64 * h) (l + 2 ^ 64 * h + 2 ^ d) / 2 ^ 64)
    go true e =
        let q = halves l h f in (rw (mark_in_high l h d f a, e) (sym q.0), rw (mark_in_high l h d f a, e, with_there h (d - 64) e) (sym q.1))
    go false e =
        let p = power_high d a in
        let q = halves l (h + 2 ^ (d - 64)) f in
        let s : l + 2 ^ 64 * h + 2 ^ d ≡ l + 2 ^ 64 * (h + 2 ^ (d - 64)) = omega arith in
        (rw (mark_in_high l h d f a, e, s) (sym q.0), rw (mark_in_high l h d f a, e, with_new h (d - 64) (omega arith) e, s) (sym q.1))

module _ (n l h p q d : ℕ) where
  pub mark_low : l < 2 ^ 64 → d < 64 → window n (with_bit l d) h p q ≡ mark_of (window n l h p q) d
  unfolding mark_of
  mark_low f a =
      let r = marked_low l h d f a in rw (lt-ltb d 128 (omega arith)) (same_window n n _ _ _ _ p p q q refl r.0 r.1 refl refl)

  pub mark_high : l < 2 ^ 64 → 64 ≤ d → window n l (with_bit h (d - 64)) p q ≡ mark_of (window n l h p q) d
  unfolding mark_of
  mark_high f a =
      ⊎_elim (λ b. rw (le-ltb d 128 b, with_high h (d - 64) (omega arith)))
      (λ b. let r = marked_high l h d f a b in rw (lt-ltb d 128 b) (same_window n n _ _ _ _ p p q q refl r.0 r.1 refl refl))
      (le_or_lt 128 d)

-- a number is barred, k = n + d
module _ (n l h p q k : ℕ) (f : p < 2 ^ 64) (up : n ≤ k) where
  pub bar_low : k - n < 64 → window n l h (with_bit p (k - n)) q ≡ bar_of (window n l h p q) k
  unfolding bar_of
  bar_low a =
      let r = marked_low p q (k - n) f a in
      rw (le-leb n k up, lt-ltb (k - n) 128 (omega arith)) (same_window n n l l h h _ _ _ _ refl refl refl r.0 r.1)

  pub bar_high : 64 ≤ k - n → window n l h p (with_bit q (k - n - 64)) ≡ bar_of (window n l h p q) k
  unfolding bar_of
  bar_high a =
      ⊎_elim (λ b. rw (le-leb n k up, le-ltb (k - n) 128 b, with_high q (k - n - 64) (omega arith)))
      (λ b.
      let r = marked_high p q (k - n) f a b in
      rw (le-leb n k up, lt-ltb (k - n) 128 b) (same_window n n l l h h _ _ _ _ refl refl refl r.0 r.1))
      (le_or_lt 128 (k - n))

-- ---- the steps of a slide, as a loop with turn i of k has them

left : (k i : ℕ) → i < k → k - i ≡ suc (k - (i + 1))
left k i h = omega arith

pub slide_on : (f n m b : ℕ) → has_bit m 0 ≡ true → slide_of (suc f) n m b ≡ slide_of f (stop (n + 1)) (m / 2) (b / 2)
unfolding slide_of
slide_on f n m b e = rw e

pub slide_turn : (k i n m b : ℕ) → i < k → has_bit m 0 ≡ true
    → slide_of (k - i) n m b ≡ slide_of (k - (i + 1)) (slid_of n m b).next (marks_of (slid_of n m b)) (bars_of (slid_of n m b))
slide_turn k i n m b l e =
    ap (λ (x : ℕ). slide_of x n m b) (left k i l)
    ∙ slide_on (k - (i + 1)) n m b e
    ∙ ap (λ (x : ℕ). slide_of (k - (i + 1)) (stop (n + 1)) x (b / 2)) (sym (marks_window (m / 2)))
    ∙ ap (λ (x : ℕ). slide_of (k - (i + 1)) (stop (n + 1)) (marks_of (slid_of n m b)) x) (sym (marks_window (b / 2)))

pub slide_stop : (k n m b : ℕ) → has_bit m 0 ≡ false → slide_of k n m b ≡ slid_of n m b
unfolding slide_of
slide_stop zero n m b e = refl
slide_stop (suc k) n m b e = rw e

pub slide_end : (k i n m b : ℕ) → k ≤ i → slide_of (k - i) n m b ≡ slid_of n m b
unfolding slide_of
slide_end k i n m b l = let e : k - i ≡ 0 = omega arith in ap (λ (x : ℕ). slide_of x n m b) e
