-- The laws of a boat's window: which numbers are handed over, before and after one lands. Assumes nothing.
use mathlib.Core.Path.{◌≡◌, refl, sym, ap, ap₂, ◌∙◌, subst}
use mathlib.Core.Bool.{Bool, true, false, cond, ◌&&◌, ◌||◌, or-true, or-false}
use mathlib.Core.Logic.{⊎_elim}
use Prim.Native.Nat.{ℕ, zero, suc, ◌+◌, ◌-◌, ◌*◌, ◌/◌, ◌%◌, ◌^◌, ◌≤◌, ◌<◌}
use native.Mathlib.Nat.{pow-suc, mod-lt, div-lt_iff_lt-mul, div-le_self, lt_of_le_of_lt}
use lib.Pow.{pow_pos}
use native.Mathlib.Omega.{arith}
use lib.Dec.{eqb, leb, ltb}
use borrow.Author.Tests.{lt-ltb, le-ltb, lt-leb, le-leb, eq-eqb, ne_eqb, eqb-true, ltb-true, leb-true, not-false}
use Rattle.bits.specs.Mask.{has_bit}
use Rattle.bits.specs.Stop.{stop}
use Rattle.bits.proofs.Bits.{add_same, add_other, add_fits}
use Rattle.bits.proofs.Laws.{has_false, true_has, has_bit_lem, has_none, has_past, has_below, has_half}
use Rattle.bits.proofs.Stops.{stop_is, stop_up, stop_most}
use Rattle.bits.proofs.Lists.{le_or_lt, lt_or_le, eq_or_not, same_test, never_both, or_elim, and_true, cases, cond_keeps}
use Rattle.stream.specs.declared.window.Window.{Window}
use Rattle.stream.specs.Window.{marks_of, bars_of, window_of, with_marks, with_bars, handed_of, barred_of, bitmap_of, holes_of, slid_of, slide_of, marked, mark_of, land_of, bar_of, fresh_of}
use Rattle.stream.proofs.Marks.{marks_window, slide_stop, slide_on, marks_fit}

after : (j n : ℕ) → (j ≡ n → ⊥) → (j ≡ n + 1 → ⊥) → n ≤ j → n + 1 < j
after j n a b l = ⊎_elim (λ q. absurd (⊎_elim (λ r. a (omega arith)) (λ r. b (omega arith)) (le_or_lt j n))) (λ q. q) (le_or_lt j (n + 1))

mod_div_256 : (m : ℕ) → m % 256 + 256 * (m / 256) ≡ m
mod_div_256 m = omega arith

-- `handed_of` of a window with this next and these marks
abbrev pub handed_by : ℕ → ℕ → ℕ → Bool
handed_by n m k = ltb k n || (ltb n k && has_bit m (k - n - 1))

pub handed_by_lem : (n m b k : ℕ) → handed_of (window_of n m b) k ≡ handed_by n m k
handed_by_lem n m b k = ap (λ (x : ℕ). handed_by n x k) (marks_window m)

-- below next all are handed over, next is not, and above it the marks say
pub by_low : (n m k : ℕ) → k < n → handed_by n m k ≡ true
by_low n m k h = rw (lt-ltb k n h)

pub by_next : (n m : ℕ) → handed_by n m n ≡ false
by_next n m = let e = le-ltb n n (omega arith) in rw e

pub by_mark : (n m k : ℕ) → n < k → handed_by n m k ≡ has_bit m (k - n - 1)
by_mark n m k h = rw (le-ltb k n (omega arith), lt-ltb n k h)

pub handed_low : (w : Window) (k : ℕ) → k < w.next → handed_of w k ≡ true
handed_low w k h = by_low w.next (marks_of w) k h

pub next_not_handed : (w : Window) → handed_of w w.next ≡ false
next_not_handed w = by_next w.next (marks_of w)

pub fresh_none : (k : ℕ) → handed_of fresh_of k ≡ false
fresh_none k =
    ⊎_elim
    (λ e. ap (handed_by 0 0) e ∙ by_next 0 0)
    (λ e. by_mark 0 0 k (⊎_elim (λ l. absurd (e (omega arith))) (λ l. l) (le_or_lt k 0)) ∙ has_none (k - 0 - 1))
    (eq_or_not k 0)

-- ---- what the numbers are after n is handed over too

module _ (n m j : ℕ) where
  and_low : j < n → handed_by n m j || eqb j n ≡ true
  and_low a = ap (λ (x : Bool). x || eqb j n) (by_low n m j a)

  and_at : j ≡ n → handed_by n m j || eqb j n ≡ true
  and_at e = ap (λ (x : Bool). handed_by n m j || x) (eq-eqb j n e) ∙ or-true (handed_by n m j)

  and_past : n < j → handed_by n m j || eqb j n ≡ has_bit m (j - n - 1)
  and_past a =
      ap₂ ◌||◌ (by_mark n m j a) (ne_eqb j n (λ e. omega arith)) ∙ or-false (has_bit m (j - n - 1))

  -- the window one on
  one_low : j ≤ n → handed_by (n + 1) (m / 2) j ≡ true
  one_low a = by_low (n + 1) (m / 2) j (omega arith)

  one_past : n + 1 < j → handed_by (n + 1) (m / 2) j ≡ has_bit m (j - n - 1)
  one_past a =
      let e : suc (j - (n + 1) - 1) ≡ j - n - 1 = omega arith in
      by_mark (n + 1) (m / 2) j a ∙ has_half m (j - (n + 1) - 1) ∙ ap (has_bit m) e

  first_mark : j ≡ n + 1 → has_bit m (j - n - 1) ≡ has_bit m 0
  first_mark a = let e : j - n - 1 ≡ 0 = omega arith in ap (has_bit m) e

  -- with the lowest mark clear the window one on is all; with it set the number n + 1 comes with it
  on_clear : has_bit m 0 ≡ false → handed_by (n + 1) (m / 2) j ≡ handed_by n m j || eqb j n
  on_clear z =
      ⊎_elim
      (λ a. one_low (omega arith) ∙ sym (and_low a))
      (λ a.
      ⊎_elim
      (λ b. one_low (omega arith) ∙ sym (and_at b))
      (λ b.
      ⊎_elim
      (λ d. ap (handed_by (n + 1) (m / 2)) d ∙ by_next (n + 1) (m / 2) ∙ sym (and_past (omega arith) ∙ first_mark d ∙ z))
      (λ d. one_past (after j n b d a) ∙ sym (and_past (omega (arith, after j n b d a))))
      (eq_or_not j (n + 1)))
      (eq_or_not j n))
      (lt_or_le j n)

  on_set : has_bit m 0 ≡ true → handed_by (n + 1) (m / 2) j || eqb j (n + 1) ≡ handed_by n m j || eqb j n
  on_set z =
      ⊎_elim
      (λ a. ap (λ (x : Bool). x || eqb j (n + 1)) (one_low (omega arith)) ∙ sym (and_low a))
      (λ a.
      ⊎_elim
      (λ b. ap (λ (x : Bool). x || eqb j (n + 1)) (one_low (omega arith)) ∙ sym (and_at b))
      (λ b.
      ⊎_elim
      (λ d.
      ap (λ (x : Bool). handed_by (n + 1) (m / 2) j || x) (eq-eqb j (n + 1) d)
      ∙ or-true (handed_by (n + 1) (m / 2) j)
      ∙ sym (and_past (omega arith) ∙ first_mark d ∙ z))
      (λ d.
      ap₂ ◌||◌ (one_past (after j n b d a)) (ne_eqb j (n + 1) d)
      ∙ or-false (has_bit m (j - n - 1))
      ∙ sym (and_past (omega (arith, after j n b d a))))
      (eq_or_not j (n + 1)))
      (eq_or_not j n))
      (lt_or_le j n)

-- ---- a slide hands n over, and nothing else

pub slid_at : (n m b j : ℕ) → n < 4294967295 → has_bit m 0 ≡ false → handed_of (slid_of n m b) j ≡ handed_by n m j || eqb j n
slid_at n m b j h z =
    handed_by_lem (stop (n + 1)) (m / 2) (b / 2) j
    ∙ ap (λ (x : ℕ). handed_by x (m / 2) j) (stop_is (n + 1) (omega arith))
    ∙ on_clear n m j z

pub slide_at : (f n m b j : ℕ) → m < 2 ^ f → n + f < 4294967295 → handed_of (slide_of f n m b) j ≡ handed_by n m j || eqb j n
slide_at zero n m b j a l =
    let z : has_bit m 0 ≡ false = has_past 0 m 0 a (omega arith) in
    ap (λ (w : Window). handed_of w j) (slide_stop 0 n m b z) ∙ slid_at n m b j (omega arith) z
slide_at (suc f) n m b j a l = go (has_bit m 0) refl (slide_at f (n + 1) (m / 2) (b / 2) j (omega (arith, pow-suc 2 f)) (omega arith))
  where
    go : (t : Bool) → has_bit m 0 ≡ t → handed_of (slide_of f (n + 1) (m / 2) (b / 2)) j ≡ handed_by (n + 1) (m / 2) j || eqb j (n + 1)
        → handed_of (slide_of (suc f) n m b) j ≡ handed_by n m j || eqb j n
    go false z ih = ap (λ (w : Window). handed_of w j) (slide_stop (suc f) n m b z) ∙ slid_at n m b j (omega arith) z
    go true z ih =
        ap (λ (w : Window). handed_of w j) (slide_on f n m b z)
        ∙ ap (λ (x : ℕ). handed_of (slide_of f x (m / 2) (b / 2)) j) (stop_is (n + 1) (omega arith))
        ∙ ih
        ∙ on_set n m j z

pub slide_next : (f n m b : ℕ) → n ≤ 4294967295 → n ≤ (slide_of f n m b).next
unfolding slide_of
slide_next zero n m b h = stop_up (n + 1) n h (omega arith)
slide_next (suc f) n m b h = go (has_bit m 0) (slide_next f (stop (n + 1)) (m / 2) (b / 2) (stop_most (n + 1)))
  where
    go : (t : Bool) → stop (n + 1) ≤ (slide_of f (stop (n + 1)) (m / 2) (b / 2)).next
        → n ≤ (cond t (slide_of f (stop (n + 1)) (m / 2) (b / 2)) (slid_of n m b)).next
    go true ih = omega (arith, stop_up (n + 1) n h (omega arith))
    go false ih = stop_up (n + 1) n h (omega arith)

-- ---- the bars go down with a slide, where no number that it passes is barred

-- `barred_of` of a window with this next and these bars
abbrev pub barred_by : ℕ → ℕ → ℕ → Bool
barred_by n b k = leb n k && has_bit b (k - n)

pub barred_by_lem : (n m b k : ℕ) → barred_of (window_of n m b) k ≡ barred_by n b k
barred_by_lem n m b k = ap (λ (x : ℕ). barred_by n x k) (marks_window b)

pub barred_low : (n b j : ℕ) → j < n → barred_by n b j ≡ false
barred_low n b j l = rw (lt-leb n j l)

pub barred_up : (n b j : ℕ) → n ≤ j → barred_by n b j ≡ has_bit b (j - n)
barred_up n b j l = rw (le-leb n j l)

bars_on : (n b j : ℕ) → has_bit b 0 ≡ false → barred_by (n + 1) (b / 2) j ≡ barred_by n b j
bars_on n b j z =
    ⊎_elim
    (λ l.
    ⊎_elim
    (λ e. let q : j - n ≡ 0 = omega arith in barred_low (n + 1) (b / 2) j (omega arith) ∙ sym (barred_up n b j (omega arith) ∙ ap (has_bit b) q ∙ z))
    (λ e. barred_low (n + 1) (b / 2) j (omega arith) ∙ sym (barred_low n b j (⊎_elim (λ g. absurd (e (omega arith))) (λ g. g) (le_or_lt n j))))
    (eq_or_not j n))
    (λ l.
    let q : suc (j - (n + 1)) ≡ j - n = omega arith in
    barred_up (n + 1) (b / 2) j (omega arith) ∙ has_half b (j - (n + 1)) ∙ ap (has_bit b) q ∙ sym (barred_up n b j (omega arith)))
    (le_or_lt j n)

slid_bars : (n m b j : ℕ) → n < 4294967295 → has_bit b 0 ≡ false → barred_of (slid_of n m b) j ≡ barred_by n b j
slid_bars n m b j h z =
    barred_by_lem (stop (n + 1)) (m / 2) (b / 2) j
    ∙ ap (λ (x : ℕ). barred_by x (b / 2) j) (stop_is (n + 1) (omega arith))
    ∙ bars_on n b j z

slide_none : (n m b : ℕ) → slide_of zero n m b ≡ slid_of n m b
unfolding slide_of
slide_none n m b = refl

slide_bars : (f n m b j : ℕ) → n + f < 4294967295 → has_bit b 0 ≡ false → ((d : ℕ) → has_bit m d ≡ true → has_bit b (suc d) ≡ false)
    → barred_of (slide_of f n m b) j ≡ barred_by n b j
slide_bars zero n m b j l z free = ap (λ (w : Window). barred_of w j) (slide_none n m b) ∙ slid_bars n m b j (omega arith) z
slide_bars (suc f) n m b j l z free =
    go (has_bit m 0) refl
    (λ e.
    slide_bars f (n + 1) (m / 2) (b / 2) j (omega arith) (has_half b 0 ∙ free 0 e) (λ d q. has_half b (suc d) ∙ free (suc d) (sym (has_half m d) ∙ q)))
  where
    go : (t : Bool) → has_bit m 0 ≡ t → (has_bit m 0 ≡ true → barred_of (slide_of f (n + 1) (m / 2) (b / 2)) j ≡ barred_by (n + 1) (b / 2) j)
        → barred_of (slide_of (suc f) n m b) j ≡ barred_by n b j
    go false e ih = ap (λ (w : Window). barred_of w j) (slide_stop (suc f) n m b e) ∙ slid_bars n m b j (omega arith) z
    go true e ih =
        ap (λ (w : Window). barred_of w j) (slide_on f n m b e)
        ∙ ap (λ (x : ℕ). barred_of (slide_of f x (m / 2) (b / 2)) j) (stop_is (n + 1) (omega arith))
        ∙ ih e
        ∙ bars_on n b j z

-- ---- a mark hands its number over, and nothing else

with_mark : ℕ → ℕ → ℕ
with_mark m d = cond (has_bit m d) m (m + 2 ^ d)

with_mark_lem : (m d i : ℕ) → has_bit (with_mark m d) i ≡ has_bit m i || eqb i d
unfolding with_mark
with_mark_lem m d i = go (has_bit m d) refl
  where
    go : (t : Bool) → has_bit m d ≡ t → has_bit (cond t m (m + 2 ^ d)) i ≡ has_bit m i || eqb i d
    go true e =
        ⊎_elim
        (λ q. ap (has_bit m) q ∙ e ∙ sym (ap (λ (x : Bool). has_bit m i || x) (eq-eqb i d q) ∙ or-true (has_bit m i)))
        (λ q. sym (ap (λ (x : Bool). has_bit m i || x) (ne_eqb i d q) ∙ or-false (has_bit m i)))
        (eq_or_not i d)
    go false e =
        ⊎_elim
        (λ q.
        ap (has_bit (m + 2 ^ d)) q
        ∙ true_has (m + 2 ^ d) d (add_same m d (has_false m d e))
        ∙ sym (ap (λ (x : Bool). has_bit m i || x) (eq-eqb i d q) ∙ or-true (has_bit m i)))
        (λ q.
        has_bit_lem (m + 2 ^ d) m i i (add_other m d i (has_false m d e) (λ s. q (sym s)))
        ∙ sym (ap (λ (x : Bool). has_bit m i || x) (ne_eqb i d q) ∙ or-false (has_bit m i)))
        (eq_or_not i d)

mark_by : (n m k j : ℕ) → n < k → handed_by n (with_mark m (k - n - 1)) j ≡ handed_by n m j || eqb j k
mark_by n m k j a =
    ⊎_elim
    (λ b. by_low n (with_mark m (k - n - 1)) j b ∙ sym (ap (λ (x : Bool). x || eqb j k) (by_low n m j b)))
    (λ b.
    ⊎_elim
    (λ d.
    ap (handed_by n (with_mark m (k - n - 1))) d
    ∙ by_next n (with_mark m (k - n - 1))
    ∙ sym (ap₂ ◌||◌ (ap (handed_by n m) d ∙ by_next n m) (ne_eqb j k (λ e. omega arith))))
    (λ d.
    let q : n < j = ⊎_elim (λ l. absurd (d (omega arith))) (λ l. l) (le_or_lt j n) in
    by_mark n (with_mark m (k - n - 1)) j q
    ∙ with_mark_lem m (k - n - 1) (j - n - 1)
    ∙ sym (ap₂ ◌||◌ (by_mark n m j q) (same_test j k (j - n - 1) (k - n - 1) (λ e. omega arith) (λ e. omega arith))))
    (eq_or_not j n))
    (lt_or_le j n)

pub mark_at : (w : Window) (k j : ℕ) → w.next < k → k ≤ w.next + 128
    → handed_of (mark_of w (k - w.next - 1)) j ≡ handed_of w j || eqb j k
unfolding mark_of with_mark
mark_at w k j a b =
    ap (λ (t : Bool). handed_of (cond t (with_marks w (with_mark (marks_of w) (k - w.next - 1))) w) j)
    (lt-ltb (k - w.next - 1) 128 (omega arith))
    ∙ ap (λ (x : ℕ). handed_by w.next x j) (marks_window (with_mark (marks_of w) (k - w.next - 1)))
    ∙ mark_by w.next (marks_of w) k j a

pub mark_next : (w : Window) (d : ℕ) → w.next ≤ (mark_of w d).next
unfolding mark_of
mark_next w d = go (ltb d 128)
  where
    go : (t : Bool) → w.next ≤ (cond t (with_marks w (marked (marks_of w) d)) w).next
    go true = omega arith
    go false = omega arith

-- a mark bars nothing
mark_bars : (w : Window) (d j : ℕ) → barred_of (mark_of w d) j ≡ barred_of w j
unfolding mark_of
mark_bars w d j = go (ltb d 128)
  where
    go : (t : Bool) → barred_of (cond t (with_marks w (marked (marks_of w) d)) w) j ≡ barred_of w j
    go true = refl
    go false = refl

-- ---- a message lands

-- what a window's numbers are known to be: the types' bounds, the kept rule's bound on a number, and that no barred number is handed over
pub record Sound (w : Window) : Type 0 where
  pub low : w.low < 2 ^ 64
  pub high : w.high < 2 ^ 64
  pub barlow : w.barlow < 2 ^ 64
  pub barhigh : w.barhigh < 2 ^ 64
  pub late : (k : ℕ) → handed_of w k ≡ true → k < 4294967040
  pub apart : (k : ℕ) → barred_of w k ≡ true → handed_of w k ≡ false

pub sound_next : (w : Window) → Sound w → w.next ≤ 4294967040
sound_next w s =
    ⊎_elim (λ l. l) (λ l. let q = s.late 4294967040 (handed_low w 4294967040 l) in absurd (omega arith)) (le_or_lt w.next 4294967040)

pub sound_fresh : Sound fresh_of
sound_fresh =
    record {
      low = omega arith;
      high = omega arith;
      barlow = omega arith;
      barhigh = omega arith;
      late = λ k e. absurd (never_both _ e (fresh_none k));
      apart = λ k e. fresh_none k;
    }

module _ (w : Window) (k : ℕ) where
  pub land_at : w.low < 2 ^ 64 → w.high < 2 ^ 64 → w.next + 128 < 4294967295 → w.next ≤ k → k ≤ w.next + 128
      → (j : ℕ) → handed_of (land_of w k) j ≡ handed_of w j || eqb j k
  land_at l h s a b j =
      ⊎_elim
      (λ e.
      ap (λ (t : Bool). handed_of (cond t (mark_of w (k - w.next - 1)) (slide_of 128 w.next (marks_of w) (bars_of w))) j)
      (le-ltb w.next k (omega arith))
      ∙ slide_at 128 w.next (marks_of w) (bars_of w) j (marks_fit w.low w.high l h) s
      ∙ ap (λ (x : ℕ). handed_of w j || eqb j x) (sym e))
      (λ e.
      let q : w.next < k = ⊎_elim (λ l. absurd (e (omega arith))) (λ l. l) (le_or_lt k w.next) in
      ap (λ (t : Bool). handed_of (cond t (mark_of w (k - w.next - 1)) (slide_of 128 w.next (marks_of w) (bars_of w))) j)
      (lt-ltb w.next k q)
      ∙ mark_at w k j q b)
      (eq_or_not k w.next)

  -- next never falls
  pub land_next : w.next ≤ 4294967295 → w.next ≤ (land_of w k).next
  land_next h = go (ltb w.next k)
    where
      go : (t : Bool) → w.next ≤ (cond t (mark_of w (k - w.next - 1)) (slide_of 128 w.next (marks_of w) (bars_of w))).next
      go true = mark_next w (k - w.next - 1)
      go false = slide_next 128 w.next (marks_of w) (bars_of w) h

-- ---- the bounds stay

-- the types' bounds
pub record Bounds (w : Window) : Type 0 where
  pub low : w.low < 2 ^ 64
  pub high : w.high < 2 ^ 64
  pub barlow : w.barlow < 2 ^ 64
  pub barhigh : w.barhigh < 2 ^ 64

bounds_of : (w : Window) → Sound w → Bounds w
bounds_of w s = record { low = s.low; high = s.high; barlow = s.barlow; barhigh = s.barhigh }

low_fits : (m : ℕ) → m % 2 ^ 64 < 2 ^ 64
low_fits m = mod-lt m (pow_pos 64)

high_fits : (m : ℕ) → m < 2 ^ 128 → m / 2 ^ 64 < 2 ^ 64
high_fits m h = (div-lt_iff_lt-mul (pow_pos 64)).1 h

window_fits : (n m b : ℕ) → m < 2 ^ 128 → b < 2 ^ 128 → Bounds (window_of n m b)
window_fits n m b h g = record { low = low_fits m; high = high_fits m h; barlow = low_fits b; barhigh = high_fits b g }

slide_fits : (f n m b : ℕ) → m < 2 ^ 128 → b < 2 ^ 128 → Bounds (slide_of f n m b)
unfolding slide_of
slide_fits zero n m b h g = window_fits (stop (n + 1)) (m / 2) (b / 2) (lt_of_le_of_lt (div-le_self m 2) h) (lt_of_le_of_lt (div-le_self b 2) g)
slide_fits (suc f) n m b h g =
    let p = lt_of_le_of_lt (div-le_self m 2) h in
    let q = lt_of_le_of_lt (div-le_self b 2) g in
    cond_keeps Bounds (has_bit m 0) (slide_of f (stop (n + 1)) (m / 2) (b / 2)) (slid_of n m b)
    (λ e. slide_fits f (stop (n + 1)) (m / 2) (b / 2) p q) (λ e. window_fits (stop (n + 1)) (m / 2) (b / 2) p q)

with_mark_fits : (m d : ℕ) → m < 2 ^ 128 → d < 128 → with_mark m d < 2 ^ 128
unfolding with_mark
with_mark_fits m d h l = go (has_bit m d) refl
  where
    go : (t : Bool) → has_bit m d ≡ t → cond t m (m + 2 ^ d) < 2 ^ 128
    go true e = h
    go false e = add_fits 128 m d h l (has_false m d e)

mark_fits : (w : Window) (d : ℕ) → Bounds w → Bounds (mark_of w d)
unfolding mark_of with_mark
mark_fits w d f =
    cond_keeps Bounds (ltb d 128) (with_marks w (with_mark (marks_of w) d)) w
    (λ e.
    record {
      low = low_fits (with_mark (marks_of w) d);
      high = high_fits (with_mark (marks_of w) d) (with_mark_fits (marks_of w) d (marks_fit w.low w.high f.low f.high) (ltb-true d 128 e));
      barlow = f.barlow;
      barhigh = f.barhigh;
    })
    (λ e. f)

land_fits : (w : Window) (k : ℕ) → Bounds w → Bounds (land_of w k)
land_fits w k f =
    cond_keeps Bounds (ltb w.next k) (mark_of w (k - w.next - 1)) (slide_of 128 w.next (marks_of w) (bars_of w))
    (λ e. mark_fits w (k - w.next - 1) f)
    (λ e.
    slide_fits 128 w.next (marks_of w) (bars_of w) (marks_fit w.low w.high f.low f.high)
    (marks_fit w.barlow w.barhigh f.barlow f.barhigh))

-- ---- the bars stay

module _ (w : Window) (s : Sound w) where
  bar_at : (d : ℕ) → barred_of w (w.next + d) ≡ has_bit (bars_of w) d
  bar_at d =
      let e : w.next + d - w.next ≡ d = omega arith in
      barred_up w.next (bars_of w) (w.next + d) (omega arith) ∙ ap (has_bit (bars_of w)) e

  -- a marked number is not barred
  bars_apart : (d : ℕ) → has_bit (marks_of w) d ≡ true → has_bit (bars_of w) (suc d) ≡ false
  bars_apart d q = ⊎_elim (λ e. absurd (bad e)) (λ e. e) (cases (has_bit (bars_of w) (suc d)))
    where
      bad : has_bit (bars_of w) (suc d) ≡ true → ⊥
      bad e =
          let i : w.next + suc d - w.next - 1 ≡ d = omega arith in
          never_both (handed_of w (w.next + suc d))
          (by_mark w.next (marks_of w) (w.next + suc d) (omega arith) ∙ ap (has_bit (marks_of w)) i ∙ q)
          (s.apart (w.next + suc d) (bar_at (suc d) ∙ e))

  -- what lands is not barred, and so no bar is lost with it: a barred number stays barred
  pub land_bars : (k : ℕ) → barred_of w k ≡ false → w.next ≤ k → (j : ℕ) → barred_of (land_of w k) j ≡ barred_of w j
  land_bars k free a j =
      let n = sound_next w s in
      ⊎_elim
      (λ e.
      let z : w.next + 0 ≡ k = omega arith in
      ap (λ (t : Bool). barred_of (cond t (mark_of w (k - w.next - 1)) (slide_of 128 w.next (marks_of w) (bars_of w))) j) (le-ltb w.next k (omega arith))
      ∙ slide_bars 128 w.next (marks_of w) (bars_of w) j (omega arith) (sym (bar_at 0) ∙ ap (barred_of w) z ∙ free) bars_apart)
      (λ e.
      ap (λ (t : Bool). barred_of (cond t (mark_of w (k - w.next - 1)) (slide_of 128 w.next (marks_of w) (bars_of w))) j)
      (lt-ltb w.next k (⊎_elim (λ l. absurd (e (omega arith))) (λ l. l) (le_or_lt k w.next)))
      ∙ mark_bars w (k - w.next - 1) j)
      (eq_or_not k w.next)

  pub sound_land : (k : ℕ) → barred_of w k ≡ false → k < 4294967040 → w.next ≤ k → k ≤ w.next + 128 → Sound (land_of w k)
  sound_land k free z a b =
      let n = sound_next w s in
      let f = land_fits w k (bounds_of w s) in
      let at = land_at w k s.low s.high (omega arith) a b in
      record {
        low = f.low;
        high = f.high;
        barlow = f.barlow;
        barhigh = f.barhigh;
        late = λ j e. or_elim (handed_of w j) (eqb j k) (sym (at j) ∙ e) (s.late j) (λ q. let r = eqb-true j k q in omega arith);
        apart = λ j e. not_landed j (sym (land_bars k free a j) ∙ e) (at j);
      }
    where
      not_landed : (j : ℕ) → barred_of w j ≡ true → handed_of (land_of w k) j ≡ handed_of w j || eqb j k → handed_of (land_of w k) j ≡ false
      not_landed j e q =
          q
          ∙ ap₂ ◌||◌ (s.apart j e)
          (ne_eqb j k (λ r. never_both (barred_of w j) e (ap (barred_of w) r ∙ free)))

-- ---- a number is barred

module _ (w : Window) (k : ℕ) where
  -- no message is handed over with it
  pub bar_handed : (j : ℕ) → handed_of (bar_of w k) j ≡ handed_of w j
  unfolding bar_of
  bar_handed j = go (leb w.next k && ltb (k - w.next) 128)
    where
      go : (t : Bool) → handed_of (cond t (with_bars w (marked (bars_of w) (k - w.next))) w) j ≡ handed_of w j
      go true = refl
      go false = refl

  pub bar_next : (bar_of w k).next ≡ w.next
  unfolding bar_of
  bar_next = go (leb w.next k && ltb (k - w.next) 128)
    where
      go : (t : Bool) → (cond t (with_bars w (marked (bars_of w) (k - w.next))) w).next ≡ w.next
      go true = refl
      go false = refl

  module _ (a : w.next ≤ k) (b : k ≤ w.next + 127) where
    bar_is : bar_of w k ≡ with_bars w (with_mark (bars_of w) (k - w.next))
    unfolding bar_of with_mark
    bar_is =
        ap (λ (t : Bool). cond (t && ltb (k - w.next) 128) (with_bars w (marked (bars_of w) (k - w.next))) w) (le-leb w.next k a)
        ∙ ap (λ (t : Bool). cond t (with_bars w (marked (bars_of w) (k - w.next))) w) (lt-ltb (k - w.next) 128 (omega arith))

    -- it alone is barred with it
    pub bar_bars : (j : ℕ) → barred_of (bar_of w k) j ≡ barred_of w j || eqb j k
    bar_bars j =
        ap (λ (v : Window). barred_of v j) bar_is
        ∙ ap (λ (x : ℕ). barred_by w.next x j) (marks_window (with_mark (bars_of w) (k - w.next)))
        ∙ ⊎_elim
        (λ l.
        barred_up w.next (with_mark (bars_of w) (k - w.next)) j l
        ∙ with_mark_lem (bars_of w) (k - w.next) (j - w.next)
        ∙ sym
        (ap₂ ◌||◌ (barred_up w.next (bars_of w) j l) (same_test j k (j - w.next) (k - w.next) (λ e. omega arith) (λ e. omega arith))))
        (λ l.
        barred_low w.next (with_mark (bars_of w) (k - w.next)) j l
        ∙ sym (ap₂ ◌||◌ (barred_low w.next (bars_of w) j l) (ne_eqb j k (λ e. omega arith))))
        (le_or_lt w.next j)

    pub sound_bar : Sound w → handed_of w k ≡ false → Sound (bar_of w k)
    sound_bar s fresh =
        record {
          low = subst (λ (v : Window). v.low < 2 ^ 64) (sym bar_is) s.low;
          high = subst (λ (v : Window). v.high < 2 ^ 64) (sym bar_is) s.high;
          barlow = subst (λ (v : Window). v.barlow < 2 ^ 64) (sym bar_is) (low_fits (with_mark (bars_of w) (k - w.next)));
          barhigh = subst (λ (v : Window). v.barhigh < 2 ^ 64) (sym bar_is)
              (high_fits (with_mark (bars_of w) (k - w.next))
              (with_mark_fits (bars_of w) (k - w.next) (marks_fit w.barlow w.barhigh s.barlow s.barhigh) (omega arith)));
          late = λ j e. s.late j (sym (bar_handed j) ∙ e);
          apart = λ j e.
              bar_handed j
              ∙ or_elim (barred_of w j) (eqb j k) (sym (bar_bars j) ∙ e) (s.apart j) (λ q. ap (handed_of w) (eqb-true j k q) ∙ fresh);
        }

-- a barred number is at or above next and at most 127 past it
pub barred_near : (w : Window) (k : ℕ) → Sound w → barred_of w k ≡ true → (w.next ≤ k) × (k ≤ w.next + 127)
barred_near w k s e =
    let p = and_true (leb w.next k) (has_bit (bars_of w) (k - w.next)) e in
    let l = leb-true w.next k p.0 in
    (l, ⊎_elim (λ h. h) (λ h. absurd (never_both _ p.1 (has_past 128 (bars_of w) (k - w.next) (marks_fit w.barlow w.barhigh s.barlow s.barhigh) (omega arith)))) (le_or_lt k (w.next + 127)))

-- ---- the acknowledgement bitmap, and the holes

pub bitmap_at : (w : Window) (i : ℕ) → i < 8 → has_bit (bitmap_of w) i ≡ handed_of w (w.next + 1 + i)
bitmap_at w i h =
    let e : bitmap_of w + 2 ^ 8 * (marks_of w / 256) ≡ marks_of w = mod_div_256 (marks_of w) in
    let d : w.next + 1 + i - w.next - 1 ≡ i = omega arith in
    sym (has_below 8 (bitmap_of w) (marks_of w / 256) i h)
    ∙ ap (λ (x : ℕ). has_bit x i) e
    ∙ sym (by_mark w.next (marks_of w) (w.next + 1 + i) (omega arith) ∙ ap (has_bit (marks_of w)) d)

pub holes_none : (w : Window) → holes_of w ≡ false → (k : ℕ) → w.next ≤ k → handed_of w k ≡ false
holes_none w e k h =
    let z : marks_of w ≡ 0 = eqb-true (marks_of w) 0 (not-false (eqb (marks_of w) 0) e) in
    ⊎_elim
    (λ q. ap (handed_of w) q ∙ next_not_handed w)
    (λ q.
    by_mark w.next (marks_of w) k (⊎_elim (λ l. absurd (q (omega arith))) (λ l. l) (le_or_lt k w.next))
    ∙ ap (λ (x : ℕ). has_bit x (k - w.next - 1)) z
    ∙ has_none (k - w.next - 1))
    (eq_or_not k w.next)
