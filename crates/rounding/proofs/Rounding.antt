-- What the proof of `whole_ms` cites, and the law that the number announced is within one half of the value. Assumes nothing.
use Rattle.std.proofs.Common.{◌≡◌, ℕ, ◌+◌, ◌*◌, ◌/◌, ◌<◌, ◌≤◌, min, Bool, true, false, T, ltb, ℤ, pos, sym, refl, ap, ◌∙◌, subst, true≢false, zero-lt-suc, mul_assoc, mul_comm, div-lt_iff_lt-mul, add-mul, mul-pos, one-mul, le-div_iff_mul-le, mul-one, div-mul-le_self, arith, lit≤, lit<, leb→le, ltb-false, ltb-true}
use native.Mathlib.Nat.{lt-div-mul-add, div-eq_of_lt-le}
use lib.Ieee.{Float, nan, inf, fin, binary64, up, down, le, round, to_unsigned, neg}
use lib.Ieee.Fits.{down_pos}
use lib.Ieee.Exact.{HasValue}
use lib.Ieee.Back.{round_whole}
use Rattle.level.proofs.Le.{le_plus}
use Rattle.std.specs.Float.{float_round, round_with}
use Rattle.rounding.proofs.Rounded.{plus, plus_round, round_neg, lower, Fit}
use Rattle.rounding.specs.Round.{away, announced, Close}

abbrev top : Float
top = fin false 65535 (pos 0)

-- ---- the number announced, by whole numbers
twice : (k D : ℕ) → k * (2 * D) ≡ k * D * 2
twice k D = ap (λ (z : ℕ). k * z) (mul_comm 2 D) ∙ sym (mul_assoc k D 2)

one_more : (k D : ℕ) → (k + 1) * D ≡ k * D + D
one_more k D = add-mul k 1 D ∙ ap (λ (z : ℕ). k * D + z) (one-mul D)

module _ (N D : ℕ) (D0 : 0 < D) where
  -- ---- the number is within one half of N / D
  pub close_below : 2 * N ≤ (2 * away N D + 1) * D
  close_below =
      let k = away N D in
      let h : 2 * N + D < k * (2 * D) + 2 * D = lt-div-mul-add (mul-pos (zero-lt-suc 1) D0) in
      let a : k * (2 * D) ≡ k * D * 2 = twice k D in
      let b : (2 * k + 1) * D ≡ 2 * (k * D) + D = one_more (2 * k) D ∙ ap (λ (z : ℕ). z + D) (mul_assoc 2 k D) in
      omega arith

  pub close_above : 2 * (away N D * D) ≤ 2 * N + D
  close_above =
      let k = away N D in
      let h : k * (2 * D) ≤ 2 * N + D = div-mul-le_self (2 * N + D) (2 * D) in
      let a : k * (2 * D) ≡ k * D * 2 = twice k D in
      omega arith

  pub fits : N ≤ 65535 * D → away N D ≤ 65535
  fits h = below (away N D) ((div-lt_iff_lt-mul (mul-pos (zero-lt-suc 1) D0)).1 (let e : 65536 * (2 * D) ≡ 65536 * D * 2 = twice 65536 D in omega arith))
    where
      below : (k : ℕ) → k < 65536 → k ≤ 65535
      below k h = omega arith

-- for a value m * 2 ^ e from 0 to 65,535
pub announced_close : (m : ℕ) (e : ℤ) → m * up e ≤ 65535 * down e → Close (announced (fin false m e)) (m * up e) (down e)
unfolding announced
announced_close m e h =
    subst (λ (r : ℕ). Close r (m * up e) (down e)) (sym (capped (away (m * up e) (down e)) (fits (m * up e) (down e) (down_pos e) h)))
    (record { below = close_below (m * up e) (down e) (down_pos e); above = close_above (m * up e) (down e) (down_pos e) })
  where
    capped : (a : ℕ) → a ≤ 65535 → min 65535 a ≡ a
    capped a h = omega arith

-- ---- a whole number that a float has, cut to 16 bits
to_whole : (z : Float) (q : ℕ) → HasValue z false q 1 → to_unsigned 16 z ≡ min 65535 q
unfolding to_unsigned
to_whole nan q h = absurd h
to_whole (inf s) q h = absurd h
to_whole (fin true m e) q h = absurd (true≢false h.0)
to_whole (fin false m e) q h =
    let d : 0 < down e = down_pos e in
    let v : m * up e ≡ q * down e = sym (mul-one (m * up e)) ∙ h.1 in
    let k : (q + 1) * down e ≡ q * down e + down e = one_more q (down e) in
    let w : m * up e / down e ≡ q = div-eq_of_lt-le (down e) (omega arith) (omega arith) in
    omega arith

to_full : (z : Float) → T (plus z) → T (le top z) → to_unsigned 16 z ≡ 65535
unfolding to_unsigned
to_full nan p t = absurd p
to_full (inf true) p t = absurd p
to_full (inf false) p t = refl
to_full (fin true m e) p t = absurd p
to_full (fin false m e) p t =
    let a : 65535 * down e ≤ m * up e * 1 = leb→le (65535 * down e) (m * up e * 1) (subst T (le_plus 65535 (pos 0) m e) t) in
    let w : 65535 ≤ m * up e / down e = (le-div_iff_mul-le (down_pos e)).1 (omega arith) in
    omega arith

to_none : (z : Float) → T (plus z) → to_unsigned 16 (neg z) ≡ 0
unfolding to_unsigned neg
to_none nan p = absurd p
to_none (inf true) p = absurd p
to_none (inf false) p = refl
to_none (fin true m e) p = absurd p
to_none (fin false m e) p = refl

top_fits : Fit binary64 65535 (pos 0)
top_fits = record { small = lit< tt; deep = lit≤ tt; fine = lit< tt }

whole : (q : ℕ) → to_unsigned 16 (round binary64 false q 1) ≡ min 65535 q
whole q = by (ltb q 65535) refl
  where
    by : (b : Bool) → ltb q 65535 ≡ b → to_unsigned 16 (round binary64 false q 1) ≡ min 65535 q
    by true e =
        let h : q < 65535 = ltb-true q 65535 e in
        to_whole (round binary64 false q 1) q (round_whole binary64 false q (omega arith))
    by false e =
        let h : 65535 ≤ q = ltb-false q 65535 e in
        let c : min 65535 q ≡ 65535 = omega arith in
        to_full (round binary64 false q 1) (plus_round binary64 q 1) (lower binary64 65535 (pos 0) q 1 top_fits (zero-lt-suc 0) (omega arith)) ∙ sym c

-- what `whole_ms` does is what `announced` says
pub rounds : (x : Float) → to_unsigned 16 (float_round binary64 x) ≡ announced x
unfolding announced round_with
rounds nan = unfold to_unsigned in refl
rounds (inf true) = unfold to_unsigned in refl
rounds (inf false) = unfold to_unsigned in refl
rounds (fin true m e) =
    let q = away (m * up e) (down e) in
    ap (to_unsigned 16) (round_neg binary64 q 1) ∙ to_none (round binary64 false q 1) (plus_round binary64 q 1)
rounds (fin false m e) = whole (away (m * up e) (down e))
