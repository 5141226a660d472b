-- `le` and `total_lt` of two floats that are whole numbers, by their signs and sizes. Assumes nothing.
use mathlib.Core.Path.{◌≡◌, sym, ap, ◌∙◌, subst}
use Prim.Native.Nat.{ℕ, ◌*◌, ◌<◌}
use native.Mathlib.Nat.{mul-one, mul_assoc, mul_comm, mul-pos, lt_irrefl}
use mathlib.Core.Bool.{Bool, true, false, ◌&&◌}
use lib.IntN.{ℤ}
use lib.Dec.{T, leb, ltb, eqb, eqb→eq}
use lib.Ieee.{Float, nan, inf, fin, up, down, le}
use lib.Ieee.Exact.{HasValue}
use lib.Ieee.Fits.{down_pos, and_l, and_r}
use Rattle.level.specs.Order.{total_lt}
use Rattle.level.proofs.Le.{iff, le_plus, le_minus, le_across, le_back, leb_scale, ltb_scale}
use Rattle.level.proofs.Total.{total_plus, total_minus, total_across, total_back}

-- x is a, or -a where s is true
pub record Whole (x : Float) (s : Bool) (a : ℕ) : Type 0 where
  pub mag : ℕ
  pub exp : ℤ
  pub is : x ≡ fin s mag exp
  pub size : mag * up exp * 1 ≡ a * down exp

pub whole : (x : Float) (s : Bool) (a : ℕ) → HasValue x s a 1 → Whole x s a
whole nan s a h = absurd h
whole (inf t) s a h = absurd h
whole (fin t m e) s a h = record { mag = m; exp = e; is = ap (λ (z : Bool). fin z m e) h.0; size = h.1 }

sized : (m : ℕ) (e : ℤ) (a k : ℕ) → m * up e * 1 ≡ a * down e → m * up e * k ≡ a * (down e * k)
sized m e a k h = ap (λ (z : ℕ). z * k) (sym (mul-one (m * up e)) ∙ h) ∙ mul_assoc a (down e) k

-- the two products that an order compares are the two sizes times one factor
module _ (m : ℕ) (e : ℤ) (n : ℕ) (d : ℤ) (a b : ℕ) (h : m * up e * 1 ≡ a * down e) (k : n * up d * 1 ≡ b * down d) where
  scaled : (f : ℕ → ℕ → Bool) → f (m * up e * down d) (n * up d * down e) ≡ f (a * (down e * down d)) (b * (down e * down d))
  scaled f =
      ap (λ (z : ℕ). f z (n * up d * down e)) (sized m e a (down d) h)
      ∙ ap (f (a * (down e * down d))) (sized n d b (down e) k ∙ ap (λ (z : ℕ). b * z) (mul_comm (down d) (down e)))

  factor_pos : 0 < down e * down d
  factor_pos = mul-pos (down_pos e) (down_pos d)

  at_most : leb (m * up e * down d) (n * up d * down e) ≡ leb a b
  at_most = scaled leb ∙ leb_scale a b (down e * down d) factor_pos

  below : ltb (m * up e * down d) (n * up d * down e) ≡ ltb a b
  below = scaled ltb ∙ ltb_scale a b (down e * down d) factor_pos

  -- equal, and nothing: not where b is above 0
  apart : 0 < b → (eqb (m * up e * down d) (n * up d * down e) && eqb (m * up e * down d) 0) ≡ false
  apart B =
      scaled (λ x y. eqb x y && eqb x 0)
      ∙ iff (eqb (a * (down e * down d)) (b * (down e * down d)) && eqb (a * (down e * down d)) 0) false
      (λ t. no (and_l (eqb (a * (down e * down d)) (b * (down e * down d))) (eqb (a * (down e * down d)) 0) t) (and_r (eqb (a * (down e * down d)) (b * (down e * down d))) (eqb (a * (down e * down d)) 0) t))
      (λ t. absurd t)
    where
      no : T (eqb (a * (down e * down d)) (b * (down e * down d))) → T (eqb (a * (down e * down d)) 0) → ⊥
      no p q =
          lt_irrefl 0
          (subst (λ (z : ℕ). 0 < z) (sym (eqb→eq (a * (down e * down d)) (b * (down e * down d)) p) ∙ eqb→eq (a * (down e * down d)) 0 q) (mul-pos B factor_pos))

-- both sides written as finite values
module _ (f : Float → Float → Bool) {x y : Float} {s t : Bool} {a b : ℕ} (u : Whole x s a) (v : Whole y t b) where
  opened : f x y ≡ f (fin s u.mag u.exp) (fin t v.mag v.exp)
  opened = ap (λ (z : Float). f z y) u.is ∙ ap (f (fin s u.mag u.exp)) v.is

module _ {x y : Float} {a b : ℕ} where
  pub le_whole_plus : Whole x false a → Whole y false b → le x y ≡ leb a b
  le_whole_plus u v = opened le u v ∙ le_plus u.mag u.exp v.mag v.exp ∙ at_most u.mag u.exp v.mag v.exp a b u.size v.size

  pub le_whole_minus : Whole x true a → Whole y true b → le x y ≡ leb b a
  le_whole_minus u v = opened le u v ∙ le_minus u.mag u.exp v.mag v.exp ∙ at_most v.mag v.exp u.mag u.exp b a v.size u.size

  pub le_whole_across : Whole x true a → Whole y false b → le x y ≡ true
  le_whole_across u v = opened le u v ∙ le_across u.mag u.exp v.mag v.exp

  pub le_whole_back : Whole x false a → Whole y true b → 0 < b → le x y ≡ false
  le_whole_back u v B = opened le u v ∙ le_back u.mag u.exp v.mag v.exp ∙ apart u.mag u.exp v.mag v.exp a b u.size v.size B

  pub total_whole_plus : Whole x false a → Whole y false b → total_lt x y ≡ ltb a b
  total_whole_plus u v = opened total_lt u v ∙ total_plus u.mag u.exp v.mag v.exp ∙ below u.mag u.exp v.mag v.exp a b u.size v.size

  pub total_whole_minus : Whole x true a → Whole y true b → total_lt x y ≡ ltb b a
  total_whole_minus u v = opened total_lt u v ∙ total_minus u.mag u.exp v.mag v.exp ∙ below v.mag v.exp u.mag u.exp b a v.size u.size

  pub total_whole_across : Whole x true a → Whole y false b → total_lt x y ≡ true
  total_whole_across u v = opened total_lt u v ∙ total_across u.mag u.exp v.mag v.exp

  pub total_whole_back : Whole x false a → Whole y true b → total_lt x y ≡ false
  total_whole_back u v = opened total_lt u v ∙ total_back u.mag u.exp v.mag v.exp
