-- A float by a fraction that it equals (`HasValue x s a c`: x is finite, has the sign s and is a / c in size): sums. Assumes nothing.
use Rattle.std.proofs.Common.{◌≡◌, ℕ, ◌+◌, ◌-◌, ◌*◌, ◌<◌, ◌≤◌, Bool, true, false, cond, not, ◌&&◌, T, ltb, sym, refl, ap, ◌∙◌, lt_trans, lt_irrefl, mul_comm, add-mul, add_comm, mul-pos, arith, ltb→lt, nltb→le}
use native.Mathlib.Nat.{mul-mul-mul_comm, mul-sub}
use mathlib.Core.Bool.{beq}
use lib.Ieee.{Float, nan, inf, fin, Format, up, down, round, sum, add}
use lib.Ieee.Fits.{down_pos}
use lib.Ieee.Exact.{HasValue}
use lib.Ieee.Scale.{round_same}
use Rattle.level.proofs.Le.{ltb_scale}

-- ---- `sum` sees only the values of its two fractions
module _ (f : Format) (s : Bool) (X : ℕ) (t : Bool) (Y C X' Y' C' : ℕ) (c : 0 < C) (c' : 0 < C') (p : X * C' ≡ X' * C) (q : Y * C' ≡ Y' * C) where
  less : ltb X Y ≡ ltb X' Y'
  less = sym (ltb_scale X Y C' c') ∙ ap (λ (z : ℕ). ltb z (Y * C')) p ∙ ap (λ (z : ℕ). ltb (X' * C) z) q ∙ ltb_scale X' Y' C c

  more : ltb Y X ≡ ltb Y' X'
  more = sym (ltb_scale Y X C' c') ∙ ap (λ (z : ℕ). ltb z (X * C')) q ∙ ap (λ (z : ℕ). ltb (Y' * C) z) p ∙ ltb_scale Y' X' C c

  sub_mul : (a b k : ℕ) → (a - b) * k ≡ a * k - b * k
  sub_mul a b k = mul_comm (a - b) k ∙ mul-sub k a b ∙ ap (λ (z : ℕ). z - k * b) (mul_comm k a) ∙ ap (λ (z : ℕ). a * k - z) (mul_comm k b)

  pub sum_same : sum f s X t Y C ≡ sum f s X' t Y' C'
  unfolding sum
  sum_same =
      ap (λ (z : Float). cond (beq s t) z (cond (ltb X Y) (round f t (Y - X) C) (round f (s && ltb Y X) (X - Y) C)))
      (round_same f s (X + Y) C (X' + Y') C' c c' (add-mul X Y C' ∙ ap (λ (z : ℕ). z + Y * C') p ∙ ap (λ (z : ℕ). X' * C + z) q ∙ sym (add-mul X' Y' C)))
      ∙ ap (λ (z : Float). cond (beq s t) (round f s (X' + Y') C') (cond (ltb X Y) z (round f (s && ltb Y X) (X - Y) C)))
      (round_same f t (Y - X) C (Y' - X') C' c c' (sub_mul Y X C' ∙ ap (λ (z : ℕ). z - X * C') q ∙ ap (λ (z : ℕ). Y' * C - z) p ∙ sym (sub_mul Y' X' C)))
      ∙ ap (λ (z : Float). cond (beq s t) (round f s (X' + Y') C') (cond (ltb X Y) (round f t (Y' - X') C') z))
      (round_same f (s && ltb Y X) (X - Y) C (X' - Y') C' c c' (sub_mul X Y C' ∙ ap (λ (z : ℕ). z - Y * C') p ∙ ap (λ (z : ℕ). X' * C - z) q ∙ sym (sub_mul X' Y' C)))
      ∙ ap (λ (z : Bool). cond (beq s t) (round f s (X' + Y') C') (cond z (round f t (Y' - X') C') (round f (s && ltb Y X) (X' - Y') C'))) less
      ∙ ap (λ (z : Bool). cond (beq s t) (round f s (X' + Y') C') (cond (ltb X' Y') (round f t (Y' - X') C') (round f (s && z) (X' - Y') C'))) more

over : (X g h a c d : ℕ) → X * c ≡ a * g → X * h * (c * d) ≡ a * d * (g * h)
over X g h a c d p = mul-mul-mul_comm X h c d ∙ ap (λ (z : ℕ). z * (h * d)) p ∙ ap (λ (z : ℕ). a * g * z) (mul_comm h d) ∙ mul-mul-mul_comm a g d h

-- the sum of two finite values, by any fractions that they equal
pub add_values : (f : Format) (x y : Float) (s : Bool) (a c : ℕ) (t : Bool) (b d : ℕ) → 0 < c → 0 < d → HasValue x s a c → HasValue y t b d → add f x y ≡ sum f s (a * d) t (b * c) (c * d)
unfolding add
add_values f nan y s a c t b d C D p q = absurd p
add_values f (inf u) y s a c t b d C D p q = absurd p
add_values f (fin u m e) nan s a c t b d C D p q = absurd q
add_values f (fin u m e) (inf v) s a c t b d C D p q = absurd q
add_values f (fin u m e) (fin v n g) s a c t b d C D p q =
    ap (λ (z : Bool). sum f z (m * up e * down g) v (n * up g * down e) (down e * down g)) p.0
    ∙ ap (λ (z : Bool). sum f s (m * up e * down g) z (n * up g * down e) (down e * down g)) q.0
    ∙ sum_same f s (m * up e * down g) t (n * up g * down e) (down e * down g) (a * d) (b * c) (c * d) (mul-pos (down_pos e) (down_pos g)) (mul-pos C D)
    (over (m * up e) (down e) (down g) a c d p.1)
    (ap (λ (z : ℕ). n * up g * down e * z) (mul_comm c d) ∙ over (n * up g) (down g) (down e) b d c q.1 ∙ ap (λ (z : ℕ). b * c * z) (mul_comm (down g) (down e)))

-- ---- a sum does not turn on the order
apart : {A : Type 0} (x y : ℕ) → x < y → y < x → A
apart x y h k = absurd (lt_irrefl x (lt_trans h k))

level : (x y : ℕ) → y ≤ x → x ≤ y → x - y ≡ y - x
level x y h k = omega arith

sum_cross : (f : Format) (X Y C : ℕ) → sum f true X false Y C ≡ sum f false Y true X C
unfolding sum
sum_cross f X Y C = go (ltb X Y) (ltb Y X) (ltb→lt X Y) (ltb→lt Y X) (nltb→le X Y) (nltb→le Y X)
  where
    go : (l g : Bool) → (T l → X < Y) → (T g → Y < X) → (T (not l) → Y ≤ X) → (T (not g) → X ≤ Y)
        → cond l (round f false (Y - X) C) (round f g (X - Y) C) ≡ cond g (round f true (X - Y) C) (round f false (Y - X) C)
    go true true a b c d = apart X Y (a tt) (b tt)
    go true false a b c d = refl
    go false true a b c d = refl
    go false false a b c d = ap (λ (z : ℕ). round f false z C) (level X Y (c tt) (d tt))

sum_comm : (f : Format) (s : Bool) (X : ℕ) (t : Bool) (Y C : ℕ) → sum f s X t Y C ≡ sum f t Y s X C
sum_comm f true X true Y C = unfold sum in ap (λ (z : ℕ). round f true z C) (add_comm X Y)
sum_comm f true X false Y C = sum_cross f X Y C
sum_comm f false X true Y C = sym (sum_cross f Y X C)
sum_comm f false X false Y C = unfold sum in ap (λ (z : ℕ). round f false z C) (add_comm X Y)

pub add_sym : (f : Format) (x y : Float) → add f x y ≡ add f y x
unfolding add
add_sym f nan nan = refl
add_sym f nan (inf t) = refl
add_sym f nan (fin t n d) = refl
add_sym f (inf s) nan = refl
add_sym f (inf true) (inf true) = refl
add_sym f (inf true) (inf false) = refl
add_sym f (inf false) (inf true) = refl
add_sym f (inf false) (inf false) = refl
add_sym f (inf s) (fin t n d) = refl
add_sym f (fin s m e) nan = refl
add_sym f (fin s m e) (inf t) = refl
add_sym f (fin s m e) (fin t n d) =
    sum_comm f s (m * up e * down d) t (n * up d * down e) (down e * down d) ∙ ap (λ (z : ℕ). sum f t (n * up d * down e) s (m * up e * down d) z) (mul_comm (down e) (down d))
