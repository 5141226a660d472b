-- The 64 level fields: each is its low six bits less 24, exactly, so that their order as levels is that of the fields. Assumes nothing.
use mathlib.Core.Path.{◌≡◌, refl, sym, ap, ◌∙◌, subst}
use mathlib.Core.Bool.{Bool, true, false, beq, cond, ◌&&◌}
use mathlib.Core.Logic.{⊎_elim}
use Prim.Native.Nat.{ℕ, ◌-◌, ◌*◌, ◌%◌, ◌≤◌, ◌<◌}
use native.Mathlib.Nat.{mod-lt, zero-lt-suc, mod-mod}
use native.Mathlib.Omega.{arith}
use lib.Dec.{T, ltb, leb, eqb, eqb→eq}
use lib.IntN.{pos}
use lib.Ieee.{Float, nan, inf, fin, up, down, sub, round, of_int, of_bits, binary32, le}
use lib.Ieee.Fits.{and_l, and_r}
use lib.Ieee.Exact.{HasValue}
use borrow.Author.Tests.{lt-ltb, le-ltb, lt-leb, le-leb}
use Rattle.bits.proofs.Lists.{le_or_lt}
use Rattle.level.specs.Consts.{twenty_four}
use Rattle.level.specs.Order.{total_lt}
use Rattle.level.specs.declared.Level.TheVariants.{Unheard, Decibels}
use Rattle.level.proofs.Whole.{Whole, whole, le_whole_plus, le_whole_minus, le_whole_across, le_whole_back, total_whole_plus, total_whole_minus, total_whole_across, total_whole_back}
use Rattle.wire.specs.Fields.{field_db, snr_from_q}
use Rattle.wire.proofs.Table.{all, all_at}

-- 63 in the low six bits is unheard, and 0 to 62 are decibels
pub snr_unheard : (q : ℕ) → eqb (q % 64) 63 ≡ true → snr_from_q q ≡ Unheard
unfolding snr_from_q
snr_unheard q h = rw h

pub snr_heard : (q : ℕ) → eqb (q % 64) 63 ≡ false → snr_from_q q ≡ Decibels (field_db q)
unfolding snr_from_q
snr_heard q h = rw h

-- `HasValue` as a test
abbrev has_value : Float → Bool → ℕ → ℕ → Bool
has_value nan s a c = false
has_value (inf t) s a c = false
has_value (fin t m e) s a c = beq t s && eqb (m * up e * c) (a * down e)

same_sign : (t s : Bool) → T (beq t s) → t ≡ s
same_sign true true h = refl
same_sign true false h = absurd h
same_sign false true h = absurd h
same_sign false false h = refl

has_value→ : (x : Float) (s : Bool) (a c : ℕ) → T (has_value x s a c) → HasValue x s a c
has_value→ nan s a c t = t
has_value→ (inf u) s a c t = t
has_value→ (fin u m e) s a c t = (
  same_sign u s (and_l (beq u s) (eqb (m * up e * c) (a * down e)) t),
  eqb→eq (m * up e * c) (a * down e) (and_r (beq u s) (eqb (m * up e * c) (a * down e)) t),
)

-- q - 24 as a sign and a size
abbrev size : ℕ → ℕ
size q = cond (ltb q 24) (24 - q) (q - 24)

exact : ℕ → Bool
exact q = has_value (field_db q) (ltb q 24) (size q) 1

exact_64 : T (all exact 64)
unfolding exact field_db sub of_int of_bits round
exact_64 = tt

field_below : (q : ℕ) → q < 64 → HasValue (field_db q) (ltb q 24) (size q) 1
unfolding exact
field_below q h = has_value→ (field_db q) (ltb q 24) (size q) 1 (all_at exact 64 exact_64 q h)

-- every field, by its low six bits
pub field_low : (q : ℕ) → field_db (q % 64) ≡ field_db q
unfolding field_db
field_low q = ap (λ (n : ℕ). sub binary32 (of_int binary32 (pos n)) twenty_four) (mod-mod q 64)

-- exactly q % 64 - 24: a sign and a size
pub field_exact : (q : ℕ) → HasValue (field_db q) (ltb (q % 64) 24) (size (q % 64)) 1
field_exact q = subst (λ (x : Float). HasValue x (ltb (q % 64) 24) (size (q % 64)) 1) (field_low q) (field_below (q % 64) (mod-lt q (zero-lt-suc 63)))

minus : (q : ℕ) → q < 24 → Whole (field_db q) true (24 - q)
minus q h =
    whole (field_db q) true (24 - q)
    (subst (λ (b : Bool). HasValue (field_db q) b (cond b (24 - q) (q - 24)) 1) (lt-ltb q 24 h) (field_below q (omega arith)))

plus : (q : ℕ) → 24 ≤ q → q < 64 → Whole (field_db q) false (q - 24)
plus q h k =
    whole (field_db q) false (q - 24)
    (subst (λ (b : Bool). HasValue (field_db q) b (cond b (24 - q) (q - 24)) 1) (le-ltb q 24 h) (field_below q k))

leb_iff : (a b c d : ℕ) → (a ≤ b → c ≤ d) → (c ≤ d → a ≤ b) → leb a b ≡ leb c d
leb_iff a b c d f g =
    ⊎_elim (λ h. le-leb a b h ∙ sym (le-leb c d (f h)))
    (λ h. lt-leb a b h ∙ sym (lt-leb c d (⊎_elim (λ k. let z = g k in omega arith) (λ k. k) (le_or_lt c d))))
    (le_or_lt a b)

ltb_iff : (a b c d : ℕ) → (a < b → c < d) → (c < d → a < b) → ltb a b ≡ ltb c d
ltb_iff a b c d f g =
    ⊎_elim (λ h. le-ltb a b h ∙ sym (le-ltb c d (⊎_elim (λ k. k) (λ k. let z = g k in omega arith) (le_or_lt d c))))
    (λ h. lt-ltb a b h ∙ sym (lt-ltb c d (f h)))
    (le_or_lt b a)

-- the order of two fields
module _ (a b : ℕ) (A : a < 64) (B : b < 64) where
  pub field_le : le (field_db a) (field_db b) ≡ leb a b
  field_le =
      ⊎_elim (λ h.
      ⊎_elim (λ k. le_whole_plus (plus a h A) (plus b k B) ∙ leb_iff (a - 24) (b - 24) a b (λ z. omega arith) (λ z. omega arith))
      (λ k. le_whole_back (plus a h A) (minus b k) (omega arith) ∙ sym (lt-leb a b (omega arith))) (le_or_lt 24 b))
      (λ h.
      ⊎_elim (λ k. le_whole_across (minus a h) (plus b k B) ∙ sym (le-leb a b (omega arith)))
      (λ k. le_whole_minus (minus a h) (minus b k) ∙ leb_iff (24 - b) (24 - a) a b (λ z. omega arith) (λ z. omega arith)) (le_or_lt 24 b))
      (le_or_lt 24 a)

  pub field_lt : total_lt (field_db a) (field_db b) ≡ ltb a b
  field_lt =
      ⊎_elim (λ h.
      ⊎_elim (λ k. total_whole_plus (plus a h A) (plus b k B) ∙ ltb_iff (a - 24) (b - 24) a b (λ z. omega arith) (λ z. omega arith))
      (λ k. total_whole_back (plus a h A) (minus b k) ∙ sym (le-ltb a b (omega arith))) (le_or_lt 24 b))
      (λ h.
      ⊎_elim (λ k. total_whole_across (minus a h) (plus b k B) ∙ sym (lt-ltb a b (omega arith)))
      (λ k. total_whole_minus (minus a h) (minus b k) ∙ ltb_iff (24 - b) (24 - a) a b (λ z. omega arith) (λ z. omega arith)) (le_or_lt 24 b))
      (le_or_lt 24 a)
