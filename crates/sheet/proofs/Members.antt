-- The short calls by the values of their characters, and among all calls. Assumes nothing.
use mathlib.Core.Path.{◌≡◌, refl, sym, ap, ◌∙◌, subst}
use mathlib.Core.List.{List, [], ◌∷◌, head-eq_of_cons-eq}
use mathlib.Core.Logic.{⊎_elim}
use Prim.Native.Nat.{ℕ, zero, suc, ◌<◌}
use native.Mathlib.Omega.{arith}
use lib.ListN.{length}
use borrow.Author.Tests.{ne_eqb}
use Rattle.bits.proofs.Lists.{eq_or_not}
use Rattle.wire.specs.Call.{digit, char, trim_start, trim_end, pad, held, AllChars, IsCall}
use Rattle.wire.proofs.Packed.{pad_end, pad_full}
use Rattle.wire.proofs.Trip.{digit_lt, digit_char}
use Rattle.sheet.specs.Sheet.{NotSpace, Short, empty, one, two}
use Rattle.sheet.proofs.Places.{pair, pair_one, space, space_char, space_value}

-- ---- a character that is not space has a value from 1 to 37

-- the value less 1
value_by : {c : ℕ} → NotSpace c → (d : ℕ) → digit c ≡ d → (v : ℕ) × (v < 37) × (char (suc v) ≡ c)
value_by l zero e = absurd (l.other (sym l.known ∙ ap char e ∙ space_char))
value_by {c} l (suc v) e = (v, omega (arith, digit_lt c), ap char (sym e) ∙ l.known)

pub value_of : {c : ℕ} → NotSpace c → (v : ℕ) × (v < 37) × (char (suc v) ≡ c)
value_of {c} l = value_by l (digit c) refl

with_value : (v : ℕ) → v < 37 → NotSpace (char (suc v))
with_value v h = record {
  known = ap char (digit_char (suc v) (omega arith));
  other = λ e. omega (arith, digit_char (suc v) (omega arith), ap digit e, space_value);
}

pub short_pair : (a b : ℕ) → a < 37 → b < 38 → Short (pair (suc a) b)
short_pair a zero h k = subst Short (sym (pair_one (char (suc a)))) (one (with_value a h))
short_pair a (suc b) h k = two (with_value a h) (with_value b (omega arith))

-- ---- a short call is a call as the station holds it

-- nothing is trimmed where no space stands first
trimmed : (a : ℕ) (r : List ℕ) → (a ≡ 32 → ⊥) → length (a ∷ r) ≡ 7 → held (a ∷ r) ≡ a ∷ r
unfolding trim_start
trimmed a r h e = rw (ne_eqb a 32 h) (pad_end 7 (a ∷ r) (omega arith) ∙ pad_full 7 (a ∷ r) e)

spaces : (n : ℕ) → AllChars (pad n [])
spaces zero = tt
spaces (suc n) = (space, spaces n)

pub short_call : {l : List ℕ} → Short l → IsCall l
unfolding trim_start trim_end
short_call empty = record { seven = refl; chars = spaces 7; trimmed = refl }
short_call (one {a = a} p) = record { seven = refl; chars = (p.known, spaces 6); trimmed = trimmed a _ p.other refl }
short_call (two {a = a} p q) = record { seven = refl; chars = (p.known, (q.known, spaces 5)); trimmed = trimmed a _ p.other refl }

-- ---- a call as the station holds it, with spaces alone behind its second character, is a short call

-- no call has a space in front of another character
spaced : (b : ℕ) (r : List ℕ) → (b ≡ 32 → ⊥) → held (32 ∷ b ∷ r) ≡ 32 ∷ b ∷ r → length r ≡ 5 → ⊥
unfolding trim_start
spaced b r h e n = h (head-eq_of_cons-eq (sym (pad_end 7 (b ∷ r) (omega arith)) ∙ (rw (ne_eqb b 32 h) at e)))

pub call_short : (a b : ℕ) → IsCall (a ∷ b ∷ pad 5 []) → Short (a ∷ b ∷ pad 5 [])
call_short a b c =
    let p = c.chars.0 in
    let q = c.chars.1.0 in
    ⊎_elim (λ e.
    ⊎_elim (λ f. subst (λ (x : ℕ). Short (x ∷ b ∷ pad 5 [])) (sym e) (subst (λ (y : ℕ). Short (32 ∷ y ∷ pad 5 [])) (sym f) empty))
    (λ g. absurd (spaced b (pad 5 []) g (subst (λ (x : ℕ). held (x ∷ b ∷ pad 5 []) ≡ x ∷ b ∷ pad 5 []) e c.trimmed) refl)) (eq_or_not b 32))
    (λ h.
    ⊎_elim (λ f. subst (λ (y : ℕ). Short (a ∷ y ∷ pad 5 [])) (sym f) (one (record { known = p; other = h })))
    (λ g. two (record { known = p; other = h }) (record { known = q; other = g })) (eq_or_not b 32))
    (eq_or_not a 32)
