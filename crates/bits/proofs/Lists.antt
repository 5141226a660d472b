-- Tests and choices by their cases, two numbers in order, and what stands at an index of a list after a store or a copy. Assumes nothing.
use mathlib.Core.Path.{◌≡◌, refl, sym, ap, ◌∙◌}
use mathlib.Core.Bool.{Bool, true, false, cond, ◌&&◌, ◌||◌}
use mathlib.Core.List.{List, ◌++◌}
use mathlib.Core.Logic.{◌⊎◌, inl, inr, ⊎_elim}
use Prim.Native.Nat.{ℕ, ◌+◌, ◌-◌, ◌≤◌, ◌<◌}
use native.Mathlib.Numerals.{add-one}
use native.Mathlib.Omega.{arith}
use lib.ListN.{length, get_or, set, take, drop, length-drop, get_or-append}
use lib.Seq.{paste, paste-suc, length_paste_head, length-take-le, get_or-append-add, get_or-take, get_or-drop}
use lib.Dec.{leb, eqb}
use borrow.Author.Tests.{leb-true, leb-false, eqb-true, eqb-false, eq-eqb, ne_eqb}

-- a choice, by its flag. A proof that has the flag as a field of a record, as `s.closed ≡ true`, uses these: `rw` would rewrite the
-- field of s too, wherever s stands
pub cond_true : {A : Type 0} (b : Bool) (x y : A) → b ≡ true → cond b x y ≡ x
cond_true b x y e = rw e

pub cond_false : {A : Type 0} (b : Bool) (x y : A) → b ≡ false → cond b x y ≡ y
cond_false b x y e = rw e

-- a choice between two things of which P holds
pub cond_keeps : {A : Type 0} (P : A → Type 0) (b : Bool) (x y : A) → (b ≡ true → P x) → (b ≡ false → P y) → P (cond b x y)
cond_keeps P true x y f g = f refl
cond_keeps P false x y f g = g refl

pub and_true : (a b : Bool) → a && b ≡ true → (a ≡ true) × (b ≡ true)
and_true true b e = (refl, e)
and_true false b e = let y : ◌≡◌ {A = ℕ} 0 1 = cc in absurd (omega arith)

pub or_false : (a b : Bool) → a || b ≡ false → (a ≡ false) × (b ≡ false)
or_false false b e = (refl, e)
or_false true b e = let y : ◌≡◌ {A = ℕ} 0 1 = cc in absurd (omega arith)

pub or_elim : {P : Type 0} (a b : Bool) → a || b ≡ true → (a ≡ true → P) → (b ≡ true → P) → P
or_elim true b e f g = f refl
or_elim false b e f g = g e

pub never_both : (a : Bool) → a ≡ true → a ≡ false → ⊥
never_both a p q = let y : ◌≡◌ {A = ℕ} 0 1 = cc in omega arith

pub cases : (t : Bool) → (t ≡ true) ⊎ (t ≡ false)
cases true = inl refl
cases false = inr refl

pub le_or_lt : (a b : ℕ) → (a ≤ b) ⊎ (b < a)
le_or_lt a b = ⊎_elim (λ e. inl (leb-true a b e)) (λ e. inr (leb-false a b e)) (cases (leb a b))

pub eq_or_not : (a b : ℕ) → (a ≡ b) ⊎ (a ≡ b → ⊥)
eq_or_not a b = ⊎_elim (λ e. inl (eqb-true a b e)) (λ e. inr (eqb-false a b e)) (cases (eqb a b))

pub lt_or_le : (a b : ℕ) → (a < b) ⊎ (b ≤ a)
lt_or_le a b = ⊎_elim (λ l. inr l) (λ l. inl l) (le_or_lt b a)

-- two tests of equality that say the same
pub same_test : (a b c d : ℕ) → (a ≡ b → c ≡ d) → (c ≡ d → a ≡ b) → eqb a b ≡ eqb c d
same_test a b c d f g =
    ⊎_elim (λ e. eq-eqb a b e ∙ sym (eq-eqb c d (f e))) (λ e. ne_eqb a b e ∙ sym (ne_eqb c d (λ q. e (g q)))) (eq_or_not a b)

pub below : (i j : ℕ) → i < j + 1 → (i ≡ j → ⊥) → i < j
below i j h z = ⊎_elim (λ p. absurd (z (omega arith))) (λ p. p) (le_or_lt j i)

module _ (d : List ℕ) (at : ℕ) (s : List ℕ) (n : ℕ) (hd : at ≤ length d) (hs : n ≤ length s) where
  pub paste_below : (i : ℕ) → i < at → get_or (paste d at s n) i 0 ≡ get_or d i 0
  paste_below i h =
      let l : length (take at d) ≡ at = length-take-le at d hd in
      let m : length (take at d ++ take n s) ≡ at + n = length_paste_head d at s n hd hs in
      get_or-append (take at d ++ take n s) (drop (at + n) d) 0 i (omega arith)
      ∙ get_or-append (take at d) (take n s) 0 i (omega arith)
      ∙ get_or-take at d i 0 h

  pub paste_in : (j : ℕ) → j < n → get_or (paste d at s n) (at + j) 0 ≡ get_or s j 0
  paste_in j h =
      let l : length (take at d) ≡ at = length-take-le at d hd in
      let m : length (take at d ++ take n s) ≡ at + n = length_paste_head d at s n hd hs in
      get_or-append (take at d ++ take n s) (drop (at + n) d) 0 (at + j) (omega arith)
      ∙ ap (λ (k : ℕ). get_or (take at d ++ take n s) (k + j) 0) (sym l)
      ∙ get_or-append-add (take at d) (take n s) j 0
      ∙ get_or-take n s j 0 h

  pub paste_above : (i : ℕ) → at + n ≤ i → get_or (paste d at s n) i 0 ≡ get_or d i 0
  paste_above i h =
      let m : length (take at d ++ take n s) ≡ at + n = length_paste_head d at s n hd hs in
      let k : ℕ = i - (at + n) in
      let e : i ≡ length (take at d ++ take n s) + k = omega arith in
      let q : at + n + k ≡ i = omega arith in
      ap (λ (x : ℕ). get_or (paste d at s n) x 0) e
      ∙ get_or-append-add (take at d ++ take n s) (drop (at + n) d) k 0
      ∙ get_or-drop (at + n) d k 0
      ∙ ap (λ (x : ℕ). get_or d x 0) q

-- ---- a turn of a loop that copies, as the code has it
pub copy_turn : (d : List ℕ) (at : ℕ) (s : List ℕ) (j : ℕ) → at + length s ≤ length d → j < length s
    → set (paste d at s j) (at + j) (get_or s j 0) ≡ paste d at s (j + 1)
copy_turn d at s j hd hs = paste-suc d at s j 0 (omega arith) hs ∙ ap (λ (k : ℕ). paste d at s k) (sym (add-one j))

-- from a place of the same list, at or behind the place that is written
pub move_turn : (d : List ℕ) (to from n j : ℕ) → to ≤ from → from + n ≤ length d → j < n
    → set (paste d to (take n (drop from d)) j) (to + j) (get_or (paste d to (take n (drop from d)) j) (from + j) 0)
    ≡ paste d to (take n (drop from d)) (j + 1)
move_turn d to from n j le fits h =
    let s : List ℕ = take n (drop from d) in
    let q = length-drop from d in
    let l : length (take n (drop from d)) ≡ n = length-take-le n (drop from d) (omega arith) in
    ap (λ (x : ℕ). set (paste d to (take n (drop from d)) j) (to + j) x)
    (paste_above d to (take n (drop from d)) j (omega arith) (omega arith) (from + j) (omega arith)
    ∙ sym (get_or-drop from d j 0)
    ∙ sym (get_or-take n (drop from d) j 0 h))
    ∙ copy_turn d to (take n (drop from d)) j (omega arith) (omega arith)
