-- The mask of the slots of which a test holds: what is in it, that it fits, and how it changes where the test changes at one slot.
-- Assumes nothing.
use mathlib.Core.Path.{◌≡◌, refl, sym, ◌∙◌}
use mathlib.Core.Bool.{Bool, false}
use mathlib.Core.Logic.{⊎_elim}
use Prim.Native.Nat.{ℕ, zero, suc, ◌+◌, ◌^◌, ◌<◌, ◌≤◌}
use native.Mathlib.Omega.{arith}
use Rattle.bits.specs.Loop.{fold}
use Rattle.bits.specs.Mask.{has_bit, with_bit, without_bit}
use Rattle.bits.proofs.Lists.{cond_keeps, eq_or_not, lt_or_le}
use Rattle.bits.proofs.Laws.{has_none, with_same, with_other, with_fits, without_same, without_other, without_fits, mask_ext}
use Rattle.bits.proofs.Loops.{fold_keeps}
use Rattle.bursts.specs.Rows.{mark_if, mask_where}

module _ (p : ℕ → Bool) where
  pub mask_fits : mask_where p < 2 ^ 64
  unfolding mask_where
  mask_fits =
      fold_keeps
      (λ (m : ℕ). m < 2 ^ 64)
      (mark_if p)
      (λ i m h. cond_keeps (λ (x : ℕ). x < 2 ^ 64) (p i) (with_bit m i) m (λ e. with_fits m i h) (λ e. h))
      62
      0
      0
      (omega arith)

  mark_other : (i j m : ℕ) → (i ≡ j → ⊥) → has_bit (mark_if p i m) j ≡ has_bit m j
  mark_other i j m n =
      cond_keeps (λ (x : ℕ). has_bit x j ≡ has_bit m j) (p i) (with_bit m i) m (λ e. with_other m i j n) (λ e. refl)

  mark_same : (i m : ℕ) → i < 64 → has_bit m i ≡ false → has_bit (mark_if p i m) i ≡ p i
  mark_same i m h none =
      cond_keeps (λ (x : ℕ). has_bit x i ≡ p i) (p i) (with_bit m i) m (λ e. with_same m i h ∙ sym e) (λ e. none ∙ sym e)

  -- the slots from i on change nothing below i
  past : (n i j m : ℕ) → j < i → has_bit (fold (mark_if p) n i m) j ≡ has_bit m j
  unfolding fold
  past zero i j m h = refl
  past (suc n) i j m h = past n (suc i) j (mark_if p i m) (omega arith) ∙ mark_other i j m (λ e. omega arith)

  -- nor those below i + n anything from there on
  beyond : (n i j m : ℕ) → i + n ≤ j → has_bit (fold (mark_if p) n i m) j ≡ has_bit m j
  unfolding fold
  beyond zero i j m h = refl
  beyond (suc n) i j m h = beyond n (suc i) j (mark_if p i m) (omega arith) ∙ mark_other i j m (λ e. omega arith)

  at : (n i j m : ℕ) → i ≤ j → j < i + n → j < 64 → has_bit m j ≡ false → has_bit (fold (mark_if p) n i m) j ≡ p j
  unfolding fold
  at zero i j m l h g none = absurd (omega arith)
  at (suc n) i j m l h g none =
      ⊎_elim
      (λ e. rw e (past n (suc j) j (mark_if p j m) (omega arith) ∙ mark_same j m g none))
      (λ e. at n (suc i) j (mark_if p i m) (omega (arith, e)) (omega arith) g (mark_other i j m e ∙ none))
      (eq_or_not i j)

  -- a slot below 62 is in the mask where the test holds
  pub mask_where_lem : (i : ℕ) → i < 62 → has_bit (mask_where p) i ≡ p i
  unfolding mask_where
  mask_where_lem i h = at 62 0 i 0 (omega arith) (omega arith) (omega arith) (has_none i)

  -- and no other
  pub mask_past : (i : ℕ) → 62 ≤ i → has_bit (mask_where p) i ≡ false
  unfolding mask_where
  mask_past i h = beyond 62 0 i 0 (omega arith) ∙ has_none i

module _ (p q : ℕ → Bool) where
  -- two tests that agree below 62
  pub mask_same : ((i : ℕ) → i < 62 → p i ≡ q i) → mask_where p ≡ mask_where q
  mask_same f =
      mask_ext (mask_where p) (mask_where q) (mask_fits p) (mask_fits q)
      (λ i h. ⊎_elim (λ l. mask_where_lem p i l ∙ f i l ∙ sym (mask_where_lem q i l)) (λ g. mask_past p i g ∙ sym (mask_past q i g)) (lt_or_le i 62))

  -- a test that holds no more of slot c, and else as before
  pub mask_without : (c : ℕ) → p c ≡ false → ((i : ℕ) → (i ≡ c → ⊥) → p i ≡ q i) → mask_where p ≡ without_bit (mask_where q) c
  mask_without c e f =
      mask_ext (mask_where p) (without_bit (mask_where q) c) (mask_fits p) (without_fits (mask_where q) c (mask_fits q)) same
    where
      other : (i : ℕ) → (i ≡ c → ⊥) → has_bit (mask_where p) i ≡ has_bit (without_bit (mask_where q) c) i
      other i n =
          ⊎_elim
          (λ l. mask_where_lem p i l ∙ f i n ∙ sym (mask_where_lem q i l))
          (λ g. mask_past p i g ∙ sym (mask_past q i g))
          (lt_or_le i 62)
          ∙ sym (without_other (mask_where q) c i (λ d. n (sym d)))

      gone : has_bit (mask_where p) c ≡ false
      gone = ⊎_elim (λ l. mask_where_lem p c l ∙ e) (λ g. mask_past p c g) (lt_or_le c 62)

      same : (i : ℕ) → i < 64 → has_bit (mask_where p) i ≡ has_bit (without_bit (mask_where q) c) i
      same i h = ⊎_elim (λ d. rw d (gone ∙ sym (without_same (mask_where q) c))) (λ n. other i n) (eq_or_not i c)
