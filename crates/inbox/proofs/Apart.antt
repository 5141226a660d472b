-- A piece taken leaves a cell that fits, and as many bytes; and what is written to one cell of the store leaves the others. Assumes nothing.
use mathlib.Core.Bool.{cond}
use mathlib.Core.List.{List, ◌++◌, append_assoc}
use mathlib.Core.Logic.{⊎_elim}
use mathlib.Core.Path.{◌≡◌, sym, ap, ◌∙◌, subst}
use Prim.Native.Nat.{ℕ, zero, suc, ◌+◌, ◌-◌, ◌*◌, ◌≤◌, ◌<◌}
use native.Mathlib.Omega.{arith}
use lib.Dec.{leb, ltb, eqb}
use lib.ListN.{length, get_or, take, drop, length-take, length-drop}
use lib.Seq.{paste, length-paste, ext_get_or, take_all, drop-drop}
use borrow.Author.Tests.{ltb-true, leb-true, leb-false}
use Rattle.bits.proofs.Lists.{cond_keeps, le_or_lt, paste_below, paste_in, paste_above}
use Rattle.inbox.specs.Cells.{Held, offset, size, end_at, place, grow, rest, settle, store, await, accept, place_at, free_place, next_place}
use Rattle.inbox.specs.Messages.{Fits}
use Rattle.inbox.specs.Stores.{cell_of, in_cell}
use Rattle.inbox.proofs.Parts.{at_cell, cell_length}
use Rattle.inbox.proofs.Search.{Goes}
use Rattle.inbox.proofs.Steps.{grown_fits, goes_next, stored_fits}

abbrev pub Shape : ℕ → Held → Type 0
Shape n h = Fits h.cell × (length h.bytes ≡ n)

-- what a piece that goes has from the joined end on ends at 2,048 or before
pub rest_small : (h : Held) (k : ℕ) → Goes h.cell k → h.cell.joined + length (rest h k) ≤ 2048
rest_small h k g =
    let t : length (rest h k) ≤ end_at h.cell k - h.cell.joined =
    subst (λ (x : ℕ). x ≤ end_at h.cell k - h.cell.joined)
    (sym (length-take (end_at h.cell k - h.cell.joined) (drop (place k + (h.cell.joined - offset h.cell k)) h.bytes))) (omega arith) in
    omega arith

-- what joining keeps and storing keeps is kept by `accept`
module _ (P : Held → Type 0) (grows : (h : Held) (s : List ℕ) → P h → h.cell.joined + length s ≤ 2048 → P (grow h s)) where
  settle_keeps : (n : ℕ) (h : Held) → P h → P (settle n h)
  unfolding settle
  settle_keeps zero h f = f
  settle_keeps (suc n) h f =
      cond_keeps P (ltb (next_place h.cell) 16) (settle n (grow h (rest h (next_place h.cell)))) h
      (λ e.
      let s = rest_small h (next_place h.cell) (goes_next h.cell (ltb-true _ _ e)) in
      settle_keeps n (grow h (rest h (next_place h.cell))) (grows h (rest h (next_place h.cell)) f s))
      (λ e. f)

  module _ (h : Held) (o : ℕ) (p : List ℕ) (f : P h) (stores : (k : ℕ) → k < 16 → P (store h k o p)) (e : o + length p ≤ 2048) where
    await_keeps : P (await h o p)
    unfolding await
    await_keeps =
        cond_keeps P (ltb i 16) (cond (ltb (size h.cell i) (length p)) (store h i o p) h) (cond (ltb j 16) (store h j o p) h)
        (λ a. cond_keeps P (ltb (size h.cell i) (length p)) (store h i o p) h (λ b. stores i (ltb-true _ _ a)) (λ b. f))
        (λ a. cond_keeps P (ltb j 16) (store h j o p) h (λ b. stores j (ltb-true _ _ b)) (λ b. f))
      where
        i : ℕ
        i = place_at h.cell o

        j : ℕ
        j = free_place h.cell

    pub accept_keeps : P (accept h o p)
    unfolding accept
    accept_keeps =
        cond_keeps P (leb (o + length p) h.cell.joined) h (cond (eqb (length p) 0) h most) (λ a. f)
        (λ a. cond_keeps P (eqb (length p) 0) h most (λ b. f) (λ b. most_keeps (leb-false _ _ a)))
      where
        most : Held
        most = cond (leb o h.cell.joined) (settle 2048 (grow h (drop (h.cell.joined - o) p))) (await h o p)

        most_keeps : h.cell.joined < o + length p → P most
        most_keeps a =
            cond_keeps P (leb o h.cell.joined) (settle 2048 (grow h (drop (h.cell.joined - o) p))) (await h o p)
            (λ b.
            let c : o ≤ h.cell.joined = leb-true _ _ b in
            let n = length-drop (h.cell.joined - o) p in
            settle_keeps 2048 (grow h (drop (h.cell.joined - o) p)) (grows h (drop (h.cell.joined - o) p) f (omega arith)))
            (λ b. await_keeps)

-- ---- the cell fits and has as many bytes as it had; the second holds of any cell
grow_fits : (h : Held) (s : List ℕ) → Fits h.cell → h.cell.joined + length s ≤ 2048 → Fits (grow h s).cell
unfolding grow
grow_fits h s f a = grown_fits h.cell (h.cell.joined + length s) f a

store_fits : (h : Held) (k o : ℕ) (p : List ℕ) → Fits h.cell → k < 16 → length p ≤ 255 → o + length p ≤ 2048 → Fits (store h k o p).cell
unfolding store
store_fits h k o p f a s e = stored_fits h.cell k o (length p) f a e s

pub accept_fits : (h : Held) (o : ℕ) (p : List ℕ) → Fits h.cell → length p ≤ 255 → o + length p ≤ 2048 → Fits (accept h o p).cell
accept_fits h o p f s e = accept_keeps (λ x. Fits x.cell) grow_fits h o p f (λ k a. store_fits h k o p f a s e) e

module _ (m : ℕ) (room : 6144 ≤ m) where
  grow_length : (h : Held) (s : List ℕ) → length h.bytes ≡ m → h.cell.joined + length s ≤ 2048 → length (grow h s).bytes ≡ m
  unfolding grow
  grow_length h s l a = length-paste h.bytes h.cell.joined s (length s) (omega arith) (omega arith) ∙ l

  store_length : (h : Held) (k o : ℕ) (p : List ℕ) → length h.bytes ≡ m → k < 16 → length p ≤ 255 → length (store h k o p).bytes ≡ m
  unfolding store
  store_length h k o p l a s = length-paste h.bytes (place k) p (length p) (omega arith) (omega arith) ∙ l

  pub accept_length : (h : Held) (o : ℕ) (p : List ℕ) → length h.bytes ≡ m → length p ≤ 255 → o + length p ≤ 2048
      → length (accept h o p).bytes ≡ m
  accept_length h o p l s e = accept_keeps (λ x. length x.bytes ≡ m) grow_length h o p l (λ k a. store_length h k o p l a s) e

  pub grow_shape : (h : Held) (s : List ℕ) → Shape m h → h.cell.joined + length s ≤ 2048 → Shape m (grow h s)
  grow_shape h s f a = (grow_fits h s f.0 a, grow_length h s f.1 a)

  pub accept_shape : (h : Held) (o : ℕ) (p : List ℕ) → Shape m h → length p ≤ 255 → o + length p ≤ 2048 → Shape m (accept h o p)
  accept_shape h o p f s e = (accept_fits h o p f.0 s e, accept_length h o p f.1 s e)

-- ---- one cell of the store and the others
module _ (s : List ℕ) (c : ℕ) (bs : List ℕ) (fits : 6400 * c + 6400 ≤ length s) (long : length bs ≡ 6400) where
  as_paste : in_cell s c bs ≡ paste s (6400 * c) bs 6400
  as_paste =
      ap (λ (x : List ℕ). take (6400 * c) s ++ (bs ++ x)) (drop-drop 6400 (6400 * c) s)
      ∙ sym (append_assoc (take (6400 * c) s) bs (drop (6400 * c + 6400) s))
      ∙ ap (λ (x : List ℕ). take (6400 * c) s ++ x ++ drop (6400 * c + 6400) s) (sym (take_all 6400 bs (omega arith)))

  pub in_length : length (in_cell s c bs) ≡ length s
  in_length = ap length as_paste ∙ length-paste s (6400 * c) bs 6400 fits (omega arith)

  pub in_same : cell_of (in_cell s c bs) c ≡ bs
  in_same =
      let n = in_length in
      let m : length (cell_of (in_cell s c bs) c) ≡ 6400 = cell_length (in_cell s c bs) c (omega arith) in
      ext_get_or 0 (cell_of (in_cell s c bs) c) bs (m ∙ sym long)
      (λ i a.
      at_cell (in_cell s c bs) c i (omega arith)
      ∙ ap (λ (x : List ℕ). get_or x (6400 * c + i) 0) as_paste
      ∙ paste_in s (6400 * c) bs 6400 (omega arith) (omega arith) i (omega arith))

  pub in_other : (d : ℕ) → (d ≡ c → ⊥) → 6400 * d + 6400 ≤ length s → cell_of (in_cell s c bs) d ≡ cell_of s d
  in_other d z h =
      let n = in_length in
      let m : length (cell_of (in_cell s c bs) d) ≡ 6400 = cell_length (in_cell s c bs) d (omega arith) in
      let k : length (cell_of s d) ≡ 6400 = cell_length s d h in
      ext_get_or 0 (cell_of (in_cell s c bs) d) (cell_of s d) (m ∙ sym k)
      (λ i a.
      at_cell (in_cell s c bs) d i (omega arith)
      ∙ ap (λ (x : List ℕ). get_or x (6400 * d + i) 0) as_paste
      ∙ ⊎_elim (λ b.
      ⊎_elim (λ e. absurd (z (omega arith)))
      (λ e. paste_below s (6400 * c) bs 6400 (omega arith) (omega arith) (6400 * d + i) (omega arith)) (le_or_lt c d))
      (λ b. paste_above s (6400 * c) bs 6400 (omega arith) (omega arith) (6400 * d + i) (omega arith)) (le_or_lt d c)
      ∙ sym (at_cell s d i (omega arith)))
