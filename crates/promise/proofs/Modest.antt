-- A message of at most 2,046 bytes never shows a greater length: no piece cut from it claims too much. Assumes nothing.
use mathlib.Core.Bool.{false}
use mathlib.Core.List.{List, []}
use mathlib.Core.Logic.{⊎_elim}
use mathlib.Core.Path.{◌≡◌, sym, ap, ◌∙◌}
use Prim.Native.Nat.{ℕ, ◌+◌, ◌-◌, ◌*◌, ◌≤◌, ◌<◌}
use native.Mathlib.Omega.{arith}
use lib.Dec.{ltb}
use lib.ListN.{length, get_or, take, drop}
use lib.Seq.{get_or-take}
use borrow.Author.Tests.{le-leb, le-ltb}
use Rattle.bits.proofs.Lists.{le_or_lt, eq_or_not}
use Rattle.bits.proofs.Laws.{has_none}
use Rattle.stream.specs.Window.{fresh_of, barred_of}
use Rattle.stream.proofs.Windows.{barred_up}
use Rattle.inbox.specs.Cells.{Held, accept}
use Rattle.inbox.specs.Messages.{empty, Cut, announced, framed, claims, shows_of}
use Rattle.inbox.proofs.Joined.{Inv, accept_inv}
use Rattle.inbox.proofs.Claims.{short_claims, shows_two, shows_wait, shows_empty, shows_begin}
use Rattle.promise.proofs.Ledgers.{part_of, cut_part}

module _ (body : List ℕ) (small : length body ≤ 2046) where
  two_say : (x y : ℕ) → x ≡ get_or (framed body) 0 0 → y ≡ get_or (framed body) 1 0 → ltb 2046 (x + 256 * y) ≡ false
  two_say x y a b = le-ltb 2046 (x + 256 * y) (omega arith)

  pub inv_modest : (C : ℕ → Type 0) (h : Held) → Inv (part_of body) C h → claims h ≡ false
  inv_modest C h v =
      ⊎_elim
      (λ a.
      rw (
        le-leb 2 h.cell.joined a,
        two_say (get_or h.bytes 0 0) (get_or h.bytes 1 0) (v.0.same 0 (omega arith)) (v.0.same 1 (omega arith)),
      ))
      (λ a. short_claims h a)
      (le_or_lt 2 h.cell.joined)

  -- of the cell that it comes into
  pub shows_modest : (C : ℕ → Type 0) (h : Held) → Inv (part_of body) C h → (o : ℕ) (p : List ℕ) → Cut (framed body) o p → shows_of h o p ≡ false
  unfolding shows_of
  shows_modest C h v o p cut =
      ⊎_elim
      (λ a. inv_modest _ (accept h o p) (accept_inv (part_of body) C h v.0 v.1 o p (cut_part body o p cut (omega (arith, cut.fits))) (λ l m. absurd (omega arith))))
      (λ a.
      let r = v.0.room in
      ⊎_elim
      (λ b.
      shows_two h.cell h.bytes o p b (omega arith)
      ∙ two_say (get_or h.bytes 0 0) (get_or h.bytes 1 0) (v.0.same 0 (omega arith)) (v.0.same 1 (omega arith)))
      (λ b. shows_wait h.cell h.bytes o p b a)
      (le_or_lt 2 h.cell.joined))
      (le_or_lt o h.cell.joined)

  -- of the empty cell
  pub empty_modest : (o : ℕ) (p : List ℕ) → Cut (framed body) o p → shows_of (empty []) o p ≡ false
  empty_modest o p cut =
      ⊎_elim
      (λ z.
      ⊎_elim
      (λ a. ap (λ (i : ℕ). shows_of (empty []) i p) z ∙ shows_begin p a ∙ two_say (get_or p 0 0) (get_or p 1 0) (at z 0 (omega arith)) (at z 1 (omega arith)))
      (λ a. shows_empty o p (λ _. a))
      (le_or_lt 2 (length p)))
      (λ z. shows_empty o p (λ y. absurd (z y)))
      (eq_or_not o 0)
    where
      at : o ≡ 0 → (i : ℕ) → i < length p → get_or p i 0 ≡ get_or (framed body) i 0
      at z i l =
          ap (λ (q : List ℕ). get_or q i 0) cut.same
          ∙ ap (λ (k : ℕ). get_or (take (length p) (drop k (framed body))) i 0) z
          ∙ get_or-take (length p) (framed body) i 0 l

-- a boat begins with no number barred
pub fresh_free : (k : ℕ) → barred_of fresh_of k ≡ false
fresh_free k = barred_up 0 0 k (omega arith) ∙ has_none (k - 0)
