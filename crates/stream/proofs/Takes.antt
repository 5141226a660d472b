-- A piece taken: what the calls give is what the definition says. Assumes nothing.
use Rattle.std.specs.Prelude.{Option}
use mathlib.Core.Path.{◌≡◌, refl, sym, ap, ap₂, ◌∙◌}
use mathlib.Core.Bool.{Bool, true, false}
use mathlib.Core.List.{List}
use Prim.Native.Nat.{ℕ, ◌+◌, ◌*◌, ◌≤◌}
use native.Mathlib.Omega.{arith}
use lib.ListN.{length, drop, length-drop}
use lib.Seq.{length-take-le}
use Rattle.inbox.specs.declared.cell.Cell.{Cell}
use Rattle.inbox.specs.declared.keep.Kept.{Kept}
use Rattle.inbox.specs.declared.keep.Kept.TheVariants.{Needless, Yes, Late, Overlong, Long, NoCell, NoPlace}
use Rattle.inbox.specs.Cells.{held}
use Rattle.inbox.specs.Stores.{cell_of, in_cell, landed_of}
use Rattle.inbox.specs.Keeping.{kept_of}
use Rattle.inbox.proofs.Apart.{accept_length, in_same}
use Rattle.inbox.proofs.Rule.{yes_is}
use Rattle.bits.proofs.Lists.{cond_true, cond_false}
use Rattle.stream.specs.declared.table.Room.{Room}
use Rattle.stream.specs.declared.table.Taken.{Taken}
use Rattle.stream.specs.Table.{Took, took, joined_of, put_of, left_of, changes, bars, place_of, has_room, cell_for, is_over, kept_for, take_of}

-- only the answer Yes changes a cell
pub changes_yes : (k : Kept) → changes k ≡ true → k ≡ Yes
changes_yes Yes e = refl
changes_yes Needless e = absurd (let z : ◌≡◌ {A = ℕ} 0 1 = cc in omega arith)
changes_yes Late e = absurd (let z : ◌≡◌ {A = ℕ} 0 1 = cc in omega arith)
changes_yes Overlong e = absurd (let z : ◌≡◌ {A = ℕ} 0 1 = cc in omega arith)
changes_yes Long e = absurd (let z : ◌≡◌ {A = ℕ} 0 1 = cc in omega arith)
changes_yes NoCell e = absurd (let z : ◌≡◌ {A = ℕ} 0 1 = cc in omega arith)
changes_yes NoPlace e = absurd (let z : ◌≡◌ {A = ℕ} 0 1 = cc in omega arith)

pub cell_length : (s : List ℕ) (c : ℕ) → 6400 * c + 6400 ≤ length s → length (cell_of s c) ≡ 6400
cell_length s c h = let n = length-drop (6400 * c) s in length-take-le 6400 (drop (6400 * c) s) (omega arith)

module _ (s : List ℕ) (c : ℕ) (cell : Cell) (o : ℕ) (p : List ℕ) (fits : 6400 * c + 6400 ≤ length s)
    (short : length p ≤ 255) (room : o + length p ≤ 2048) where
  pub joined_length : length (joined_of s c cell o p).bytes ≡ 6400
  joined_length = accept_length 6400 (omega arith) (held cell (cell_of s c)) o p (cell_length s c fits) short room

  -- a kept piece joined, and its message asked for
  pub put_is : (r : Cell) (s' : List ℕ) (x : Option ℕ)
      → r ≡ (joined_of s c cell o p).cell → s' ≡ in_cell s c (joined_of s c cell o p).bytes → x ≡ landed_of (held r (cell_of s' c))
      → took (record { cell = r; kept = Yes; landed = x }) s' ≡ put_of s c cell o p
  unfolding put_of
  put_is r s' x a b d =
      let e : x ≡ landed_of (joined_of s c cell o p) =
      d
      ∙ ap (λ (y : Cell). landed_of (held y (cell_of s' c))) a
      ∙ ap (λ (y : List ℕ). landed_of (held (joined_of s c cell o p).cell (cell_of y c))) b
      ∙ ap (λ (y : List ℕ). landed_of (held (joined_of s c cell o p).cell y)) (in_same s c (joined_of s c cell o p).bytes fits joined_length) in
      same_took r _ x _ s' _ a e b
    where
      same_took : (r r₁ : Cell) (x x₁ : Option ℕ) (t t₁ : List ℕ) → r ≡ r₁ → x ≡ x₁ → t ≡ t₁
          → took (record { cell = r; kept = Yes; landed = x }) t ≡ took (record { cell = r₁; kept = Yes; landed = x₁ }) t₁
      same_took r r₁ x x₁ t t₁ a b d = rw (a, b, d)

-- only the answer Overlong bars a number
pub bars_over : (k : Kept) → bars k ≡ true → k ≡ Overlong
bars_over Overlong e = refl
bars_over Yes e = absurd (let z : ◌≡◌ {A = ℕ} 0 1 = cc in omega arith)
bars_over Needless e = absurd (let z : ◌≡◌ {A = ℕ} 0 1 = cc in omega arith)
bars_over Late e = absurd (let z : ◌≡◌ {A = ℕ} 0 1 = cc in omega arith)
bars_over Long e = absurd (let z : ◌≡◌ {A = ℕ} 0 1 = cc in omega arith)
bars_over NoCell e = absurd (let z : ◌≡◌ {A = ℕ} 0 1 = cc in omega arith)
bars_over NoPlace e = absurd (let z : ◌≡◌ {A = ℕ} 0 1 = cc in omega arith)

-- the calls of `take`: the place, the cell asked, the flag for a cell, whether too much is claimed, the rule's answer, and whether it changes the cell
module _ (barred : Bool) (s : List ℕ) (room : Room) (cell : Cell) (number o : ℕ) (p : List ℕ)
    (c : ℕ) (old : Cell) (some over : Bool) (k : Kept) (yes : Bool)
    (at : c ≡ place_of room) (of : old ≡ cell_for room cell) (has : some ≡ has_room room) (claim : over ≡ is_over barred s room cell o p)
    (by : k ≡ kept_of number o (length p) over some old) (test : yes ≡ changes k) where
  rule : k ≡ kept_for barred s room cell number o p
  rule =
      by
      ∙ ap (λ (b : Bool). kept_of number o (length p) b some old) claim
      ∙ ap₂ (kept_of number o (length p) (is_over barred s room cell o p)) has of

  pub take_fits : yes ≡ true → o + length p ≤ 2048
  take_fits e = (yes_is number o (length p) over some old (sym by ∙ changes_yes k (sym test ∙ e))).fits

  pub take_yes : yes ≡ true → (x : Took) → x ≡ put_of s c old o p → x ≡ take_of barred s room cell number o p
  take_yes e x q =
      q
      ∙ ap₂ (λ (i : ℕ) (y : Cell). put_of s i y o p) at of
      ∙ sym (cond_true (changes (kept_for barred s room cell number o p)) _ _ (ap changes (sym rule) ∙ sym test ∙ e))

  pub take_no : yes ≡ false → (x : Taken) → x ≡ left_of cell k → took x s ≡ take_of barred s room cell number o p
  take_no e x q =
      ap (λ (y : Taken). took y s) q
      ∙ ap (λ (y : Kept). took (left_of cell y) s) rule
      ∙ sym (cond_false (changes (kept_for barred s room cell number o p)) _ _ (ap changes (sym rule) ∙ sym test ∙ e))
