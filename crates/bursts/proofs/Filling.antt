-- Rows stored one after the other: a loop over the 62 slots with rows of any width.
-- Assumes nothing.
use mathlib.Core.Path.{◌≡◌, refl, sym, ap, ◌∙◌}
use mathlib.Core.Bool.{Bool, true, false}
use mathlib.Core.List.{List, ◌++◌}
use Prim.Native.Nat.{ℕ, zero, suc, ◌+◌, ◌-◌, ◌*◌, ◌<◌, ◌≤◌}
use native.Mathlib.Nat.{mul-suc}
use native.Mathlib.Omega.{arith}
use lib.ListN.{length, length-append}
use Rattle.bits.specs.Loop.{fold}
use Rattle.bits.proofs.Loops.{fold_turn, fold_end}
use Rattle.bursts.specs.Rows.{row_where, row_if, rows_on}

module _ (p : ℕ → List ℕ → Bool) (row : ℕ → List ℕ) (w : ℕ) where
  -- behind the bytes bs stand the rows of the slots below i, each of w bytes
  pub record Rows (bs : List ℕ) (i : ℕ) (rows : List ℕ) : Type 0 where
    pub most : length rows ≤ w * i + length bs
    pub rest : fold (row_if p row) (62 - i) i rows ≡ rows_on p row bs

  pub rows_start : (bs : List ℕ) → Rows bs 0 bs
  unfolding rows_on
  rows_start bs = record { most = omega arith; rest = refl }

  -- a row is told
  pub rows_told : {bs : List ℕ} {i : ℕ} {rows more : List ℕ} → length (row i) ≡ w → i < 62 → Rows bs i rows → p i rows ≡ true → more ≡ rows ++ row i → Rows bs (i + 1) more
  rows_told {bs} {i} {rows} {more} e h a t m =
      let f : row_if p row i rows ≡ more = rw t (sym m) in
      record {
        most = omega (arith, a.most, e, ap length m, length-append rows (row i));
        rest = rw (← f) (sym (fold_turn (row_if p row) 62 i rows h) ∙ a.rest);
      }

  -- no row is told
  pub rows_untold : {bs : List ℕ} {i : ℕ} {rows : List ℕ} → i < 62 → Rows bs i rows → p i rows ≡ false → Rows bs (i + 1) rows
  rows_untold {bs} {i} {rows} h a t =
      let f : row_if p row i rows ≡ rows = rw t refl in
      record {
        most = omega (arith, a.most);
        rest = rw (← f) (sym (fold_turn (row_if p row) 62 i rows h) ∙ a.rest);
      }

  pub rows_end : {bs : List ℕ} {i : ℕ} {rows : List ℕ} → 62 ≤ i → Rows bs i rows → rows ≡ rows_on p row bs
  rows_end {bs} {i} {rows} h a = sym (fold_end (row_if p row) 62 i rows h) ∙ a.rest

  most_by : (t : Bool) (bs r : List ℕ) → length r ≡ w → length (row_where t bs r) ≤ length bs + w
  most_by true bs r e = omega (arith, length-append bs r)
  most_by false bs r e = omega arith

  -- 62 rows at most
  bound : ((i : ℕ) → length (row i) ≡ w) → (n i : ℕ) (bs : List ℕ) → length (fold (row_if p row) n i bs) ≤ length bs + w * n
  unfolding fold
  bound e zero i bs = omega arith
  bound e (suc n) i bs =
      omega (arith, bound e n (suc i) (row_if p row i bs), most_by (p i bs) bs (row i) (e i), mul-suc w n)

  pub rows_most : ((i : ℕ) → length (row i) ≡ w) → (bs : List ℕ) → length (rows_on p row bs) ≤ length bs + w * 62
  unfolding rows_on
  rows_most e bs = bound e 62 0 bs
