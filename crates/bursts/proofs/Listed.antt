-- Of the boats waiting for acknowledgement a beacon lists exactly those that wait no longer behind it: `listed_wait_no_more`. Assumes nothing.
use Rattle.std.specs.Prelude.{Option, Some, None}
use mathlib.Core.Path.{◌≡◌, refl, sym, ap, ◌∙◌, subst}
use mathlib.Core.Bool.{Bool, true, false, not, cond, ◌&&◌}
use mathlib.Core.List.{List, [], ◌++◌}
use mathlib.Core.Logic.{⊎_elim}
use Prim.Native.Nat.{ℕ, zero, suc, ◌+◌, ◌*◌, ◌/◌, ◌<◌, ◌≤◌}
use native.Mathlib.Omega.{arith}
use borrow.Author.Tests.{lt-leb, le-leb, lt-ltb, le-ltb}
use lib.Dec.{ltb, leb}
use lib.ListN.{length, length-append}
use Rattle.bits.specs.Loop.{fold}
use Rattle.bits.specs.Mask.{has_bit, without_bit, lowest_bit}
use Rattle.bits.proofs.Laws.{without_same, without_other}
use Rattle.bits.proofs.Lists.{cases, le_or_lt, eq_or_not}
use Rattle.bits.proofs.Loops.{first_found, first_before, first_nothing}
use Rattle.net.specs.declared.Station.{Station}
use Rattle.bursts.specs.Rows.{row_if, rows_on, rows_of, ack_at, ack_row, ack_rows}
use Rattle.bursts.specs.Bursts.{acked, without_found, beyond}

-- how many slots below i are in the mask
abbrev pub rank : ℕ → ℕ → ℕ
rank m zero = 0
rank m (suc i) = cond (has_bit m i) (suc (rank m i)) (rank m i)

rank_none : (m i : ℕ) → ((j : ℕ) → j < i → has_bit m j ≡ false) → rank m i ≡ 0
rank_none m zero h = refl
rank_none m (suc i) h = rw (h i (omega arith)) (rank_none m i (λ j k. h j (omega arith)))

rank_ext : (m n i : ℕ) → ((j : ℕ) → j < i → has_bit m j ≡ has_bit n j) → rank m i ≡ rank n i
rank_ext m n zero h = refl
rank_ext m n (suc i) h = rw (h i (omega arith), rank_ext m n i (λ j k. h j (omega arith)))

-- a slot taken off counts for those above it
at_itself : (m j : ℕ) → has_bit m j ≡ true → rank m (suc j) ≡ suc (rank (without_bit m j) (suc j))
at_itself m j t =
    rw (t, without_same m j) (ap suc (rank_ext m (without_bit m j) j (λ k l. sym (without_other m j k (λ e. omega arith)))))

one_more : (b : Bool) (x y : ℕ) → x ≡ suc y → cond b (suc x) x ≡ suc (cond b (suc y) y)
one_more true x y e = ap suc e
one_more false x y e = e

above_it : (m j i : ℕ) → (j ≡ i → ⊥) → rank m i ≡ suc (rank (without_bit m j) i) → rank m (suc i) ≡ suc (rank (without_bit m j) (suc i))
above_it m j i n e = rw (without_other m j i n) (one_more (has_bit m i) (rank m i) (rank (without_bit m j) i) e)

rank_without : (m j i : ℕ) → has_bit m j ≡ true → j < i → rank m i ≡ suc (rank (without_bit m j) i)
rank_without m j zero t h = absurd (omega arith)
rank_without m j (suc i) t h =
    ⊎_elim (λ k. above_it m j i (λ e. omega arith) (rank_without m j i t (omega arith)))
    (λ k. subst (λ (x : ℕ). rank m (suc x) ≡ suc (rank (without_bit m j) (suc x))) (omega arith) (at_itself m j t))
    (le_or_lt (suc j) i)

leb_suc : (k r : ℕ) → leb (suc k) (suc r) ≡ leb k r
leb_suc k r =
    ⊎_elim (λ (h : k ≤ r). le-leb (suc k) (suc r) (omega arith) ∙ sym (le-leb k r h))
    (λ (h : r < k). lt-leb (suc k) (suc r) (omega arith) ∙ sym (lt-leb k r h))
    (le_or_lt k r)

-- the slots left are those with k or more below them
module _ (k m i : ℕ) (ih : (n : ℕ) → has_bit (beyond k n) i ≡ has_bit n i && leb k (rank n i)) where
  without_at : (j : ℕ) → has_bit m j ≡ true → ((l : ℕ) → l < j → has_bit m l ≡ false) → has_bit (beyond k (without_bit m j)) i ≡ has_bit m i && leb (suc k) (rank m i)
  without_at j t none =
      ih (without_bit m j) ∙
      ⊎_elim
      (λ (h : i ≤ j). ⊎_elim
      (λ e. subst (λ (x : ℕ). has_bit (without_bit m j) x && leb k (rank (without_bit m j) x) ≡ has_bit m x && leb (suc k) (rank m x)) e
      (rw (without_same m j, rank_none m j none, lt-leb (suc k) 0 (omega arith)) (no (has_bit m j))))
      (λ (n : j ≡ i → ⊥). rw (without_other m j i n, none i (strictly h n)))
      (eq_or_not j i))
      (λ (h : j < i). rw (without_other m j i (λ e. omega arith), rank_without m j i t h, leb_suc k (rank (without_bit m j) i)))
      (le_or_lt i j)
    where
      strictly : {j : ℕ} → i ≤ j → (j ≡ i → ⊥) → i < j
      strictly {j} h n = ⊎_elim (λ (l : j ≤ i). absurd (n (omega arith))) (λ l. l) (le_or_lt j i)

      no : (b : Bool) → false ≡ b && false
      no true = refl
      no false = refl

  without_found_lem : (f : Option ℕ) → lowest_bit m ≡ f → i < 64 → has_bit (beyond k (without_found f m)) i ≡ has_bit m i && leb (suc k) (rank m i)
  unfolding lowest_bit
  without_found_lem (Some j) e h = without_at j (first_found (has_bit m) 64 0 j e).1 (λ l b. first_before (has_bit m) 64 0 j e l (omega arith) b)
  without_found_lem None e h =
      let none = first_nothing (has_bit m) 64 0 e i (omega arith) (omega arith) in
      ih m ∙ rw none

pub beyond_has : (k m i : ℕ) → i < 64 → has_bit (beyond k m) i ≡ has_bit m i && leb k (rank m i)
unfolding beyond
beyond_has zero m i h = rw (le-leb 0 (rank m i) (omega arith)) (yes (has_bit m i))
  where
    yes : (b : Bool) → b ≡ b && true
    yes true = refl
    yes false = refl
beyond_has (suc k) m i h = without_found_lem k m i (λ n. beyond_has k n i h) (lowest_bit m) refl h

-- ---- the rows

-- waiting, and waiting no longer behind the beacon
abbrev pub served : ℕ → ℕ → List ℕ → Bool
served m i bs = has_bit m i && not (has_bit (beyond 9 m) i)

-- c rows stand of the r that wait below, nine at most
pub data Nine (c r : ℕ) : Type 0 where
  few : c ≡ r → r < 9 → Nine c r
  nine : c ≡ 9 → 9 ≤ r → Nine c r

module _ (s : Station) (m : ℕ) where
  row_six : (bs : List ℕ) (i c : ℕ) → length bs ≡ 6 * c → length (bs ++ ack_row s i) ≡ 6 * suc c
  row_six bs i c e = omega (arith, length-append bs (ack_row s i))

  -- slot i: both rules tell its row, or neither does
  record Next (i : ℕ) (bs : List ℕ) : Type 0 where
    c : ℕ
    rows : length (row_if (ack_at m 9) (ack_row s) i bs) ≡ 6 * c
    still : Nine c (rank m (suc i))
    same : row_if (ack_at m 9) (ack_row s) i bs ≡ row_if (served m) (ack_row s) i bs

  grow : (c r : ℕ) → c ≡ r → r < 9 → Nine (suc c) (suc r)
  grow c r e h = ⊎_elim (λ (k : 9 ≤ suc r). nine (omega arith) k) (λ (k : suc r < 9). few (ap suc e) k) (le_or_lt 9 (suc r))

  module _ (i c : ℕ) (bs : List ℕ) (h : i < 64) (e : length bs ≡ 6 * c) where
    next_at : has_bit m i ≡ true → Nine c (rank m i) → Next i bs
    next_at b (few p q) =
        let t : ltb (length bs / 6) 9 ≡ true = lt-ltb (length bs / 6) 9 (omega arith) in
        record {
          c = suc c;
          rows = rw (b, t) (row_six bs i c e);
          still = rw b (grow c (rank m i) p q);
          same = rw (beyond_has 9 m i h, b, t, lt-leb 9 (rank m i) q) refl;
        }
    next_at b (nine p q) =
        let t : ltb (length bs / 6) 9 ≡ false = le-ltb (length bs / 6) 9 (omega arith) in
        record {
          c = c;
          rows = rw (b, t) e;
          still = rw b (nine p (omega arith));
          same = rw (beyond_has 9 m i h, b, t, le-leb 9 (rank m i) q) refl;
        }

    next_of : Nine c (rank m i) → Next i bs
    next_of x =
        ⊎_elim (λ b. next_at b x) (λ (b : has_bit m i ≡ false). record { c = c; rows = rw b e; still = rw b x; same = rw b refl })
        (cases (has_bit m i))

  again : (n i c : ℕ) (bs : List ℕ) → i + n ≤ 64 → length bs ≡ 6 * c → Nine c (rank m i)
      → fold (row_if (ack_at m 9) (ack_row s)) n i bs ≡ fold (row_if (served m) (ack_row s)) n i bs
  unfolding fold
  again zero i c bs h e x = refl
  again (suc n) i c bs h e x =
      let y = next_of i c bs (omega arith) e x in
      again n (suc i) y.c (row_if (ack_at m 9) (ack_row s) i bs) (omega arith) y.rows y.still
      ∙ ap (fold (row_if (served m) (ack_row s)) n (suc i)) y.same

-- the rows of the waiting boats that a beacon lists are those of the boats that waited and do not go on waiting
pub listed_wait_no_more : (s : Station) → ack_rows s (acked s) 9 ≡ rows_of (served (acked s)) (ack_row s)
unfolding rows_on
listed_wait_no_more s = again s (acked s) 62 0 0 [] (omega arith) refl (few refl (omega arith))
