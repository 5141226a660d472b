-- Laws of lists with one number for each slot, and of their sums. Knows nothing of dues. Assumes nothing.
use mathlib.Core.Path.{◌≡◌, refl, sym, ap, ◌∙◌}
use mathlib.Core.Bool.{Bool, true, false, cond}
use mathlib.Core.List.{List}
use mathlib.Core.Logic.{⊎_elim}
use Prim.Native.Nat.{ℕ, zero, suc, ◌+◌, ◌-◌, ◌*◌, ◌≤◌, ◌<◌}
use native.Mathlib.Numerals.{add-one}
use native.Mathlib.Omega.{arith}
use lib.Dec.{eqb}
use lib.ListN.{length, get_or}
use lib.Seq.{ext_get_or}
use borrow.Author.Tests.{ne_eqb, eqb-true, eqb-false}
use Rattle.bits.proofs.Lists.{cases, below}
use Rattle.dues.specs.Dues.{slots_from, per_slot, total}

-- ---- the list

pub slots_length : (f : ℕ → ℕ) (n i : ℕ) → length (slots_from f n i) ≡ n
unfolding slots_from
slots_length f zero i = refl
slots_length f (suc n) i = ap suc (slots_length f n (suc i))

pub slots_at : (f : ℕ → ℕ) (n i j : ℕ) → j < n → get_or (slots_from f n i) j 0 ≡ f (i + j)
unfolding slots_from
slots_at f zero i j h = absurd (omega arith)
slots_at f (suc n) i zero h = ap f (omega arith)
slots_at f (suc n) i (suc j) h = slots_at f n (suc i) j (omega arith) ∙ ap f (omega arith)

-- a list of 62 with f's number at each slot
pub slots_are : (f : ℕ → ℕ) (l : List ℕ) → length l ≡ 62 → ((j : ℕ) → j < 62 → get_or l j 0 ≡ f j) → l ≡ per_slot f
slots_are f l e h =
    ext_get_or 0 l (per_slot f) (e ∙ sym (slots_length f 62 0))
    (λ j q. let k : j < 62 = omega arith in h j k ∙ ap f (omega arith) ∙ sym (slots_at f 62 0 j k))

-- ---- its sum

-- a turn of a loop that adds up; at its end nothing is left
pub sum_turn : (f : ℕ → ℕ) (n i : ℕ) → i < n → total (slots_from f (n - i) i) ≡ f i + total (slots_from f (n - (i + 1)) (i + 1))
unfolding slots_from total
sum_turn f n i h =
    let e : n - i ≡ suc (n - (i + 1)) = omega arith in
    ap (λ (k : ℕ). total (slots_from f k i)) e ∙ ap (λ (k : ℕ). f i + total (slots_from f (n - (i + 1)) k)) (sym (add-one i))

pub sum_end : (f : ℕ → ℕ) (n i : ℕ) → n ≤ i → total (slots_from f (n - i) i) ≡ 0
unfolding slots_from total
sum_end f n i h = let e : n - i ≡ 0 = omega arith in ap (λ (k : ℕ). total (slots_from f k i)) e

pub sum_most : (f : ℕ → ℕ) (b n i : ℕ) → ((j : ℕ) → i ≤ j → j < i + n → f j ≤ b) → total (slots_from f n i) ≤ b * n
unfolding slots_from total
sum_most f b zero i h = omega arith
sum_most f b (suc n) i h =
    let a = h i (omega arith) (omega arith) in
    let r = sum_most f b n (suc i) (λ j l q. h j (omega arith) (omega arith)) in
    omega arith

pub sum_ext : (f g : ℕ → ℕ) (n i : ℕ) → ((j : ℕ) → i ≤ j → j < i + n → f j ≡ g j) → total (slots_from f n i) ≡ total (slots_from g n i)
unfolding slots_from total
sum_ext f g zero i h = refl
sum_ext f g (suc n) i h =
    rw (h i (omega arith) (omega arith), sum_ext f g n (suc i) (λ j l q. h j (omega arith) (omega arith)))

pub sum_none : (f : ℕ → ℕ) (n i : ℕ) → ((j : ℕ) → i ≤ j → j < i + n → f j ≡ 0) → total (slots_from f n i) ≡ 0
unfolding slots_from total
sum_none f zero i h = refl
sum_none f (suc n) i h =
    rw (h i (omega arith) (omega arith), sum_none f n (suc i) (λ j l q. h j (omega arith) (omega arith)))

pub sum_both : (f g : ℕ → ℕ) (n i : ℕ) → total (slots_from (λ j. f j + g j) n i) ≡ total (slots_from f n i) + total (slots_from g n i)
unfolding slots_from total
sum_both f g zero i = refl
sum_both f g (suc n) i = let e = sum_both f g n (suc i) in omega arith

-- by rows or by columns
pub sum_swap : (h : ℕ → ℕ → ℕ) (n i m j : ℕ)
    → total (slots_from (λ r. total (slots_from (h r) m j)) n i) ≡ total (slots_from (λ k. total (slots_from (λ r. h r k) n i)) m j)
unfolding slots_from total
sum_swap h zero i m j = sym (sum_none (λ k. 0) m j (λ k l q. refl))
sum_swap h (suc n) i m j =
    ap (λ (x : ℕ). total (slots_from (h i) m j) + x) (sum_swap h n (suc i) m j)
    ∙ sym (sum_both (h i) (λ k. total (slots_from (λ r. h r k) n (suc i))) m j)

-- a sum in which slot v alone counts
pub sum_one : (v x n i : ℕ) → i ≤ v → v < i + n → total (slots_from (λ r. cond (eqb v r) x 0) n i) ≡ x
unfolding slots_from total
sum_one v x zero i l q = absurd (omega arith)
sum_one v x (suc n) i l q = go (eqb v i) refl (λ k. sum_one v x n (suc i) k (omega arith))
  where
    go : (b : Bool) → eqb v i ≡ b → (i < v → total (slots_from (λ r. cond (eqb v r) x 0) n (suc i)) ≡ x)
        → cond b x 0 + total (slots_from (λ r. cond (eqb v r) x 0) n (suc i)) ≡ x
    go true e ih =
        let k : v ≡ i = eqb-true v i e in
        let z = sum_none (λ r. cond (eqb v r) x 0) n (suc i) (λ j a b. rw (ne_eqb v j (λ z. omega arith))) in
        omega arith
    go false e ih =
        let k : i < v = below i v (omega arith) (λ z. eqb-false v i e (sym z)) in
        let z = ih k in
        omega arith

-- what goes to slot v, where it counts, is all that is given
pub sum_given : (q : ℕ → Bool) (v x : ℕ) → (q v ≡ true → v < 62) → total (per_slot (λ r. cond (q r) (cond (eqb v r) x 0) 0)) ≡ cond (q v) x 0
sum_given q v x h = go (q v) refl
  where
    same : (r : ℕ) (a b : Bool) → q v ≡ a → eqb v r ≡ b → cond (q r) (cond b x 0) 0 ≡ cond b (cond a x 0) 0
    same r a true e f = let k : v ≡ r = eqb-true v r f in rw (← k, e)
    same r a false e f = ⊎_elim (λ t. rw t) (λ t. rw t) (cases (q r))

    go : (a : Bool) → q v ≡ a → total (per_slot (λ r. cond (q r) (cond (eqb v r) x 0) 0)) ≡ cond a x 0
    go true e =
        sum_ext _ (λ r. cond (eqb v r) x 0) 62 0 (λ j l k. same j true (eqb v j) e refl)
        ∙ sum_one v x 62 0 (omega arith) (omega (arith, h e))
    go false e =
        sum_none _ 62 0 (λ j l k. same j false (eqb v j) e refl ∙ ⊎_elim (λ t. rw t) (λ t. rw t) (cases (eqb v j)))
