-- What the searches over a cell's places find: a place that does what is looked for, or none of them does. Assumes nothing.
use mathlib.Core.Bool.{Bool, true, false, cond, ◌&&◌}
use mathlib.Core.Logic.{◌⊎◌, inl, inr, ⊎_elim}
use mathlib.Core.Path.{◌≡◌, refl, sym, ap, ◌∙◌, subst}
use Prim.Native.Nat.{ℕ, zero, suc, ◌+◌, ◌-◌, ◌≤◌, ◌<◌, zero-le}
use native.Mathlib.Omega.{arith}
use lib.Dec.{leb, ltb, eqb}
use borrow.Author.Tests.{leb-true, ltb-true, ltb-false, eqb-true, le-leb, lt-ltb, le-ltb}
use Rattle.bits.proofs.Lists.{cond_true, cond_false, and_true, never_both, cases, le_or_lt, eq_or_not}
use Rattle.std.specs.declared.option.Option.TheVariants.{None, Some}
use Rattle.inbox.specs.declared.cell.Cell.{Cell}
use Rattle.inbox.specs.Cells.{offset, end_at, seek, place_at, free_place, better, next, found}

ne_above : (k i : ℕ) → k ≤ i → (k ≡ i → ⊥) → k + 1 ≤ i
ne_above k i a z = ⊎_elim (λ h. absurd (z (omega arith))) (λ h. omega arith) (le_or_lt i k)

left : (m k : ℕ) → k < m → m - k ≡ suc (m - (k + 1))
left m k a = omega arith

-- ---- the first number at which a test holds
module _ (t : ℕ → Bool) where
  seek_here : (n k : ℕ) → t k ≡ true → seek t (suc n) k ≡ k
  unfolding seek
  seek_here n k e = cond_true (t k) k (seek t n (k + 1)) e

  seek_on : (n k : ℕ) → t k ≡ false → seek t (suc n) k ≡ seek t n (k + 1)
  unfolding seek
  seek_on n k e = cond_false (t k) k (seek t n (k + 1)) e

  pub seek_finds : (n k : ℕ) → seek t n k < k + n → t (seek t n k) ≡ true
  seek_finds zero k h = absurd (unfold seek in omega arith)
  seek_finds (suc n) k h =
      ⊎_elim (λ e. ap t (seek_here n k e) ∙ e)
      (λ e. let q = seek_on n k e in ap t q ∙ seek_finds n (k + 1) (omega arith)) (cases (t k))

  pub seek_none : (n k : ℕ) → k + n ≤ seek t n k → (i : ℕ) → k ≤ i → i < k + n → t i ≡ false
  seek_none zero k h i a b = absurd (omega arith)
  seek_none (suc n) k h i a b =
      ⊎_elim (λ e. let p = seek_here n k e in absurd (omega arith))
      (λ e.
      let p = seek_on n k e in
      ⊎_elim (λ z. ap t (sym z) ∙ e) (λ z. seek_none n (k + 1) (omega arith) i (ne_above k i a z) (omega arith)) (eq_or_not k i))
      (cases (t k))

  -- a turn of a loop that seeks, at k of m
  pub seek_turn_here : (m k : ℕ) → k < m → t k ≡ true → seek t (m - k) k ≡ k
  seek_turn_here m k a e = ap (λ (n : ℕ). seek t n k) (left m k a) ∙ seek_here (m - (k + 1)) k e

  pub seek_turn_on : (m k : ℕ) → k < m → t k ≡ false → seek t (m - k) k ≡ seek t (m - (k + 1)) (k + 1)
  seek_turn_on m k a e = ap (λ (n : ℕ). seek t n k) (left m k a) ∙ seek_on (m - (k + 1)) k e

  pub seek_end : (m k : ℕ) → k ≡ m → seek t (m - k) k ≡ k
  seek_end m k e = let z : m - k ≡ 0 = omega arith in ap (λ (n : ℕ). seek t n k) z ∙ (unfold seek in refl)

-- two tests that agree find the same
pub seek_ext : (t u : ℕ → Bool) (n k : ℕ) → ((i : ℕ) → i < k + n → t i ≡ u i) → seek t n k ≡ seek u n k
unfolding seek
seek_ext t u zero k h = refl
seek_ext t u (suc n) k h =
    ap (λ (x : Bool). cond x k (seek t n (k + 1))) (h k (omega arith))
    ∙ ap (λ (x : ℕ). cond (u k) k x) (seek_ext t u n (k + 1) (λ i a. h i (omega arith)))

pub place_starts : (c : Cell) (o : ℕ) → place_at c o < 16 → offset c (place_at c o) ≡ o
place_starts c o a = eqb-true _ _ (seek_finds (λ k. eqb (offset c k) o) 16 0 (omega arith))

pub free_ends : (c : Cell) → free_place c < 16 → end_at c (free_place c) ≤ c.joined
free_ends c a = leb-true _ _ (seek_finds (λ k. leb (end_at c k) c.joined) 16 0 (omega arith))

-- ---- the place that goes next
-- the piece at k can be joined
abbrev pub Goes : Cell → ℕ → Type 0
Goes c k = (offset c k ≤ c.joined) × (c.joined < end_at c k) × (end_at c k ≤ 2048)

pub goes_of : (c : Cell) (k o : ℕ) → better c k o ≡ true → Goes c k
goes_of c k o e =
    let u = and_true (leb (offset c k) c.joined && ltb c.joined (end_at c k) && leb (end_at c k) 2048) _ e in
    let v = and_true (leb (offset c k) c.joined && ltb c.joined (end_at c k)) _ u.0 in
    let w = and_true (leb (offset c k) c.joined) _ v.0 in
    (leb-true _ _ w.0, ltb-true _ _ w.1, leb-true _ _ v.1)

pub better_of : (c : Cell) (k o : ℕ) → Goes c k → o ≤ offset c k → better c k o ≡ true
better_of c k o g h = simp (le-leb _ _ g.0, lt-ltb _ _ g.1, le-leb _ _ g.2, le-leb _ _ h)

pub next_this : (n : ℕ) (c : Cell) (k b o : ℕ) → better c k o ≡ true → next (suc n) c k b o ≡ next n c (k + 1) k (offset c k)
unfolding next
next_this n c k b o e = ap (λ (t : Bool). next n c (k + 1) (cond t k b) (cond t (offset c k) o)) e

pub next_on : (n : ℕ) (c : Cell) (k b o : ℕ) → better c k o ≡ false → next (suc n) c k b o ≡ next n c (k + 1) b o
unfolding next
next_on n c k b o e = ap (λ (t : Bool). next n c (k + 1) (cond t k b) (cond t (offset c k) o)) e

-- what is found is what was at hand, or one of the n places, which goes
abbrev Found : Cell → ℕ → ℕ → ℕ → Type 0
Found c b m r = (r ≡ b) ⊎ ((r < m) × Goes c r)

pub next_finds : (n : ℕ) (c : Cell) (k b o : ℕ) → Found c b (k + n) (next n c k b o)
next_finds zero c k b o = unfold next in inl refl
next_finds (suc n) c k b o =
    ⊎_elim (λ e.
    subst (λ (r : ℕ). Found c b (k + suc n) r) (sym (next_this n c k b o e))
    (⊎_elim (λ q. inr (omega arith, subst (λ (x : ℕ). Goes c x) (sym q) (goes_of c k o e))) (λ w. inr (omega arith, w.1))
    (next_finds n c (k + 1) k (offset c k))))
    (λ e.
    subst (λ (r : ℕ). Found c b (k + suc n) r) (sym (next_on n c k b o e))
    (⊎_elim (λ q. inl q) (λ w. inr (omega arith, w.1)) (next_finds n c (k + 1) b o)))
    (cases (better c k o))

-- where none is found, no place goes
pub next_none : (n : ℕ) (c : Cell) (k : ℕ) → k + n ≤ 16 → next n c k 16 0 ≡ 16 → (i : ℕ) → k ≤ i → i < k + n → Goes c i → ⊥
next_none zero c k h q i a b g = omega arith
next_none (suc n) c k h q i a b g =
    ⊎_elim (λ e.
    let p = next_this n c k 16 0 e in
    ⊎_elim (λ z. omega arith) (λ w. omega arith) (next_finds n c (k + 1) k (offset c k)))
    (λ e.
    let p = next_on n c k 16 0 e in
    ⊎_elim (λ z.
    never_both (better c k 0) (better_of c k 0 (subst (λ (x : ℕ). Goes c x) (sym z) g) zero-le) e)
    (λ z. next_none n c (k + 1) (omega arith) (sym p ∙ q) i (ne_above k i a z) (omega arith) g)
    (eq_or_not k i))
    (cases (better c k 0))

-- a turn of a loop that looks for it, at place k of m
pub next_turn_this : (m : ℕ) (c : Cell) (k b o : ℕ) → k < m → better c k o ≡ true → next (m - k) c k b o ≡ next (m - (k + 1)) c (k + 1) k (offset c k)
next_turn_this m c k b o a e = ap (λ (n : ℕ). next n c k b o) (left m k a) ∙ next_this (m - (k + 1)) c k b o e

pub next_turn_on : (m : ℕ) (c : Cell) (k b o : ℕ) → k < m → better c k o ≡ false → next (m - k) c k b o ≡ next (m - (k + 1)) c (k + 1) b o
next_turn_on m c k b o a e = ap (λ (n : ℕ). next n c k b o) (left m k a) ∙ next_on (m - (k + 1)) c k b o e

pub next_end : (m : ℕ) (c : Cell) (k b o : ℕ) → k ≡ m → next (m - k) c k b o ≡ b
next_end m c k b o e = let z : m - k ≡ 0 = omega arith in ap (λ (n : ℕ). next n c k b o) z ∙ (unfold next in refl)

-- ---- a place that was found, or none
pub found_some : (n k : ℕ) → n ≡ k → k < 16 → Some k ≡ found n
found_some n k e h = rw (e, lt-ltb k 16 h)

pub found_none : (n : ℕ) → 16 ≤ n → None ≡ found n
found_none n h = rw (le-ltb n 16 h)

pub found_is : (n k : ℕ) → Some k ≡ found n → (k ≡ n) × (k < 16)
found_is n k e = by (ltb n 16) refl e
  where
    by : (b : Bool) → ltb n 16 ≡ b → Some k ≡ cond b (Some n) None → (k ≡ n) × (k < 16)
    by true f q = let h = ltb-true n 16 f in let z : k ≡ n = cc in (z, omega arith)
    by false f q = absurd (cc)

pub found_not : (n : ℕ) → None ≡ found n → 16 ≤ n
found_not n e = by (ltb n 16) refl e
  where
    by : (b : Bool) → ltb n 16 ≡ b → None ≡ cond b (Some n) None → 16 ≤ n
    by true f q = absurd (cc)
    by false f q = ltb-false n 16 f
