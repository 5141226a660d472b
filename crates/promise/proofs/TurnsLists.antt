-- The slots of a list that is kept as a mask: each once, the front one taken off. Assumes nothing.
use Rattle.std.specs.Prelude.{Some}
use mathlib.Core.Path.{◌≡◌, refl, sym, ap, ◌∙◌, subst}
use mathlib.Core.Logic.{inl, inr, ⊎_elim}
use Prim.Native.Nat.{ℕ, zero, suc, ◌+◌, ◌≤◌, ◌<◌}
use native.Mathlib.Omega.{arith}
use mathlib.Core.Bool.{Bool, true, false, cond}
use mathlib.Core.List.{List, [], ◌∷◌}
use Rattle.bits.specs.Loop.{first}
use Rattle.bits.specs.Mask.{has_bit, without_bit, lowest_bit, slots_of}
use Rattle.bits.proofs.Lists.{never_both, eq_or_not, lt_or_le}
use Rattle.bits.proofs.Laws.{has_none, without_same, without_other}
use Rattle.bits.proofs.Loops.{first_at, first_found, first_before}
use lib.Dec.{eqb}
use borrow.Author.Tests.{eqb-true, eq-eqb}
use Rattle.promise.specs.Promise.{without}
use Rattle.promise.proofs.Monitor.{In, NoDup}

-- the slots of a list
abbrev pub slots_in : ℕ → List ℕ
slots_in mask = slots_of mask 62 0

-- the list has no slot from 62 on
abbrev pub Low : ℕ → Type 0
Low m = (i : ℕ) → 62 ≤ i → has_bit m i ≡ false

above : (m n i x : ℕ) → In x (slots_of m n i) → i ≤ x
unfolding slots_of
above m zero i x h = absurd h
above m (suc n) i x h = go (has_bit m i) h (λ u. above m n (suc i) x u)
  where
    go : (b : Bool) → In x (cond b (i ∷ slots_of m n (suc i)) (slots_of m n (suc i))) → (In x (slots_of m n (suc i)) → suc i ≤ x) → i ≤ x
    go true (inl e) ih = omega arith
    go true (inr u) ih = let z = ih u in omega arith
    go false u ih = let z = ih u in omega arith

slots_once : (m n i : ℕ) → NoDup (slots_of m n i)
unfolding slots_of
slots_once m zero i = tt
slots_once m (suc n) i = go (has_bit m i) (slots_once m n (suc i))
  where
    go : (b : Bool) → NoDup (slots_of m n (suc i)) → NoDup (cond b (i ∷ slots_of m n (suc i)) (slots_of m n (suc i)))
    go true d = (λ h. absurd (let z = above m n (suc i) i h in omega arith), d)
    go false d = d

pub list_once : (m : ℕ) → NoDup (slots_in m)
list_once m = slots_once m 62 0

slots_same : (a b n i : ℕ) → ((j : ℕ) → i ≤ j → has_bit a j ≡ has_bit b j) → slots_of a n i ≡ slots_of b n i
unfolding slots_of
slots_same a b zero i f = refl
slots_same a b (suc n) i f = rw (f i (omega arith), slots_same a b n (suc i) (λ j h. f j (omega arith)))

slots_none : (m n i : ℕ) → ((j : ℕ) → i ≤ j → j < i + n → has_bit m j ≡ false) → slots_of m n i ≡ []
unfolding slots_of
slots_none m zero i f = refl
slots_none m (suc n) i f = rw (f i (omega arith) (omega arith)) (slots_none m n (suc i) (λ j h l. f j (omega arith) (omega arith)))

slots_front : (m n i s : ℕ) → first (has_bit m) n i ≡ Some s → slots_of m n i ≡ s ∷ slots_of (without_bit m s) n i
unfolding slots_of first
slots_front m zero i s e = let z : ◌≡◌ {A = ℕ} 0 1 = cc in absurd (omega arith)
slots_front m (suc n) i s e = go (has_bit m i) refl e (slots_front m n (suc i) s)
  where
    l : List ℕ
    l = slots_of m n (suc i)

    u : List ℕ
    u = slots_of (without_bit m s) n (suc i)

    go : (b : Bool) → has_bit m i ≡ b → cond b (Some i) (first (has_bit m) n (suc i)) ≡ Some s → (first (has_bit m) n (suc i) ≡ Some s → l ≡ s ∷ u)
        → cond b (i ∷ l) l ≡ s ∷ cond (has_bit (without_bit m s) i) (i ∷ u) u
    go true q e ih =
        let d : i ≡ s = cc in
        let g : has_bit (without_bit m s) i ≡ false = subst (λ (k : ℕ). has_bit (without_bit m k) i ≡ false) d (without_same m i) in
        rw (g, d) (ap (λ (x : List ℕ). s ∷ x) (slots_same m (without_bit m s) n (suc s) (λ j h. sym (without_other m s j (λ k. omega arith)))))
    go false q e ih =
        let n : i ≡ s → ⊥ = λ k. never_both (has_bit m s) (first_found (has_bit m) n (suc i) s e).1 (subst (λ (x : ℕ). has_bit m x ≡ false) k q) in
        let g : has_bit (without_bit m s) i ≡ false = without_other m s i (λ k. n (sym k)) ∙ q in
        rw g (ih e)

-- the front of the list
module _ (m : ℕ) (low : Low m) where
  pub front_low : (s : ℕ) → lowest_bit m ≡ Some s → s < 62
  unfolding lowest_bit
  front_low s e = ⊎_elim (λ l. l) (λ g. absurd (never_both (has_bit m s) (first_found (has_bit m) 64 0 s e).1 (low s g))) (lt_or_le s 62)

  pub front_off : (s : ℕ) → lowest_bit m ≡ Some s → slots_in m ≡ s ∷ slots_in (without_bit m s)
  unfolding lowest_bit
  front_off s e =
      slots_front m 62 0 s
      (first_at (has_bit m) 62 s (front_low s e) (λ j h. first_before (has_bit m) 64 0 s e j (omega arith) h) (first_found (has_bit m) 64 0 s e).1)

  pub low_without : (s : ℕ) → Low (without_bit m s)
  low_without s i h = ⊎_elim (λ e. subst (λ (k : ℕ). has_bit (without_bit m k) i ≡ false) (sym e) (without_same m i)) (λ n. without_other m s i n ∙ low i h) (eq_or_not s i)

-- an empty list
pub list_none : (m : ℕ) → m ≡ 0 → slots_in m ≡ []
list_none m e = rw e (slots_none 0 62 0 (λ j h l. has_none j))

pub low_none : Low 0
low_none i h = has_none i

-- a slot struck from the list
slots_struck : (m s n i : ℕ) → slots_of (without_bit m s) n i ≡ without s (slots_of m n i)
unfolding slots_of
slots_struck m s zero i = refl
slots_struck m s (suc n) i = go (eqb s i) refl (has_bit m i) refl (slots_struck m s n (suc i))
  where
    l : List ℕ
    l = slots_of m n (suc i)

    u : List ℕ
    u = slots_of (without_bit m s) n (suc i)

    go : (b : Bool) → eqb s i ≡ b → (c : Bool) → has_bit m i ≡ c → u ≡ without s l → cond (has_bit (without_bit m s) i) (i ∷ u) u ≡ without s (cond c (i ∷ l) l)
    go true e c f ih =
        let g : has_bit (without_bit m s) i ≡ false = subst (λ (k : ℕ). has_bit (without_bit m k) i ≡ false) (sym (eqb-true s i e)) (without_same m i) in
        rw (g, ih) (both c)
      where
        both : (c : Bool) → without s l ≡ without s (cond c (i ∷ l) l)
        both true = rw e
        both false = refl
    go false e c f ih =
        let g : has_bit (without_bit m s) i ≡ c = without_other m s i (λ k. never_both (eqb s i) (eq-eqb s i k) e) ∙ f in
        rw (g, ih) (both c)
      where
        both : (c : Bool) → cond c (i ∷ without s l) (without s l) ≡ without s (cond c (i ∷ l) l)
        both true = rw e
        both false = refl

pub list_struck : (m s : ℕ) → slots_in (without_bit m s) ≡ without s (slots_in m)
list_struck m s = slots_struck m s 62 0
