-- Laws of `first`, `fold`, `every` and `any` for a loop that counts i up to n by one. Its invariant says that what is left to do from the present
-- state gives what the whole was to give: `first p (n - i) i ≡ first p n 0`, `fold f (n - i) i a ≡ fold f n 0 a₀`.
-- Assumes nothing.
use Rattle.std.specs.Prelude.{Some, None}
use mathlib.Core.Path.{◌≡◌, refl, sym, ap, ap₂, ◌∙◌}
use mathlib.Core.Bool.{Bool, true, false, cond, ◌&&◌, ◌||◌}
use Prim.Native.Nat.{ℕ, zero, suc, ◌+◌, ◌-◌, ◌≤◌, ◌<◌}
use native.Mathlib.Numerals.{add-one}
use native.Mathlib.Omega.{arith}
use mathlib.Core.Logic.{⊎_elim}
use Rattle.bits.proofs.Lists.{cases, le_or_lt, and_true, or_false, never_both}
use Rattle.bits.specs.Loop.{first, fold, every, any}

left : (n i : ℕ) → i < n → n - i ≡ suc (n - (i + 1))
left n i h = omega arith

-- a turn of a fold; at the end it is the accumulator
pub fold_turn : {A : Type 0} (f : ℕ → A → A) (n i : ℕ) (a : A) → i < n → fold f (n - i) i a ≡ fold f (n - (i + 1)) (i + 1) (f i a)
unfolding fold
fold_turn f n i a h =
    ap (λ (k : ℕ). fold f k i a) (left n i h) ∙ ap (λ (k : ℕ). fold f (n - (i + 1)) k (f i a)) (sym (add-one i))

pub fold_end : {A : Type 0} (f : ℕ → A → A) (n i : ℕ) (a : A) → n ≤ i → fold f (n - i) i a ≡ a
unfolding fold
fold_end f n i a h = let e : n - i ≡ 0 = omega arith in ap (λ (k : ℕ). fold f k i a) e

-- what a fold's every step keeps, the fold keeps
pub fold_keeps : {A : Type 0} (P : A → Type 0) (f : ℕ → A → A) → ((i : ℕ) (a : A) → P a → P (f i a)) → (n i : ℕ) (a : A) → P a → P (fold f n i a)
unfolding fold
fold_keeps P f h zero i a p = p
fold_keeps P f h (suc n) i a p = fold_keeps P f h n (suc i) (f i a) (h i a p)

-- the same where a step knows that its slot is in the fold's range
pub fold_keeps_below : {A : Type 0} (P : A → Type 0) (f : ℕ → A → A) (n i : ℕ)
    → ((j : ℕ) (a : A) → i ≤ j → j < i + n → P a → P (f j a)) → (a : A) → P a → P (fold f n i a)
unfolding fold
fold_keeps_below P f zero i h a p = p
fold_keeps_below P f (suc n) i h a p =
    fold_keeps_below P f n (suc i) (λ j b l q r. h j b (omega arith) (omega arith) r) (f i a) (h i a (omega arith) (omega arith) p)

-- two steps that agree at every slot of the range fold to the same
pub fold_ext : {A : Type 0} (f g : ℕ → A → A) (n i : ℕ)
    → ((j : ℕ) (a : A) → i ≤ j → j < i + n → f j a ≡ g j a) → (a : A) → fold f n i a ≡ fold g n i a
unfolding fold
fold_ext f g zero i h a = refl
fold_ext f g (suc n) i h a =
    rw (h i a (omega arith) (omega arith)) (fold_ext f g n (suc i) (λ j b l q. h j b (omega arith) (omega arith)) (g i a))

-- a turn of a search that passes slot i by, one that stops there, and the end
pub first_pass : (p : ℕ → Bool) (n i : ℕ) → i < n → p i ≡ false → first p (n - i) i ≡ first p (n - (i + 1)) (i + 1)
unfolding first
first_pass p n i h e =
    ap (λ (k : ℕ). first p k i) (left n i h)
    ∙ ap (λ (b : Bool). cond b (Some i) (first p (n - (i + 1)) (suc i))) e
    ∙ ap (λ (k : ℕ). first p (n - (i + 1)) k) (sym (add-one i))

pub first_stop : (p : ℕ → Bool) (n i : ℕ) → i < n → p i ≡ true → first p (n - i) i ≡ Some i
unfolding first
first_stop p n i h e =
    ap (λ (k : ℕ). first p k i) (left n i h)
    ∙ ap (λ (b : Bool). cond b (Some i) (first p (n - (i + 1)) (suc i))) e

pub first_end : (p : ℕ → Bool) (n i : ℕ) → n ≤ i → first p (n - i) i ≡ None
unfolding first
first_end p n i h = let e : n - i ≡ 0 = omega arith in ap (λ (k : ℕ). first p k i) e

-- the answer of a search, from what holds of every slot
pub first_skip : (p : ℕ → Bool) (n i : ℕ) → i ≤ n → ((j : ℕ) → j < i → p j ≡ false) → first p n 0 ≡ first p (n - i) i
first_skip p n zero h e = ap (λ (k : ℕ). first p k 0) (omega arith)
first_skip p n (suc i) h e =
    first_skip p n i (omega arith) (λ j l. e j (omega arith))
    ∙ first_pass p n i h (e i (omega arith))
    ∙ ap₂ (λ (k j : ℕ). first p (n - k) j) (add-one i) (add-one i)

pub first_at : (p : ℕ → Bool) (n i : ℕ) → i < n → ((j : ℕ) → j < i → p j ≡ false) → p i ≡ true → first p n 0 ≡ Some i
first_at p n i h e t = first_skip p n i (omega arith) e ∙ first_stop p n i h t

pub first_none : (p : ℕ → Bool) (n : ℕ) → ((j : ℕ) → j < n → p j ≡ false) → first p n 0 ≡ None
first_none p n e = first_skip p n n (omega arith) e ∙ first_end p n n (omega arith)

-- what a search finds: a slot below the end, at which p holds
pub first_found : (p : ℕ → Bool) (n i s : ℕ) → first p n i ≡ Some s → (s < i + n) × (p s ≡ true)
unfolding first
first_found p zero i s e = let z : ◌≡◌ {A = ℕ} 0 1 = cc in absurd (omega arith)
first_found p (suc n) i s e = go (p i) refl e (first_found p n (suc i) s)
  where
    go : (b : Bool) → p i ≡ b → cond b (Some i) (first p n (suc i)) ≡ Some s
        → (first p n (suc i) ≡ Some s → (s < suc i + n) × (p s ≡ true)) → (s < i + suc n) × (p s ≡ true)
    go true q e' ih = let k : i ≡ s = cc in (omega arith, rw k at q)
    go false q e' ih = let r = ih e' in (omega arith, r.1)

pub first_lt : (p : ℕ → Bool) (n s : ℕ) → first p n 0 ≡ Some s → s < n
first_lt p n s e = let r = first_found p n 0 s e in omega arith

-- what it passed by
pub first_before : (p : ℕ → Bool) (n i s : ℕ) → first p n i ≡ Some s → (j : ℕ) → i ≤ j → j < s → p j ≡ false
unfolding first
first_before p zero i s e j l q = let z : ◌≡◌ {A = ℕ} 0 1 = cc in absurd (omega arith)
first_before p (suc n) i s e j l q = go (p i) refl e (λ e' t. first_before p n (suc i) s e' j t q)
  where
    go : (b : Bool) → p i ≡ b → cond b (Some i) (first p n (suc i)) ≡ Some s
        → (first p n (suc i) ≡ Some s → i < j → p j ≡ false) → p j ≡ false
    go true f e' ih = let k : i ≡ s = cc in absurd (omega arith)
    go false f e' ih = ⊎_elim (λ t. let k : i ≡ j = omega arith in rw k at f) (λ t. ih e' t) (le_or_lt j i)

pub first_nothing : (p : ℕ → Bool) (n i : ℕ) → first p n i ≡ None → (j : ℕ) → i ≤ j → j < i + n → p j ≡ false
unfolding first
first_nothing p zero i e j l q = absurd (omega arith)
first_nothing p (suc n) i e j l q = go (p i) refl e (λ e' t. first_nothing p n (suc i) e' j t (omega arith))
  where
    go : (b : Bool) → p i ≡ b → cond b (Some i) (first p n (suc i)) ≡ None
        → (first p n (suc i) ≡ None → i < j → p j ≡ false) → p j ≡ false
    go true f e' ih = let z : ◌≡◌ {A = ℕ} 0 1 = cc in absurd (omega arith)
    go false f e' ih = ⊎_elim (λ t. let k : i ≡ j = omega arith in rw k at f) (λ t. ih e' t) (le_or_lt j i)

-- two tests that agree at every slot of the search find the same
pub first_ext : (p q : ℕ → Bool) (n i : ℕ) → ((j : ℕ) → i ≤ j → j < i + n → p j ≡ q j) → first p n i ≡ first q n i
unfolding first
first_ext p q zero i h = refl
first_ext p q (suc n) i h =
    rw (h i (omega arith) (omega arith), first_ext p q n (suc i) (λ j l k. h j (omega arith) (omega arith)))

-- the same of `every`
pub every_pass : (p : ℕ → Bool) (n i : ℕ) → i < n → p i ≡ true → every p (n - i) i ≡ every p (n - (i + 1)) (i + 1)
unfolding every
every_pass p n i h e =
    ap (λ (k : ℕ). every p k i) (left n i h)
    ∙ ap (λ (b : Bool). b && every p (n - (i + 1)) (suc i)) e
    ∙ ap (λ (k : ℕ). every p (n - (i + 1)) k) (sym (add-one i))

pub every_stop : (p : ℕ → Bool) (n i : ℕ) → i < n → p i ≡ false → every p (n - i) i ≡ false
unfolding every
every_stop p n i h e =
    ap (λ (k : ℕ). every p k i) (left n i h)
    ∙ ap (λ (b : Bool). b && every p (n - (i + 1)) (suc i)) e

pub every_end : (p : ℕ → Bool) (n i : ℕ) → n ≤ i → every p (n - i) i ≡ true
unfolding every
every_end p n i h = let e : n - i ≡ 0 = omega arith in ap (λ (k : ℕ). every p k i) e

pub every_true : (p : ℕ → Bool) (n i : ℕ) → ((j : ℕ) → i ≤ j → j < i + n → p j ≡ true) → every p n i ≡ true
unfolding every
every_true p zero i h = refl
every_true p (suc n) i h = rw (h i (omega arith) (omega arith)) (every_true p n (suc i) (λ j l q. h j (omega arith) (omega arith)))

pub every_all : (p : ℕ → Bool) (n i : ℕ) → every p n i ≡ true → (j : ℕ) → i ≤ j → j < i + n → p j ≡ true
unfolding every
every_all p zero i e j l q = absurd (omega arith)
every_all p (suc n) i e j l q =
    let b = and_true (p i) (every p n (suc i)) e in
    ⊎_elim
    (λ s. let k : i ≡ j = omega arith in rw k at b.0)
    (λ s. every_all p n (suc i) b.1 j s (omega arith))
    (le_or_lt j i)

-- the same of `any`
pub any_pass : (p : ℕ → Bool) (n i : ℕ) → i < n → p i ≡ false → any p (n - i) i ≡ any p (n - (i + 1)) (i + 1)
unfolding any
any_pass p n i h e =
    ap (λ (k : ℕ). any p k i) (left n i h)
    ∙ ap (λ (b : Bool). b || any p (n - (i + 1)) (suc i)) e
    ∙ ap (λ (k : ℕ). any p (n - (i + 1)) k) (sym (add-one i))

pub any_stop : (p : ℕ → Bool) (n i : ℕ) → i < n → p i ≡ true → any p (n - i) i ≡ true
unfolding any
any_stop p n i h e =
    ap (λ (k : ℕ). any p k i) (left n i h) ∙ ap (λ (b : Bool). b || any p (n - (i + 1)) (suc i)) e

pub any_end : (p : ℕ → Bool) (n i : ℕ) → n ≤ i → any p (n - i) i ≡ false
unfolding any
any_end p n i h = let e : n - i ≡ 0 = omega arith in ap (λ (k : ℕ). any p k i) e

pub any_none : (p : ℕ → Bool) (n i : ℕ) → any p n i ≡ false → (j : ℕ) → i ≤ j → j < i + n → p j ≡ false
unfolding any
any_none p zero i e j l q = absurd (omega arith)
any_none p (suc n) i e j l q =
    let b = or_false (p i) (any p n (suc i)) e in
    ⊎_elim
    (λ s. let k : i ≡ j = omega arith in rw k at b.0)
    (λ s. any_none p n (suc i) b.1 j s (omega arith))
    (le_or_lt j i)

pub any_at : (p : ℕ → Bool) (n i j : ℕ) → i ≤ j → j < i + n → p j ≡ true → any p n i ≡ true
any_at p n i j l q e =
    ⊎_elim (λ t. t) (λ f. absurd (never_both (p j) e (any_none p n i f j l q))) (cases (any p n i))
