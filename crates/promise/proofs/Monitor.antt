-- A monitor of what the calls return. It knows the slots of the list that have not had a turn yet, and the turn that runs.
-- A trace that it accepts keeps the promise on turns; it asks for more (polls in list order, one turn at a time), so that it
-- is easy to follow along with the station. Assumes nothing.
use mathlib.Core.Path.{◌≡◌, refl, sym, ◌∙◌, subst}
use mathlib.Core.Logic.{◌⊎◌, inl, inr}
use Prim.Native.Nat.{ℕ, suc, ◌+◌, ◌≤◌}
use native.Mathlib.Omega.{arith}
use mathlib.Core.Bool.{Bool, true, false, cond, ◌&&◌}
use mathlib.Core.List.{List, [], ◌∷◌, ◌++◌}
use lib.Dec.{T, eqb, eqb_refl}
use borrow.Author.Tests.{eqb-true}
use Rattle.promise.specs.Promise.{TurnEvent, drew, over, poll, ack, struck, has, without, View, empty_view, begins, Spread, till, OneTurn, TurnsHold}
use Rattle.promise.specs.Waits.{views}

abbrev pub In : ℕ → List ℕ → Type 0
In x [] = ⊥
In x (y ∷ l) = (x ≡ y) ⊎ In x l

-- each slot once
abbrev pub NoDup : List ℕ → Type 0
NoDup [] = Unit {0}
NoDup (x ∷ l) = (In x l → ⊥) × NoDup l

pub data Run : Type 0 where
  rest : Run
  turn : (slot polls acks : ℕ) → Run

-- the turn of a slot that signs off ends
abbrev pub run_without : ℕ → Run → Run
run_without x rest = rest
run_without x (turn s p a) = cond (eqb x s) rest (turn s p a)

abbrev pub Acc : List ℕ → Run → List TurnEvent → Type 0
Acc left r [] = Unit {0}
Acc [] rest (drew l ∷ es) = NoDup l × Acc l rest es
Acc (x ∷ left) rest (drew l ∷ es) = ⊥
Acc left (turn s p a) (drew l ∷ es) = ⊥
Acc left rest (over x ∷ es) = ⊥
Acc left (turn s p a) (over x ∷ es) = (x ≡ s) × Acc left rest es
Acc [] rest (poll x ∷ es) = ⊥
Acc (y ∷ left) rest (poll x ∷ es) = (x ≡ y) × Acc left (turn x 1 0) es
Acc left (turn s p a) (poll x ∷ es) = (x ≡ s) × (suc p ≤ 5) × Acc left (turn s (suc p) a) es
Acc left rest (ack x ∷ es) = ⊥
Acc left (turn s p a) (ack x ∷ es) = (x ≡ s) × (suc a ≤ 4) × Acc left (turn s p (suc a)) es
Acc left r (struck x ∷ es) = Acc (without x left) (run_without x r) es

T-eq : (b : Bool) → T b → b ≡ true
T-eq true t = refl
T-eq false t = absurd t

eqb_eq : (x y : ℕ) → x ≡ y → eqb x y ≡ true
eqb_eq x y e = T-eq (eqb x y) (subst (λ (k : ℕ). T (eqb x k)) e (eqb_refl x))

-- ---- the counts

few : (left : List ℕ) (s p a : ℕ) (es : List TurnEvent) → p ≤ 5 → a ≤ 4 → Acc left (turn s p a) es → (p + till 1 0 s es ≤ 5) × (a + till 0 1 s es ≤ 4)
few left s p a [] hp ha c = omega arith
few left s p a (drew l ∷ es) hp ha c = absurd c
few left s p a (over x ∷ es) hp ha c = rw (eqb_eq x s c.0) (omega arith)
few left s p a (poll x ∷ es) hp ha c = rw (eqb_eq x s c.0) (let h = few left s (suc p) a es c.1 ha c.2 in omega arith)
few left s p a (ack x ∷ es) hp ha c = rw (eqb_eq x s c.0) (let h = few left s p (suc a) es hp c.1 c.2 in omega arith)
few left s p a (struck x ∷ es) hp ha c = go (eqb x s) c (λ d. few (without x left) s p a es hp ha d)
  where
    go : (b : Bool) → Acc (without x left) (cond b rest (turn s p a)) es
        → (Acc (without x left) (turn s p a) es → (p + till 1 0 s es ≤ 5) × (a + till 0 1 s es ≤ 4)) → (p + cond b 0 (till 1 0 s es) ≤ 5) × (a + cond b 0 (till 0 1 s es) ≤ 4)
    go true c ih = omega arith
    go false c ih = ih c

-- ---- the view that goes with the monitor

abbrev pub slots : Run → List ℕ
slots rest = []
slots (turn s p a) = s ∷ []

abbrev seen : List ℕ → Run → View
seen l r = record { list = l; run = slots r }

has_in : (x : ℕ) (l : List ℕ) → In x l → T (has x l)
has_in x [] h = h
has_in x (y ∷ l) (inl e) = rw (eqb_eq x y e) tt
has_in x (y ∷ l) (inr h) = step (eqb x y) (has_in x l h)
  where
    step : (b : Bool) → T (has x l) → T (cond b true (has x l))
    step true t = tt
    step false t = t

in_has : (x : ℕ) (l : List ℕ) → T (has x l) → In x l
in_has x [] h = h
in_has x (y ∷ l) h = step (eqb x y) refl (in_has x l) h
  where
    step : (b : Bool) → eqb x y ≡ b → (T (has x l) → In x l) → T (cond b true (has x l)) → In x (y ∷ l)
    step true e f t = inl (eqb-true x y e)
    step false e f t = inr (f t)

-- what is left is on the list, once
pub record Left (l left : List ℕ) : Type 0 where
  on : (x : ℕ) → In x left → T (has x l)
  once : NoDup left

whole : (l : List ℕ) → NoDup l → Left l l
whole l n = record { on = λ x h. has_in x l h; once = n }

fewer : (l left : List ℕ) (y : ℕ) → Left l (y ∷ left) → Left l left
fewer l left y h = record { on = λ x m. h.on x (inr m); once = h.once.1 }

head_on : (l left : List ℕ) (x y : ℕ) → Left l (y ∷ left) → x ≡ y → has x l ≡ true
head_on l left x y h e = T-eq (has x l) (h.on x (inl e))

-- ---- a slot struck from a list

pub in_without : (y x : ℕ) (l : List ℕ) → In y l → (y ≡ x → ⊥) → In y (without x l)
in_without y x [] h n = h
in_without y x (z ∷ l) h n = step (eqb x z) refl h (λ (m : In y l). in_without y x l m n)
  where
    step : (b : Bool) → eqb x z ≡ b → (y ≡ z) ⊎ In y l → (In y l → In y (without x l)) → In y (cond b (without x l) (z ∷ without x l))
    step true e (inl p) ih = absurd (n (p ∙ sym (eqb-true x z e)))
    step true e (inr m) ih = ih m
    step false e (inl p) ih = inl p
    step false e (inr m) ih = inr (ih m)

pub without_in : (y x : ℕ) (l : List ℕ) → In y (without x l) → In y l × (y ≡ x → ⊥)
without_in y x [] h = absurd h
without_in y x (z ∷ l) h = step (eqb x z) refl h (λ (m : In y (without x l)). without_in y x l m)
  where
    step : (b : Bool) → eqb x z ≡ b → In y (cond b (without x l) (z ∷ without x l)) → (In y (without x l) → In y l × (y ≡ x → ⊥)) → In y (z ∷ l) × (y ≡ x → ⊥)
    step true e m ih = let w = ih m in (inr w.0, w.1)
    step false e (inl p) ih = (inl p, λ q. let w : ◌≡◌ {A = Bool} true false = sym (eqb_eq x z (sym q ∙ p)) ∙ e in let v : ◌≡◌ {A = ℕ} 0 1 = cc in omega arith)
    step false e (inr m) ih = let w = ih m in (inr w.0, w.1)

once_without : (x : ℕ) (l : List ℕ) → NoDup l → NoDup (without x l)
once_without x [] n = tt
once_without x (z ∷ l) n = step (eqb x z) (once_without x l n.1)
  where
    step : (b : Bool) → NoDup (without x l) → NoDup (cond b (without x l) (z ∷ without x l))
    step true d = d
    step false d = (λ m. n.0 (without_in z x l m).0, d)

struck_left : (l left : List ℕ) (x : ℕ) → Left l left → Left (without x l) (without x left)
struck_left l left x h =
    record { on = λ y m. let w = without_in y x left m in has_in y (without x l) (in_without y x l (in_has y l (h.on y w.0)) w.1); once = once_without x left h.once }

slots_struck : (x : ℕ) (r : Run) → slots (run_without x r) ≡ without x (slots r)
slots_struck x rest = refl
slots_struck x (turn s p a) = go (eqb x s)
  where
    go : (b : Bool) → slots (cond b rest (turn s p a)) ≡ cond b [] (s ∷ [])
    go true = refl
    go false = refl

-- ---- no second turn before all have had one

abbrev Phase : List ℕ → List ℕ → List ℕ → Type 0
Phase l had left =
    ((t : ℕ) → In t l → In t had) ⊎ (((t : ℕ) → In t l → In t had ⊎ In t left) × ((x : ℕ) → In x had → In x left → ⊥))

ended : (l had : List ℕ) → Phase l had [] → (t : ℕ) → In t l → In t had
ended l had (inl f) t m = f t m
ended l had (inr (c, a)) t m = step (c t m)
  where
    step : In t had ⊎ ⊥ → In t had
    step (inl h) = h
    step (inr h) = absurd h

phase_poll : (l had left : List ℕ) (x y : ℕ) → x ≡ y → NoDup (y ∷ left) → Phase l had (y ∷ left)
    → (In x had → (t : ℕ) → In t l → (t ≡ x → ⊥) → In t had) × Phase l (x ∷ had) left
phase_poll l had left x y e n (inl f) = (λ h t m d. f t m, inl (λ t m. inr (f t m)))
phase_poll l had left x y e n (inr (c, a)) = (λ h t m d. absurd (a x h (inl e)), inr (λ t m. cover t (c t m), apart))
  where
    cover : (t : ℕ) → In t had ⊎ ((t ≡ y) ⊎ In t left) → In t (x ∷ had) ⊎ In t left
    cover t (inl h) = inl (inr h)
    cover t (inr (inl p)) = inl (inl (p ∙ sym e))
    cover t (inr (inr h)) = inr h

    apart : (z : ℕ) → In z (x ∷ had) → In z left → ⊥
    apart z (inl p) m = n.0 (subst (λ (k : ℕ). In k left) (p ∙ e) m)
    apart z (inr h) m = a z h (inr m)

phase_struck : (l had left : List ℕ) (x : ℕ) → Phase l had left → Phase (without x l) (without x had) (without x left)
phase_struck l had left x (inl f) = inl (λ t m. let w = without_in t x l m in in_without t x had (f t w.0) w.1)
phase_struck l had left x (inr (c, a)) = inr (λ t m. let w = without_in t x l m in cover t w.1 (c t w.0), λ z p q. a z (without_in z x had p).0 (without_in z x left q).0)
  where
    cover : (t : ℕ) → (t ≡ x → ⊥) → In t had ⊎ In t left → In t (without x had) ⊎ In t (without x left)
    cover t n (inl h) = inl (in_without t x had h n)
    cover t n (inr h) = inr (in_without t x left h n)

and_false : (b : Bool) → (b && false) ≡ false
and_false true = refl
and_false false = refl

-- a poll in a turn that runs begins none
again : (list : List ℕ) (s n a x : ℕ) → x ≡ s → begins (seen list (turn s n a)) x ≡ false
again list s n a x e = rw (eqb_eq x s e) (and_false (has x list))

spread : (l had : List ℕ) (list left : List ℕ) (r : Run) (es : List TurnEvent) → Left list left → Acc left r es → Phase l had left → Spread l had (seen list r) es
spread l had list left r [] v c p = tt
spread l had list [] rest (drew m ∷ es) v c p = spread l had m m rest es (whole m c.0) c.1 (inl (ended l had p))
spread l had list (x ∷ left) rest (drew m ∷ es) v c p = absurd c
spread l had list left (turn s n a) (drew m ∷ es) v c p = absurd c
spread l had list left rest (over x ∷ es) v c p = absurd c
spread l had list left (turn s n a) (over x ∷ es) v c p = rw (eqb_eq x s c.0) (spread l had list left rest es v c.1 p)
spread l had list [] rest (poll x ∷ es) v c p = absurd c
spread l had list (y ∷ left) rest (poll x ∷ es) v c p =
    rw (head_on list left x y v c.0)
    (let h = phase_poll l had left x y c.0 v.once p in
    (λ b p t q d. has_in t had (h.0 (in_has x had p) t (in_has t l q) d), spread l (x ∷ had) list left (turn x 1 0) es (fewer list left y v) c.1 h.1))
spread l had list left (turn s n a) (poll x ∷ es) v c p =
    rw (again list s n a x c.0) (λ b p t q d. absurd b, spread l had list left (turn s (suc n) a) es v c.2 p)
spread l had list left rest (ack x ∷ es) v c p = absurd c
spread l had list left (turn s n a) (ack x ∷ es) v c p = spread l had list left (turn s n (suc a)) es v c.2 p
spread l had list left r (struck x ∷ es) v c p =
    subst (λ (run : List ℕ). Spread (without x l) (without x had) (record { list = without x list; run = run }) es) (slots_struck x r)
    (spread (without x l) (without x had) (without x list) (without x left) (run_without x r) es (struck_left list left x v) c (phase_struck l had left x p))

-- ---- an accepted trace keeps the promise

abbrev On : Run → List ℕ → Type 0
On rest l = Unit {0}
On (turn s p a) l = T (has s l)

on_struck : (x : ℕ) (r : Run) (l : List ℕ) → On r l → On (run_without x r) (without x l)
on_struck x rest l o = tt
on_struck x (turn s p a) l o = go (eqb x s) refl
  where
    go : (b : Bool) → eqb x s ≡ b → On (cond b rest (turn s p a)) (without x l)
    go true e = tt
    go false e =
        has_in s (without x l) (in_without s x l (in_has s l o) (λ q. let w : ◌≡◌ {A = Bool} true false = sym (eqb_eq x s (sym q)) ∙ e in let v : ◌≡◌ {A = ℕ} 0 1 = cc in omega arith))

has_one : (x s : ℕ) → x ≡ s → T (has x (s ∷ []))
has_one x s e = rw (eqb_eq x s e) tt

begun_turn : (list left : List ℕ) (x : ℕ) (es : List TurnEvent) → Acc left (turn x 1 0) es → OneTurn (seen list rest) x es
begun_turn list left x es c =
    let h = few left x 1 0 es (omega arith) (omega arith) c in
    record { alone = refl; polls = omega arith; acks = omega arith }

hold : (list left : List ℕ) (r : Run) (es : List TurnEvent) → Left list left → On r list → Acc left r es → TurnsHold (seen list r) es
hold list left r [] v o c = tt
hold list [] rest (drew m ∷ es) v o c =
    (spread m [] m m rest es (whole m c.0) c.1 (inr (λ t h. inr h, λ x h u. h)), hold m m rest es (whole m c.0) tt c.1)
hold list (x ∷ left) rest (drew m ∷ es) v o c = absurd c
hold list left (turn s n a) (drew m ∷ es) v o c = absurd c
hold list left rest (over x ∷ es) v o c = absurd c
hold list left (turn s n a) (over x ∷ es) v o c = (has_one x s c.0, rw (eqb_eq x s c.0) (hold list left rest es v tt c.1))
hold list [] rest (poll x ∷ es) v o c = absurd c
hold list (y ∷ left) rest (poll x ∷ es) v o c =
    let e = head_on list left x y v c.0 in (
      (subst T (sym e) tt, λ b. begun_turn list left x es c.1),
      rw e (hold list left (turn x 1 0) es (fewer list left y v) (subst T (sym e) tt) c.1),
    )
hold list left (turn s n a) (poll x ∷ es) v o c =
    let e = again list s n a x c.0 in (
      (subst (λ (k : ℕ). T (has k list)) (sym c.0) o, λ b. absurd (subst T e b)),
      rw e (hold list left (turn s (suc n) a) es v o c.2),
    )
hold list left rest (ack x ∷ es) v o c = absurd c
hold list left (turn s n a) (ack x ∷ es) v o c = (has_one x s c.0, hold list left (turn s n (suc a)) es v o c.2)
hold list left r (struck x ∷ es) v o c = (
  tt,
  subst (λ (run : List ℕ). TurnsHold (record { list = without x list; run = run }) es) (slots_struck x r)
      (hold (without x list) (without x left) (run_without x r) es (struck_left list left x v) (on_struck x r list o) c),
)

pub accepted : (es : List TurnEvent) → Acc [] rest es → TurnsHold empty_view es
accepted es c = hold [] [] rest es (record { on = λ x h. absurd h; once = tt }) tt c

-- ---- the turn that runs behind an accepted trace

-- as the monitor has it
abbrev run_after : Run → List TurnEvent → Run
run_after r [] = r
run_after r (drew l ∷ es) = run_after r es
run_after r (over x ∷ es) = run_after rest es
run_after rest (poll x ∷ es) = run_after (turn x 1 0) es
run_after (turn s p a) (poll x ∷ es) = run_after (turn s (suc p) a) es
run_after rest (ack x ∷ es) = run_after rest es
run_after (turn s p a) (ack x ∷ es) = run_after (turn s p (suc a)) es
run_after r (struck x ∷ es) = run_after (run_without x r) es

-- the view has it
view_run : (list left : List ℕ) (r : Run) (es : List TurnEvent) → Left list left → Acc left r es → (views (seen list r) es).run ≡ slots (run_after r es)
view_run list left r [] v c = refl
view_run list [] rest (drew m ∷ es) v c = view_run m m rest es (whole m c.0) c.1
view_run list (x ∷ left) rest (drew m ∷ es) v c = absurd c
view_run list left (turn s n a) (drew m ∷ es) v c = absurd c
view_run list left rest (over x ∷ es) v c = absurd c
view_run list left (turn s n a) (over x ∷ es) v c =
    subst (λ (b : Bool). (views (record { list = list; run = cond b [] (s ∷ []) }) es).run ≡ slots (run_after rest es)) (sym (eqb_eq x s c.0)) (view_run list left rest es v c.1)
view_run list [] rest (poll x ∷ es) v c = absurd c
view_run list (y ∷ left) rest (poll x ∷ es) v c =
    subst (λ (b : Bool). (views (record { list = list; run = cond (b && true) (x ∷ []) [] }) es).run ≡ slots (run_after (turn x 1 0) es)) (sym (head_on list left x y v c.0))
    (view_run list left (turn x 1 0) es (fewer list left y v) c.1)
view_run list left (turn s n a) (poll x ∷ es) v c =
    subst (λ (b : Bool). (views (record { list = list; run = cond b (x ∷ s ∷ []) (s ∷ []) }) es).run ≡ slots (run_after (turn s (suc n) a) es)) (sym (again list s n a x c.0))
    (view_run list left (turn s (suc n) a) es v c.2)
view_run list left rest (ack x ∷ es) v c = absurd c
view_run list left (turn s n a) (ack x ∷ es) v c = view_run list left (turn s n (suc a)) es v c.2
view_run list left r (struck x ∷ es) v c =
    subst (λ (run : List ℕ). (views (record { list = without x list; run = run }) es).run ≡ slots (run_after (run_without x r) es)) (slots_struck x r)
    (view_run (without x list) (without x left) (run_without x r) es (struck_left list left x v) c)

-- a turn has a poll at least
abbrev Polled : Run → Type 0
Polled rest = Unit {0}
Polled (turn s p a) = 1 ≤ p

polled_without : (x : ℕ) (r : Run) → Polled r → Polled (run_without x r)
polled_without x rest p = tt
polled_without x (turn s n a) p = go (eqb x s)
  where
    go : (b : Bool) → Polled (cond b rest (turn s n a))
    go true = tt
    go false = p

polled_after : (r : Run) (es : List TurnEvent) → Polled r → Polled (run_after r es)
polled_after r [] p = p
polled_after r (drew l ∷ es) p = polled_after r es p
polled_after r (over x ∷ es) p = polled_after rest es tt
polled_after rest (poll x ∷ es) p = polled_after (turn x 1 0) es (omega arith)
polled_after (turn s n a) (poll x ∷ es) p = polled_after (turn s (suc n) a) es (omega arith)
polled_after rest (ack x ∷ es) p = polled_after rest es p
polled_after (turn s n a) (ack x ∷ es) p = polled_after (turn s n (suc a)) es p
polled_after r (struck x ∷ es) p = polled_after (run_without x r) es (polled_without x r p)

-- what follows an accepted trace is accepted with it
abbrev Follows : Run → List TurnEvent → Type 0
Follows r k = (left : List ℕ) × Acc left r k

following : (left : List ℕ) (r : Run) (es k : List TurnEvent) → Acc left r (es ++ k) → Follows (run_after r es) k
following left r [] k c = (left, c)
following [] rest (drew m ∷ es) k c = following m rest es k c.1
following (x ∷ left) rest (drew m ∷ es) k c = absurd c
following left (turn s n a) (drew m ∷ es) k c = absurd c
following left rest (over x ∷ es) k c = absurd c
following left (turn s n a) (over x ∷ es) k c = following left rest es k c.1
following [] rest (poll x ∷ es) k c = absurd c
following (y ∷ left) rest (poll x ∷ es) k c = following left (turn x 1 0) es k c.1
following left (turn s n a) (poll x ∷ es) k c = following left (turn s (suc n) a) es k c.2
following left rest (ack x ∷ es) k c = absurd c
following left (turn s n a) (ack x ∷ es) k c = following left (turn s n (suc a)) es k c.2
following left r (struck x ∷ es) k c = following (without x left) (run_without x r) es k c

-- two runs behind which the same may follow are of the same slot: an end of the waiting tells a turn, and a list, or five polls, tell that none runs
same_run : (left : List ℕ) (r t : Run) → Polled t → ((k : List TurnEvent) → Acc left r k → Follows t k) → slots t ≡ slots r
same_run left (turn s p a) rest w f = absurd (f (over s ∷ []) (refl, tt)).1
same_run left (turn s p a) (turn x n b) w f = let e = (f (over s ∷ []) (refl, tt)).1.0 in rw (sym e)
same_run left rest rest w f = refl
same_run [] rest (turn x n b) w f = absurd (f (drew [] ∷ []) (tt, tt)).1
same_run (y ∷ left) rest (turn x n b) w f =
    let c = (f (poll y ∷ poll y ∷ poll y ∷ poll y ∷ poll y ∷ []) (refl, (refl, omega arith, (refl, omega arith, (refl, omega arith, (refl, omega arith, tt)))))).1 in
    absurd (let z = c.2.2.2.2.1 in omega arith)

-- a trace behind which all may follow that may follow a run ends in that run, in the view too
pub ends_in : (left : List ℕ) (r : Run) (es : List TurnEvent) → Acc [] rest es → ((k : List TurnEvent) → Acc left r k → Acc [] rest (es ++ k)) → (views empty_view es).run ≡ slots r
ends_in left r es c f =
    view_run [] [] rest es (record { on = λ x h. absurd h; once = tt }) c
    ∙ same_run left r (run_after rest es) (polled_after rest es tt) (λ k h. following [] rest es k (f k h))
