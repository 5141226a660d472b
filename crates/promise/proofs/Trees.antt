-- Relay links as a function from slots to links: an order of the slots in which every relay stands later bounds every chain.
-- Assumes nothing.
use mathlib.Core.Path.{◌≡◌, refl, sym, ap, ◌∙◌, subst}
use mathlib.Core.Logic.{◌⊎◌, inl, inr}
use Prim.Native.Nat.{ℕ, zero, suc, ◌≤◌, ◌<◌}
use native.Mathlib.Omega.{arith}
use native.Mathlib.Decide.{ℕ_discrete}
use mathlib.Core.Bool.{Bool, true, false}
use mathlib.Core.List.{List, [], ◌∷◌, ◌++◌}
use lib.ListN.{length, length-append}
use lib.Dec.{T}

-- ---- lists of slots

abbrev pub In : ℕ → List ℕ → Type 0
In x [] = ⊥
In x (y ∷ l) = (x ≡ y) ⊎ In x l

same? : {X : Type 0} (x y : ℕ) → (x ≡ y → X) → ((x ≡ y → ⊥) → X) → X
same? x y f g = elim (ℕ_discrete x y) [ yes e ↦ f e | no n ↦ g n ]

in_append : (x : ℕ) (l m : List ℕ) → In x l ⊎ In x m → In x (l ++ m)
in_append x [] m (inl h) = absurd h
in_append x [] m (inr h) = h
in_append x (y ∷ l) m (inl (inl e)) = inl e
in_append x (y ∷ l) m (inl (inr h)) = inr (in_append x l m (inl h))
in_append x (y ∷ l) m (inr h) = inr (in_append x l m (inr h))

-- l without r
unless : {x r : ℕ} → Dec (r ≡ x) → List ℕ → List ℕ
unless (yes e) l = l
unless {x} (no n) l = x ∷ l

less : ℕ → List ℕ → List ℕ
unfolding unless
less r [] = []
less r (x ∷ l) = unless (ℕ_discrete r x) (less r l)

in_less : (q r : ℕ) (l : List ℕ) → In q l → (q ≡ r → ⊥) → In q (less r l)
unfolding less unless
in_less q r [] h n = h
in_less q r (x ∷ l) h n = step (ℕ_discrete r x) h (λ (m : In q l). in_less q r l m n)
  where
    step : (d : Dec (r ≡ x)) → (q ≡ x) ⊎ In q l → (In q l → In q (less r l)) → In q (unless d (less r l))
    step (yes e) (inl p) ih = absurd (n (p ∙ sym e))
    step (yes e) (inr m) ih = ih m
    step (no e) (inl p) ih = inl p
    step (no e) (inr m) ih = inr (ih m)

less_le : (r : ℕ) (l : List ℕ) → length (less r l) ≤ length l
unfolding less unless
less_le r [] = omega arith
less_le r (x ∷ l) = step (ℕ_discrete r x) (less_le r l)
  where
    step : (d : Dec (r ≡ x)) → length (less r l) ≤ length l → length (unless d (less r l)) ≤ suc (length l)
    step (yes e) h = omega arith
    step (no e) h = omega arith

less_lt : (r : ℕ) (l : List ℕ) → In r l → suc (length (less r l)) ≤ length l
unfolding less unless
less_lt r [] h = absurd h
less_lt r (x ∷ l) h = step (ℕ_discrete r x) h (λ (m : In r l). less_lt r l m)
  where
    step : (d : Dec (r ≡ x)) → (r ≡ x) ⊎ In r l → (In r l → suc (length (less r l)) ≤ length l) → suc (length (unless d (less r l))) ≤ suc (length l)
    step (yes e) m ih = omega (arith, less_le r l)
    step (no e) (inl p) ih = absurd (e p)
    step (no e) (inr m) ih = omega (arith, ih m)

-- r moved to the end
last : ℕ → List ℕ → List ℕ
unfolding less
last r l = less r l ++ (r ∷ [])

in_last : (r q : ℕ) (l : List ℕ) → In q l → In q (last r l)
unfolding last
in_last r q l h =
    same? q r (λ e. in_append q (less r l) (r ∷ []) (inr (inl e))) (λ n. in_append q (less r l) (r ∷ []) (inl (in_less q r l h n)))

in_last_self : (r : ℕ) (l : List ℕ) → In r (last r l)
unfolding last
in_last_self r l = in_append r (less r l) (r ∷ []) (inr (inl refl))

last_le : (r : ℕ) (l : List ℕ) → In r l → length (last r l) ≤ length l
unfolding last
last_le r l h = rw length-append (omega (arith, less_lt r l h))

-- ---- links

-- what stands in a slot: no member, one without a relay, or one with a relay slot
pub data Link : Type 0 where
  absent : Link
  root : Link
  via : ℕ → Link

-- no member leads nowhere, one without a relay is there, and one with a relay slot leads on
abbrev pub on_link : Link → (ℕ → Bool) → Bool
on_link absent on = false
on_link root on = true
on_link (via r) on = on r

-- from slot i to a member without a relay, in at most k steps
unfoldable pub leads_by : (ℕ → Link) → ℕ → ℕ → Bool
leads_by f zero i = on_link (f i) (λ r. false)
leads_by f (suc k) i = on_link (f i) (λ r. leads_by f k r)

-- ---- links that lead only to later slots of an order

abbrev pub Real : Link → Type 0
Real absent = ⊥
Real root = Unit {0}
Real (via r) = Unit {0}

abbrev Ok : Link → List ℕ → Type 0
Ok absent l = Unit {0}
Ok root l = Unit {0}
Ok (via r) l = In r l

abbrev Good : (ℕ → Link) → List ℕ → Type 0
Good f [] = Unit {0}
Good f (x ∷ l) = Ok (f x) l × Good f l

abbrev RelMem : (ℕ → Link) → Type 0
RelMem f = (x q : ℕ) → f x ≡ via q → Real (f q)

ok_mono : (w : Link) (l m : List ℕ) → ((q : ℕ) → w ≡ via q → In q l → In q m) → Ok w l → Ok w m
ok_mono absent l m h o = tt
ok_mono root l m h o = tt
ok_mono (via r) l m h o = h r refl o

ok_at : {v w : Link} (l : List ℕ) → v ≡ w → Ok w l → Ok v l
ok_at l e o = rw e o

in_pos : (x : ℕ) (l : List ℕ) → In x l → 1 ≤ length l
in_pos x [] h = absurd h
in_pos x (y ∷ l) h = omega arith

lead : (f : ℕ → Link) → RelMem f → (l : List ℕ) → Good f l → (k : ℕ) → length l ≤ suc k → (x : ℕ) → In x l → Real (f x) → T (leads_by f k x)
unfolding leads_by
lead f rm [] g k h x m re = absurd m
lead f rm (y ∷ l) g k h x (inr m) re = lead f rm l g.1 k (omega arith) x m re
lead f rm (y ∷ l) g zero h x (inl e) re = top (f x) (subst (λ (z : ℕ). Ok (f z) l) (sym e) g.0) re
  where
    top : (w : Link) → Ok w l → Real w → T (on_link w (λ r. false))
    top absent o re = re
    top root o re = tt
    top (via q) o re = let z : 1 ≤ length l = in_pos q l o in omega arith
lead f rm (y ∷ l) g (suc k) h x (inl e) re =
    top (f x) refl (subst (λ (z : ℕ). Ok (f z) l) (sym e) g.0) re (λ (q : ℕ) (m : In q l) (r : Real (f q)). lead f rm l g.1 k (omega arith) q m r)
  where
    top : (w : Link) → f x ≡ w → Ok w l → Real w → ((q : ℕ) → In q l → Real (f q) → T (leads_by f k q)) → T (on_link w (λ r. leads_by f k r))
    top absent p o re ih = re
    top root p o re ih = tt
    top (via q) p o re ih = ih q o (rm x q p)

-- ---- the order, kept through every change of the links

pub record Tree (f : ℕ → Link) : Type 0 where
  order : List ℕ
  short : length order ≤ 62
  all : (i : ℕ) → i < 62 → In i order
  good : Good f order
  members : RelMem f

pub tree_leads : {f : ℕ → Link} → Tree f → (i : ℕ) → i < 62 → Real (f i) → T (leads_by f 61 i)
tree_leads {f} t i h re = lead f t.members t.order t.good 61 t.short i (t.all i h) re

real_at : {v w : Link} → v ≡ w → Real w → Real v
real_at e o = rw e o

good_same : (f f' : ℕ → Link) → ((i : ℕ) → (f' i ≡ f i) ⊎ (f' i ≡ root)) → (l : List ℕ) → Good f l → Good f' l
good_same f f' h [] g = tt
good_same f f' h (x ∷ l) g = (step (h x), good_same f f' h l g.1)
  where
    step : (f' x ≡ f x) ⊎ (f' x ≡ root) → Ok (f' x) l
    step (inl e) = rw e g.0
    step (inr e) = rw e tt

-- members may lose their relay
pub tree_cut : (f f' : ℕ → Link) → ((i : ℕ) → (f' i ≡ f i) ⊎ (f' i ≡ root)) → Tree f → Tree f'
tree_cut f f' h t =
    record {
      order = t.order;
      short = t.short;
      all = t.all;
      good = good_same f f' h t.order t.good;
      members = λ x q e. back q (h q) (rel x q e (h x));
    }
  where
    rel : (x q : ℕ) → f' x ≡ via q → (f' x ≡ f x) ⊎ (f' x ≡ root) → Real (f q)
    rel x q e (inl p) = t.members x q (cc)
    rel x q e (inr p) = let z : ◌≡◌ {A = ℕ} 0 1 = cc in absurd (omega arith)

    back : (q : ℕ) → (f' q ≡ f q) ⊎ (f' q ≡ root) → Real (f q) → Real (f' q)
    back q (inl e) r = rw e r
    back q (inr e) r = rw e tt

pub tree_same : (f f' : ℕ → Link) → ((i : ℕ) → f' i ≡ f i) → Tree f → Tree f'
tree_same f f' h t = tree_cut f f' (λ i. inl (h i)) t

-- members may be hung on a member without a relay, which goes to the end of the order
good_hang : (f f' : ℕ → Link) (r : ℕ) → f' r ≡ root → ((i : ℕ) → (f' i ≡ f i) ⊎ (f' i ≡ via r)) → (l : List ℕ) → Good f l → Good f' (last r l)
unfolding last less unless
good_hang f f' r e h [] g = (rw e tt, tt)
good_hang f f' r e h (x ∷ l) g = step (ℕ_discrete r x) (good_hang f f' r e h l g.1)
  where
    ok : (f' x ≡ f x) ⊎ (f' x ≡ via r) → Ok (f' x) (last r l)
    ok (inl p) = rw p (ok_mono (f x) l (last r l) (λ q _ m. in_last r q l m) g.0)
    ok (inr p) = rw p (in_last_self r l)

    step : (d : Dec (r ≡ x)) → Good f' (last r l) → Good f' (unless d (less r l) ++ (r ∷ []))
    step (yes p) ih = ih
    step (no p) ih = (ok (h x), ih)

pub tree_hang : (f f' : ℕ → Link) (r : ℕ) → r < 62 → f' r ≡ root → ((i : ℕ) → (f' i ≡ f i) ⊎ (f' i ≡ via r)) → Tree f → Tree f'
tree_hang f f' r b e h t =
    record {
      order = last r t.order;
      short = let z : length (last r t.order) ≤ length t.order = last_le r t.order (t.all r b) in omega arith;
      all = λ i u. in_last r i t.order (t.all i u);
      good = good_hang f f' r e h t.order t.good;
      members = λ x q p. rel x q p (h x);
    }
  where
    back : (q : ℕ) → (f' q ≡ f q) ⊎ (f' q ≡ via r) → Real (f q) → Real (f' q)
    back q (inl p) u = rw p u
    back q (inr p) u = rw p tt

    rel : (x q : ℕ) → f' x ≡ via q → (f' x ≡ f x) ⊎ (f' x ≡ via r) → Real (f' q)
    rel x q p (inl u) = back q (h q) (t.members x q (cc))
    rel x q p (inr u) = let z : q ≡ r = cc in rw z (rw e tt)

-- a new member goes to the front: no relay leads_by to it yet
abbrev pub NewLink : (ℕ → Link) → Link → Type 0
NewLink f absent = ⊥
NewLink f root = Unit {0}
NewLink f (via v) = (v < 62) × Real (f v)

good_new : (f f' : ℕ → Link) (c : ℕ) → f c ≡ absent → RelMem f → ((i : ℕ) → (i ≡ c → ⊥) → f' i ≡ f i) → (l : List ℕ) → Good f l → Good f' (less c l)
unfolding less unless
good_new f f' c e rm h [] g = tt
good_new f f' c e rm h (x ∷ l) g = step (ℕ_discrete c x) (good_new f f' c e rm h l g.1)
  where
    differs : (q : ℕ) → f x ≡ via q → q ≡ c → ⊥
    differs q p z = subst Real (ap f z ∙ e) (rm x q p)

    step : (d : Dec (c ≡ x)) → Good f' (less c l) → Good f' (unless d (less c l))
    step (yes p) ih = ih
    step (no p) ih = (rw (h x (λ z. p (sym z))) (ok_mono (f x) l (less c l) (λ q z m. in_less q c l m (differs q z)) g.0), ih)

pub tree_new : (f f' : ℕ → Link) (c : ℕ) → c < 62 → f c ≡ absent → NewLink f (f' c) → ((i : ℕ) → (i ≡ c → ⊥) → f' i ≡ f i) → Tree f → Tree f'
tree_new f f' c b e n h t =
    record {
      order = c ∷ less c t.order;
      short = let z : suc (length (less c t.order)) ≤ length t.order = less_lt c t.order (t.all c b) in omega arith;
      all = λ i u. same? i c (λ p. inl p) (λ p. inr (in_less i c t.order (t.all i u) p));
      good = (ok (f' c) n, good_new f f' c e t.members h t.order t.good);
      members = λ x q p. rel x q p;
    }
  where
    ok : (w : Link) → NewLink f w → Ok w (less c t.order)
    ok absent n = tt
    ok root n = tt
    ok (via v) n = in_less v c t.order (t.all v n.0) (λ z. subst Real (ap f z ∙ e) n.1)

    target : (w : Link) (q : ℕ) → w ≡ via q → NewLink f w → Real (f q)
    target absent q p n = absurd n
    target root q p n = let z : ◌≡◌ {A = ℕ} 0 1 = cc in absurd (omega arith)
    target (via v) q p n = let z : q ≡ v = cc in rw z n.1

    old : (x q : ℕ) → f' x ≡ via q → Real (f q)
    old x q p =
        same? x c (λ z. target (f' c) q (ap f' (sym z) ∙ p) n) (λ z. t.members x q (sym (h x z) ∙ p))

    rel : (x q : ℕ) → f' x ≡ via q → Real (f' q)
    rel x q p = same? q c (λ z. absurd (subst Real (ap f z ∙ e) (old x q p))) (λ z. rw (h q z) (old x q p))

-- a member goes: those that it relayed for have no relay any more
pub tree_gone : (f f' : ℕ → Link) (c : ℕ) → f' c ≡ absent → ((i : ℕ) → (i ≡ c → ⊥) → ((f' i ≡ f i) × (f i ≡ via c → ⊥)) ⊎ (f' i ≡ root)) → Tree f → Tree f'
tree_gone f f' c e h t =
    record { order = t.order; short = t.short; all = t.all; good = good_gone t.order t.good; members = λ x q p. rel x q p }
  where
    good_gone : (l : List ℕ) → Good f l → Good f' l
    good_gone [] g = tt
    good_gone (x ∷ l) g = (same? x c (λ z. rw z (rw e tt)) (λ z. step (h x z)), good_gone l g.1)
      where
        step : ((f' x ≡ f x) × (f x ≡ via c → ⊥)) ⊎ (f' x ≡ root) → Ok (f' x) l
        step (inl p) = rw p.0 g.0
        step (inr p) = rw p tt

    back : (q : ℕ) → ((f' q ≡ f q) × (f q ≡ via c → ⊥)) ⊎ (f' q ≡ root) → Real (f q) → Real (f' q)
    back q (inl p) r = real_at p.0 r
    back q (inr p) r = real_at p tt

    from : (x q : ℕ) → f' x ≡ via q → ((f' x ≡ f x) × (f x ≡ via c → ⊥)) ⊎ (f' x ≡ root) → Real (f' q)
    from x q p (inl u) =
        let w : f x ≡ via q = sym u.0 ∙ p in
        back q (h q (λ z. u.1 (w ∙ ap via z))) (t.members x q w)
    from x q p (inr u) = let z : ◌≡◌ {A = ℕ} 0 1 = cc in absurd (omega arith)

    rel : (x q : ℕ) → f' x ≡ via q → Real (f' q)
    rel x q p =
        same? x c (λ z. let u : absent ≡ via q = sym e ∙ ap f' (sym z) ∙ p in let w : ◌≡◌ {A = ℕ} 0 1 = cc in absurd (omega arith)) (λ z. from x q p (h x z))

-- ---- no members

below : ℕ → List ℕ
below zero = []
below (suc n) = n ∷ below n

in_below : (n i : ℕ) → i < n → In i (below n)
unfolding below
in_below zero i h = absurd (omega arith)
in_below (suc n) i h = same? i n (λ e. inl e) (λ e. inr (in_below n i (omega arith)))

below_length : (n : ℕ) → length (below n) ≡ n
unfolding below
below_length zero = refl
below_length (suc n) = ap suc (below_length n)

good_absent : (f : ℕ → Link) → ((i : ℕ) → f i ≡ absent) → (l : List ℕ) → Good f l
good_absent f h [] = tt
good_absent f h (x ∷ l) = (rw (h x) tt, good_absent f h l)

pub tree_none : (f : ℕ → Link) → ((i : ℕ) → f i ≡ absent) → Tree f
tree_none f h =
    record {
      order = below 62;
      short = let z : length (below 62) ≡ 62 = below_length 62 in omega arith;
      all = λ i u. in_below 62 i u;
      good = good_absent f h (below 62);
      members = λ x q e. let z : ◌≡◌ {A = ℕ} 0 1 = cc (h x) in absurd (omega arith);
    }
