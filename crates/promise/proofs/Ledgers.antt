-- The book alone: what a piece covers, what is covered whole; and of one cell, that it lands exactly where all is covered. Assumes nothing.
use mathlib.Core.Path.{◌≡◌, refl, sym, ap, ◌∙◌}
use mathlib.Core.Bool.{Bool, true, false, not, cond, ◌&&◌, ◌||◌}
use mathlib.Core.List.{List}
use mathlib.Core.Logic.{◌⊎◌, inl, inr, ⊎_elim}
use Prim.Native.Nat.{ℕ, zero, suc, ◌+◌, ◌/◌, ◌%◌, ◌≤◌, ◌<◌, zero-le}
use native.Mathlib.Omega.{arith}
use lib.ListN.{length, get_or, take, drop, length-take, length-drop, get_or-replicate}
use lib.Seq.{get_or-take, get_or-drop, length-take-le, ext_get_or}
use lib.Dec.{leb, ltb, eqb}
use borrow.Author.Tests.{leb-true, ltb-true, eqb-true, lt-ltb, le-leb, eq-eqb, ne_eqb}
use Rattle.bits.proofs.Lists.{cases, le_or_lt, eq_or_not, and_true, never_both}
use Rattle.inbox.specs.Cells.{Held, held, offset, size, place_at}
use Rattle.inbox.specs.declared.cell.Cell.{Cell}
use Rattle.inbox.specs.declared.keep.Kept.{Kept}
use Rattle.inbox.specs.declared.keep.Kept.TheVariants.{Needless, Yes, Late, Overlong, Long, NoCell, NoPlace}
use Rattle.inbox.specs.Keeping.{shorter_of, full_of, kept_of}
use Rattle.inbox.specs.Sizes.{message_room, number_limit}
use Rattle.inbox.specs.Messages.{empty, announced, landed, framed, Cut}
use Rattle.inbox.specs.Stores.{body_size, body_of}
use Rattle.inbox.proofs.Joined.{Inv}
use Rattle.inbox.proofs.Search.{place_starts}
use Rattle.promise.specs.Promise.{same, inside, cover, also_handed, all_below}

-- ---- a test of every number below n

all_step : (n : ℕ) (p : ℕ → Bool) → all_below (suc n) p ≡ p n && all_below n p
unfolding all_below
all_step n p = refl

pub all_of : (n : ℕ) (p : ℕ → Bool) → ((i : ℕ) → i < n → p i ≡ true) → all_below n p ≡ true
all_of zero p h = unfold all_below in refl
all_of (suc n) p h = all_step n p ∙ rw (h n (omega arith)) (all_of n p (λ i a. h i (omega arith)))

pub of_all : (n : ℕ) (p : ℕ → Bool) → all_below n p ≡ true → (i : ℕ) → i < n → p i ≡ true
of_all zero p h i a = absurd (omega arith)
of_all (suc n) p h i a =
    let q = and_true (p n) (all_below n p) (sym (all_step n p) ∙ h) in
    ⊎_elim (λ z. ap p z ∙ q.0)
    (λ z. of_all n p q.1 i (⊎_elim (λ w. absurd (z (omega arith))) (λ w. w) (le_or_lt n i))) (eq_or_not i n)

pub none_below : (n : ℕ) → false ≡ all_below (2 + n) (λ i. false)
none_below n =
    ⊎_elim (λ t. absurd (never_both false (of_all (2 + n) (λ i. false) t 0 (omega arith)) refl)) (λ t. sym t)
    (cases (all_below (2 + n) (λ i. false)))

-- ---- what a piece covers

pub same_true : (s k a b : ℕ) → same s k a b ≡ true → (s ≡ a) × (k ≡ b)
same_true s k a b t = let q = and_true (eqb s a) (eqb k b) t in (eqb-true _ _ q.0, eqb-true _ _ q.1)

pub same_self : (s k : ℕ) → same s k s k ≡ true
same_self s k = rw (eq-eqb s s refl) (eq-eqb k k refl)

pub cover_other : (s k o n : ℕ) (f : ℕ → ℕ → ℕ → Bool) (a b : ℕ) → same s k a b ≡ false → cover s k o n f a b ≡ f a b
unfolding cover
cover_other s k o n f a b t = ap {B = ℕ → Bool} (λ (u : Bool) (i : ℕ). cond (u && inside o n i) true (f a b i)) t

pub cover_same : (s k o n : ℕ) (f : ℕ → ℕ → ℕ → Bool) → cover s k o n f s k ≡ (λ i. cond (inside o n i) true (f s k i))
unfolding cover
cover_same s k o n f = ap {B = ℕ → Bool} (λ (u : Bool) (i : ℕ). cond (u && inside o n i) true (f s k i)) (same_self s k)

pub inside_true : (o n i : ℕ) → inside o n i ≡ true → (o ≤ i) × (i < o + n)
inside_true o n i t = let q = and_true (leb o i) (ltb i (o + n)) t in (leb-true _ _ q.0, ltb-true _ _ q.1)

pub inside_of : (o n i : ℕ) → o ≤ i → i < o + n → inside o n i ≡ true
inside_of o n i a b = rw (le-leb o i a) (lt-ltb i (o + n) b)

-- a piece whose bytes are all covered covers nothing new
pub cover_nothing : (s k o n : ℕ) (f : ℕ → ℕ → ℕ → Bool) → ((i : ℕ) → o ≤ i → i < o + n → f s k i ≡ true) → cover s k o n f ≡ f
unfolding cover
cover_nothing s k o n f h = λ j a b i. at a b i (same s k a b && inside o n i) refl j
  where
    at : (a b i : ℕ) (t : Bool) → same s k a b && inside o n i ≡ t → cond t true (f a b i) ≡ f a b i
    at a b i false e = refl
    at a b i true e =
        let w = and_true (same s k a b) (inside o n i) e in
        let q = same_true s k a b w.0 in
        let r = inside_true o n i w.1 in
        sym (ap (λ (x : ℕ). f a x i) (sym q.1) ∙ ap (λ (x : ℕ). f x k i) (sym q.0) ∙ h i r.0 r.1)

pub handed_other : (s k : ℕ) (f : ℕ → ℕ → Bool) (a b : ℕ) → same s k a b ≡ false → also_handed s k f a b ≡ f a b
unfolding also_handed
handed_other s k f a b t = rw t

-- a number more is handed over
pub one_or : (k b : ℕ) (u : Bool) → cond (eqb k b) true u ≡ u || eqb b k
one_or k b u =
    ap (λ (t : Bool). cond t true u) (⊎_elim (λ q. eq-eqb k b q ∙ sym (eq-eqb b k (sym q))) (λ z. ne_eqb k b z ∙ sym (ne_eqb b k (λ q. z (sym q)))) (eq_or_not k b)) ∙ at (eqb b k) u
  where
    at : (t v : Bool) → cond t true v ≡ v || t
    at true true = refl
    at true false = refl
    at false true = refl
    at false false = refl

pub handed_self : (s k : ℕ) (f : ℕ → ℕ → Bool) → also_handed s k f s k ≡ true
unfolding also_handed
handed_self s k f = rw (same_self s k)

-- ---- one cell: it lands exactly where every byte is covered, with the bytes that were sent

abbrev pub Cov : (ℕ → Bool) → ℕ → Type 0
Cov f i = f i ≡ true

-- the bytes of a message, the two of its length among them, that a cell has room for
abbrev pub part_of : List ℕ → List ℕ
part_of body = take 2048 (framed body)

pub part_room : (body : List ℕ) → length (part_of body) ≤ 2048
part_room body = let n = length-take 2048 (framed body) in omega arith

part_within : (body : List ℕ) → length (part_of body) ≤ 2 + length body
part_within body = let n = length-take 2048 (framed body) in omega arith

-- a piece that ends at 2,048 or before is cut from them
pub cut_part : (body : List ℕ) (o : ℕ) (p : List ℕ) → Cut (framed body) o p → o + length p ≤ 2048 → Cut (part_of body) o p
cut_part body o p cut ends =
    record {
      short = cut.short;
      fits = fits;
      same = ext_get_or 0 p (take (length p) (drop o (part_of body)))
          (sym (length-take-le (length p) (drop o (part_of body)) (omega (arith, length-drop o (part_of body), fits)))) at;
    }
  where
    fits : o + length p ≤ length (part_of body)
    fits = let n = length-take 2048 (framed body) in let c = cut.fits in omega arith

    at : (i : ℕ) → i < length p → get_or p i 0 ≡ get_or (take (length p) (drop o (part_of body))) i 0
    at i a =
        ap (λ (q : List ℕ). get_or q i 0) cut.same
        ∙ get_or-take (length p) (drop o (framed body)) i 0 a
        ∙ get_or-drop o (framed body) i 0
        ∙ sym (get_or-take 2048 (framed body) (o + i) 0 (omega arith))
        ∙ sym (get_or-drop o (part_of body) i 0)
        ∙ sym (get_or-take (length p) (drop o (part_of body)) i 0 a)

module _ (body : List ℕ) (small : length body ≤ 65535) (f : ℕ → Bool) (h : Held) (v : Inv (part_of body) (Cov f) h) where
  fresh_end : f h.cell.joined ≡ true → ⊥
  fresh_end c =
      ⊎_elim (λ b. omega arith) (λ p. let q = v.1 p.0 p.1 (omega arith) in omega arith)
      (v.0.all h.cell.joined c)

  says_of : 2 ≤ h.cell.joined → announced h.bytes ≡ length body
  says_of a =
      let b₀ : get_or h.bytes 0 0 ≡ length body % 256 = v.0.same 0 (omega arith) in
      let b₁ : get_or h.bytes 1 0 ≡ length body / 256 % 256 = v.0.same 1 (omega arith) in
      omega arith

  whole_of : landed h ≡ true → h.cell.joined ≡ 2 + length body
  whole_of e =
      let t = and_true (leb 2 h.cell.joined) _ e in
      let a : 2 ≤ h.cell.joined = leb-true _ _ t.0 in
      let b : 2 + announced h.bytes ≤ h.cell.joined = leb-true _ _ t.1 in
      let n = says_of a in
      let w = v.0.within in
      let m = part_within body in
      omega arith

  bytes_at_lem : landed h ≡ true → (i : ℕ) → i < length body → get_or (take (length body) (drop 2 h.bytes)) i 0 ≡ get_or body i 0
  bytes_at_lem e i a =
      let w = whole_of e in
      let m = v.0.within in
      let r = part_room body in
      let q : 2 + i ≡ suc (suc i) = omega arith in
      get_or-take (length body) (drop 2 h.bytes) i 0 a
      ∙ get_or-drop 2 h.bytes i 0
      ∙ v.0.same (2 + i) (omega arith)
      ∙ get_or-take 2048 (framed body) (2 + i) 0 (omega arith)
      ∙ ap (λ (x : ℕ). get_or (framed body) x 0) q

  -- what is read of a landed message
  pub landed_bytes : landed h ≡ true → body_of h.bytes ≡ body
  landed_bytes e =
      let w = whole_of e in
      let r = v.0.room in
      let m = v.0.within in
      let p = part_room body in
      let n : length (take (length body) (drop 2 h.bytes)) ≡ length body =
      length-take-le _ _ (omega (arith, length-drop 2 h.bytes)) in
      let u : announced h.bytes ≡ length body = says_of (omega arith) in
      let s : body_size h.bytes ≡ length body = simp (le-leb (announced h.bytes) 2046 (omega arith)) u in
      ap (λ (x : ℕ). take x (drop 2 h.bytes)) s
      ∙ ext_get_or 0 (take (length body) (drop 2 h.bytes)) body n (λ i a. bytes_at_lem e i (omega arith))

  pub landed_is : landed h ≡ all_below (2 + length body) f
  landed_is =
      ⊎_elim (λ e. let w = whole_of e in e ∙ sym (all_of (2 + length body) f (λ i a. v.0.below i (omega arith))))
      (λ e. e ∙ sym (⊎_elim (λ t. absurd (never_both (landed h) (full t) e)) (λ t. t) (cases (all_below (2 + length body) f))))
      (cases (landed h))
    where
      full : all_below (2 + length body) f ≡ true → landed h ≡ true
      full t =
          let c : 2 + length body ≤ h.cell.joined =
          ⊎_elim (λ b. b) (λ b. absurd (fresh_end (of_all (2 + length body) f t h.cell.joined b))) (le_or_lt (2 + length body) h.cell.joined) in
          let two : 2 ≤ h.cell.joined = omega arith in
          let n = says_of two in
          ap (λ (t : Bool). t && leb (2 + announced h.bytes) h.cell.joined) (le-leb _ _ two) ∙ le-leb (2 + announced h.bytes) h.cell.joined (omega arith)

-- a cell that has just been taken
pub empty_inv : (M bs : List ℕ) (f : ℕ → Bool) → length M ≤ 2048 → 6144 ≤ length bs → ((i : ℕ) → f i ≡ false) → Inv M (Cov f) (empty bs)
empty_inv M bs f small room off = (
  record {
    small = small;
    room = room;
    offs = refl;
    lens = refl;
    within = zero-le;
    same = λ i a. absurd (omega arith);
    below = λ i a. absurd (omega arith);
    waits = λ k a b. absurd (none_waits k a b);
    all = λ i c. absurd (never_both (f i) c (off i));
  },
  λ k a b. absurd (none_waits k a b),
)
  where
    none_waits : (k : ℕ) → k < 16 → 0 < offset (empty bs).cell k + size (empty bs).cell k → ⊥
    none_waits k a b = let z = get_or-replicate {A = ℕ} 16 k 0 0 a in omega arith

-- ---- a piece that changes nothing has all its bytes covered

refused_not : (a b c d e : Bool) → cond a Late (cond b Overlong (cond c Long (cond d NoCell (cond e NoPlace Yes)))) ≡ Needless → ⊥
refused_not true b c d e q = let z : ◌≡◌ {A = ℕ} 0 1 = cc in omega arith
refused_not false true c d e q = let z : ◌≡◌ {A = ℕ} 0 1 = cc in omega arith
refused_not false false true d e q = let z : ◌≡◌ {A = ℕ} 0 1 = cc in omega arith
refused_not false false false true e q = let z : ◌≡◌ {A = ℕ} 0 1 = cc in omega arith
refused_not false false false false true q = let z : ◌≡◌ {A = ℕ} 0 1 = cc in omega arith
refused_not false false false false false q = let z : ◌≡◌ {A = ℕ} 0 1 = cc in omega arith

-- it is empty, or joined, or not longer than one that waits where it starts
needless_by : (a b c : Bool) (r : Kept) → (r ≡ Needless → ⊥) → cond a Needless (cond b Needless (cond c Needless r)) ≡ Needless → (a ≡ true) ⊎ ((b ≡ true) ⊎ (c ≡ true))
needless_by true b c r z q = inl refl
needless_by false true c r z q = inr (inl refl)
needless_by false false true r z q = inr (inr refl)
needless_by false false false r z q = absurd (z q)

pub needless_covered : (F : List ℕ) (f : ℕ → Bool) (x : Cell) (bs : List ℕ) → Inv F (Cov f) (held x bs) → (number o n : ℕ) (over room : Bool)
    → kept_of number o n over room x ≡ Needless → (i : ℕ) → o ≤ i → i < o + n → f i ≡ true
needless_covered F f x bs v number o n over room q i a b =
    ⊎_elim (λ t. let z = eqb-true n 0 t in absurd (omega arith))
    (λ r. ⊎_elim (λ t. let z = leb-true (o + n) x.joined t in v.0.below i (omega arith)) (λ t. waits t) r)
    (needless_by (eqb n 0) (leb (o + n) x.joined) (shorter_of x o n) _
    (refused_not (leb number_limit number) over (ltb message_room (o + n)) (not room) (full_of x o)) q)
  where
    waits : shorter_of x o n ≡ true → f i ≡ true
    waits t =
        let u = and_true (ltb x.joined o && ltb (place_at x o) 16) _ t in
        let y = and_true (ltb x.joined o) _ u.0 in
        let past = ltb-true x.joined o y.0 in
        let low = ltb-true (place_at x o) 16 y.1 in
        let long = leb-true n (size x (place_at x o)) u.1 in
        let starts = place_starts x o low in
        (v.0.waits (place_at x o) low (omega arith)).covered i (omega arith) (omega arith)
