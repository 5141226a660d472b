-- The pieces of one message M, cut from it at the offsets that they name and each kept: whatever their order, overlap and repetition,
-- the joined bytes are those of M up to the first byte that no piece has covered. Assumes nothing.
-- The invariant: `Loose` and `Strict`, below.
use mathlib.Core.Bool.{Bool, true, cond, ◌&&◌}
use mathlib.Core.List.{List, [], ◌∷◌}
use mathlib.Core.Logic.{◌⊎◌, inl, inr, ⊎_elim}
use mathlib.Core.Path.{◌≡◌, refl, sym, ap, ◌∙◌, subst}
use Prim.Native.Nat.{ℕ, zero, suc, ◌+◌, ◌-◌, ◌≤◌, ◌<◌, zero-le}
use native.Mathlib.Omega.{arith}
use lib.Dec.{leb, ltb, eqb}
use lib.ListN.{length, get_or, take, drop, length-set, length-drop, get_or-replicate}
use lib.Seq.{paste, length-paste, get_or-set_same, get_or-set_other, get_or-take, get_or-drop, length-take-le, ext_get_or}
use borrow.Author.Tests.{leb-true, leb-false, ltb-true, ltb-false, eqb-true, eqb-false, le-leb}
use Rattle.bits.proofs.Lists.{and_true, cond_keeps, cases, le_or_lt, eq_or_not, paste_below, paste_in, paste_above}
use Rattle.inbox.specs.Cells.{Held, offset, size, place, grow, rest, settle, store, await, accept, place_at, free_place, next_place}
use Rattle.inbox.specs.Messages.{Piece, empty, accept_all, Covered, Cut, announced, landed, framed}
use Rattle.inbox.proofs.Search.{Goes, place_starts, free_ends, next_finds, next_none}
use Rattle.inbox.proofs.Steps.{goes_next, settle_go, settle_stop}

-- the piece needs no place, or there is one
abbrev pub Room : Held → ℕ → List ℕ → Type 0
Room h o bs = h.cell.joined < o → 0 < length bs → (place_at h.cell o < 16) ⊎ (free_place h.cell < 16)

-- each piece is cut from M, and has room when its turn comes
abbrev pub HasRoom : List ℕ → Held → List Piece → Type 0
HasRoom M h [] = Unit {0}
HasRoom M h (p ∷ ps) = Cut M p.off p.bytes × (Room h p.off p.bytes × HasRoom M (accept h p.off p.bytes) ps)

-- ---- the invariant. C says which bytes the kept pieces have covered

-- the piece at place k is M's, and covered
pub record Waits (M : List ℕ) (C : ℕ → Type 0) (h : Held) (k : ℕ) : Type 0 where
  pub ends : offset h.cell k + size h.cell k ≤ length M
  pub short : size h.cell k ≤ 256
  pub same : (j : ℕ) → j < size h.cell k → get_or h.bytes (place k + j) 0 ≡ get_or M (offset h.cell k + j) 0
  pub covered : (i : ℕ) → offset h.cell k ≤ i → i < offset h.cell k + size h.cell k → C i

-- byte i stands in the piece at some place
abbrev pub AtPlace : Held → ℕ → Type 0
AtPlace h i = (k : ℕ) × (k < 16) × (offset h.cell k ≤ i) × (i < offset h.cell k + size h.cell k)

pub record Loose (M : List ℕ) (C : ℕ → Type 0) (h : Held) : Type 0 where
  pub small : length M ≤ 2048
  pub room : 6144 ≤ length h.bytes
  pub offs : length h.cell.offsets ≡ 16
  pub lens : length h.cell.lengths ≡ 16
  pub within : h.cell.joined ≤ length M
  pub same : (i : ℕ) → i < h.cell.joined → get_or h.bytes i 0 ≡ get_or M i 0
  pub below : (i : ℕ) → i < h.cell.joined → C i
  pub waits : (k : ℕ) → k < 16 → h.cell.joined < offset h.cell k + size h.cell k → Waits M C h k
  pub all : (i : ℕ) → C i → (i < h.cell.joined) ⊎ AtPlace h i

-- no place's piece can be joined yet
abbrev pub Strict : Held → Type 0
Strict h = (k : ℕ) → k < 16 → h.cell.joined < offset h.cell k + size h.cell k → h.cell.joined < offset h.cell k

-- C, and the n bytes from o on
abbrev pub More : (ℕ → Type 0) → ℕ → ℕ → ℕ → Type 0
More C o n i = C i ⊎ ((o ≤ i) × (i < o + n))

-- ---- more is covered, and all of it is joined or waits already
pub same_loose : (M : List ℕ) (C D : ℕ → Type 0) (h : Held) → Loose M C h → ((i : ℕ) → C i → D i)
    → ((i : ℕ) → D i → (i < h.cell.joined) ⊎ AtPlace h i) → Loose M D h
same_loose M C D h l up all =
    record {
      small = l.small;
      room = l.room;
      offs = l.offs;
      lens = l.lens;
      within = l.within;
      same = l.same;
      below = λ i a. up i (l.below i a);
      waits = λ k a b.
          let w = l.waits k a b in
          record { ends = w.ends; short = w.short; same = w.same; covered = λ i p q. up i (w.covered i p q) };
      all = all;
    }

-- ---- bytes of M are joined
pub grow_loose : (M : List ℕ) (C D : ℕ → Type 0) (h : Held) (bs : List ℕ) → Loose M C h
    → h.cell.joined + length bs ≤ length M
    → ((j : ℕ) → j < length bs → get_or bs j 0 ≡ get_or M (h.cell.joined + j) 0)
    → ((i : ℕ) → C i → D i)
    → ((i : ℕ) → h.cell.joined ≤ i → i < h.cell.joined + length bs → D i)
    → ((i : ℕ) → D i → C i ⊎ (i < h.cell.joined + length bs))
    → Loose M D (grow h bs)
unfolding grow
grow_loose M C D h bs l fits eq up new down =
    let e : ℕ = h.cell.joined in
    let n : ℕ = length bs in
    let small : length M ≤ 2048 = l.small in
    let room : 6144 ≤ length h.bytes = l.room in
    let hd : e ≤ length h.bytes = omega arith in
    let hs : n ≤ length bs = omega arith in
    record {
      small = l.small;
      room = subst (λ (x : ℕ). 6144 ≤ x) (sym (length-paste h.bytes e bs n (omega arith) hs)) room;
      offs = l.offs;
      lens = l.lens;
      within = fits;
      same = λ i a.
          ⊎_elim (λ b.
          let q : e + (i - e) ≡ i = omega arith in
          subst (λ (x : ℕ). get_or (paste h.bytes e bs n) x 0 ≡ get_or M x 0) q
          (paste_in h.bytes e bs n hd hs (i - e) (omega arith) ∙ eq (i - e) (omega arith)))
          (λ b. paste_below h.bytes e bs n hd hs i b ∙ l.same i b) (le_or_lt e i);
      below = λ i a. ⊎_elim (λ b. new i b a) (λ b. up i (l.below i b)) (le_or_lt e i);
      waits = λ k a b.
          let w = l.waits k a (omega arith) in
          record {
            ends = w.ends;
            short = w.short;
            same = λ j p. paste_above h.bytes e bs n hd hs (place k + j) (omega arith) ∙ w.same j p;
            covered = λ i p q. up i (w.covered i p q);
          };
      all = λ i d. ⊎_elim (λ c. ⊎_elim (λ b. inl (omega arith)) (λ p. inr p) (l.all i c)) (λ b. inl b) (down i d);
    }

-- ---- a piece of M takes a place, whose old piece lies in what is joined or in the new one
module _ (M : List ℕ) (C : ℕ → Type 0) (h : Held) (l : Loose M C h) (k : ℕ) (hk : k < 16) (o : ℕ) (bs : List ℕ)
    (fits : o + length bs ≤ length M) (short : length bs ≤ 256)
    (eq : (j : ℕ) → j < length bs → get_or bs j 0 ≡ get_or M (o + j) 0)
    (lost : (i : ℕ) → offset h.cell k ≤ i → i < offset h.cell k + size h.cell k → (i < h.cell.joined) ⊎ ((o ≤ i) × (i < o + length bs)))
  where
    here_offset : offset (store h k o bs).cell k ≡ o
    unfolding store
    here_offset = get_or-set_same h.cell.offsets k o 0 (omega (arith, l.offs))

    here_size : size (store h k o bs).cell k ≡ length bs
    unfolding store
    here_size = get_or-set_same h.cell.lengths k (length bs) 0 (omega (arith, l.lens))

    there_offset : (i : ℕ) → (i ≡ k → ⊥) → offset (store h k o bs).cell i ≡ offset h.cell i
    unfolding store
    there_offset i z = get_or-set_other h.cell.offsets k i o 0 z

    there_size : (i : ℕ) → (i ≡ k → ⊥) → size (store h k o bs).cell i ≡ size h.cell i
    unfolding store
    there_size i z = get_or-set_other h.cell.lengths k i (length bs) 0 z

    room_d : place k ≤ length h.bytes
    room_d = omega (arith, l.room)

    here_bytes : (j : ℕ) → j < length bs → get_or (store h k o bs).bytes (place k + j) 0 ≡ get_or bs j 0
    unfolding store
    here_bytes j a = paste_in h.bytes (place k) bs (length bs) room_d (omega arith) j a

    there_bytes : (i : ℕ) → (i ≡ k → ⊥) → (j : ℕ) → j < 256 → get_or (store h k o bs).bytes (place i + j) 0 ≡ get_or h.bytes (place i + j) 0
    unfolding store
    there_bytes i z j a =
        ⊎_elim (λ b.
        ⊎_elim (λ p. absurd (z (omega arith)))
        (λ p. paste_below h.bytes (place k) bs (length bs) room_d (omega arith) (place i + j) (omega arith)) (le_or_lt k i))
        (λ b. paste_above h.bytes (place k) bs (length bs) room_d (omega arith) (place i + j) (omega arith)) (le_or_lt i k)

    joined_bytes : (i : ℕ) → i < 2048 → get_or (store h k o bs).bytes i 0 ≡ get_or h.bytes i 0
    unfolding store
    joined_bytes i a = paste_below h.bytes (place k) bs (length bs) room_d (omega arith) i (omega arith)

    store_room : 6144 ≤ length (store h k o bs).bytes
    unfolding store
    store_room =
        subst (λ (x : ℕ). 6144 ≤ x)
        (sym (length-paste h.bytes (place k) bs (length bs) (omega (arith, l.room)) (omega arith))) l.room

    store_offs : length (store h k o bs).cell.offsets ≡ 16
    unfolding store
    store_offs = length-set h.cell.offsets k o ∙ l.offs

    store_lens : length (store h k o bs).cell.lengths ≡ 16
    unfolding store
    store_lens = length-set h.cell.lengths k (length bs) ∙ l.lens

    store_joined : (store h k o bs).cell.joined ≡ h.cell.joined
    unfolding store
    store_joined = refl

    here_waits : Waits M (More C o (length bs)) (store h k o bs) k
    here_waits =
        let ho = here_offset in
        let hn = here_size in
        record {
          ends = omega arith;
          short = omega arith;
          same = λ j a. here_bytes j (omega arith) ∙ eq j (omega arith) ∙ ap (λ (x : ℕ). get_or M (x + j) 0) (sym ho);
          covered = λ i p q. inr (omega arith, omega arith);
        }

    there_waits : (i : ℕ) → (i ≡ k → ⊥) → Waits M C h i → Waits M (More C o (length bs)) (store h k o bs) i
    there_waits i z w =
        let ho = there_offset i z in
        let hn = there_size i z in
        let s = w.short in
        let e = w.ends in
        record {
          ends = omega arith;
          short = omega arith;
          same = λ j a. there_bytes i z j (omega arith) ∙ w.same j (omega arith) ∙ ap (λ (x : ℕ). get_or M (x + j) 0) (sym ho);
          covered = λ x p q. inl (w.covered x (omega arith) (omega arith));
        }

    pub store_loose : Loose M (More C o (length bs)) (store h k o bs)
    store_loose =
        let small = l.small in
        let within = l.within in
        let sj = store_joined in
        record {
          small = l.small;
          room = store_room;
          offs = store_offs;
          lens = store_lens;
          within = omega arith;
          same = λ i a. joined_bytes i (omega arith) ∙ l.same i (omega arith);
          below = λ i a. inl (l.below i (omega arith));
          waits = λ i a b.
              ⊎_elim (λ q. subst (λ (x : ℕ). Waits M (More C o (length bs)) (store h k o bs) x) (sym q) here_waits)
              (λ z.
              let ho = there_offset i z in
              let hn = there_size i z in
              there_waits i z (l.waits i a (omega arith)))
              (eq_or_not i k);
          all = λ i d.
              ⊎_elim (λ c.
              ⊎_elim (λ b. inl (omega arith))
              (λ p.
              ⊎_elim (λ q.
              ⊎_elim (λ b. inl (omega arith))
              (λ b. inr (new i b))
              (lost i (subst (λ (x : ℕ). offset h.cell x ≤ i) q p.2) (subst (λ (x : ℕ). i < offset h.cell x + size h.cell x) q p.3)))
              (λ z. inr (old i p.0 z p.1 p.2 p.3))
              (eq_or_not p.0 k))
              (l.all i c))
              (λ b. inr (new i b)) d;
        }
      where
        new : (i : ℕ) → (o ≤ i) × (i < o + length bs) → AtPlace (store h k o bs) i
        new i b = let ho = here_offset in let hn = here_size in (k, hk, omega arith, omega arith)

        old : (i x : ℕ) → (x ≡ k → ⊥) → x < 16 → offset h.cell x ≤ i → i < offset h.cell x + size h.cell x → AtPlace (store h k o bs) i
        old i x z a p q = let ho = there_offset x z in let hn = there_size x z in (x, a, omega arith, omega arith)

    pub store_strict : h.cell.joined < o → Strict h → Strict (store h k o bs)
    store_strict past s i a b =
        let sj = store_joined in
        ⊎_elim (λ q. let ho : offset (store h k o bs).cell i ≡ o = ap (offset (store h k o bs).cell) q ∙ here_offset in omega arith)
        (λ z.
        let ho = there_offset i z in
        let hn = there_size i z in
        let r = s i a (omega arith) in
        omega arith)
        (eq_or_not i k)

-- ---- the pieces that have come into reach are joined
module _ (M : List ℕ) (C : ℕ → Type 0) where
  -- what a piece that goes has from the joined end on
  rest_length : (h : Held) → Loose M C h → (k : ℕ) → k < 16 → Goes h.cell k
      → length (rest h k) ≡ offset h.cell k + size h.cell k - h.cell.joined
  rest_length h l k a g =
      let w = l.waits k a g.1 in
      let room = l.room in
      let short = w.short in
      let d = length-drop (place k + (h.cell.joined - offset h.cell k)) h.bytes in
      length-take-le _ _ (omega arith)

  rest_same : (h : Held) → Loose M C h → (k : ℕ) → k < 16 → Goes h.cell k
      → (j : ℕ) → j < length (rest h k) → get_or (rest h k) j 0 ≡ get_or M (h.cell.joined + j) 0
  rest_same h l k a g j b =
      let w = l.waits k a g.1 in
      let n = rest_length h l k a g in
      let from : ℕ = h.cell.joined - offset h.cell k in
      let p : place k + from + j ≡ place k + (from + j) = omega arith in
      let q : offset h.cell k + (from + j) ≡ h.cell.joined + j = omega arith in
      get_or-take (offset h.cell k + size h.cell k - h.cell.joined) (drop (place k + from) h.bytes) j 0 (omega arith)
      ∙ get_or-drop (place k + from) h.bytes j 0
      ∙ ap (λ (x : ℕ). get_or h.bytes x 0) p
      ∙ w.same (from + j) (omega arith)
      ∙ ap (λ (x : ℕ). get_or M x 0) q

  rest_loose : (h : Held) → Loose M C h → (k : ℕ) → k < 16 → Goes h.cell k → Loose M C (grow h (rest h k))
  rest_loose h l k a g =
      let w = l.waits k a g.1 in
      let n = rest_length h l k a g in
      let e = w.ends in
      grow_loose M C C h (rest h k) l (omega arith) (rest_same h l k a g) (λ i c. c)
      (λ i p q. w.covered i (omega arith) (omega arith)) (λ i c. inl c)

  stops : (h : Held) → Loose M C h → 16 ≤ next_place h.cell → Strict h
  stops h l a k b r =
      let w = (l.waits k b r).ends in
      let m = l.small in
      let q : next_place h.cell ≡ 16 = ⊎_elim (λ q. q) (λ w. absurd (omega arith)) (next_finds 16 h.cell 0 16 0) in
      ⊎_elim (λ p. absurd (next_none 16 h.cell 0 (omega arith) q k zero-le (omega arith) (p, r, omega arith))) (λ p. p)
      (le_or_lt (offset h.cell k) h.cell.joined)

  grown : (h : Held) (bs : List ℕ) → (grow h bs).cell.joined ≡ h.cell.joined + length bs
  unfolding grow
  grown h bs = refl

  pub settle_settled : (n : ℕ) (h : Held) → Loose M C h → 2048 ≤ n + h.cell.joined → Loose M C (settle n h) × Strict (settle n h)
  settle_settled zero h l a =
      unfold settle in (l, λ k b r. let w = l.waits k b r in let s = l.small in let e = w.ends in absurd (omega arith))
  settle_settled (suc n) h l a =
      ⊎_elim (λ e.
      let k : ℕ = next_place h.cell in
      let b : next_place h.cell < 16 = ltb-true _ _ e in
      let g = goes_next h.cell b in
      let r = rest_length h l (next_place h.cell) b g in
      let m = grown h (rest h (next_place h.cell)) in
      subst (λ (x : Held). Loose M C x × Strict x) (sym (settle_go n h e))
      (settle_settled n (grow h (rest h (next_place h.cell))) (rest_loose h l (next_place h.cell) b g) (omega arith)))
      (λ e. subst (λ (x : Held). Loose M C x × Strict x) (sym (settle_stop (suc n) h e)) (l, stops h l (ltb-false _ _ e)))
      (cases (ltb (next_place h.cell) 16))

-- ---- one piece

abbrev pub Inv : List ℕ → (ℕ → Type 0) → Held → Type 0
Inv M C h = Loose M C h × Strict h

module _ (M : List ℕ) (C : ℕ → Type 0) (h : Held) (l : Loose M C h) (s : Strict h) (o : ℕ) (bs : List ℕ) (cut : Cut M o bs) (room : Room h o bs) where
  cut_same : (j : ℕ) → j < length bs → get_or bs j 0 ≡ get_or M (o + j) 0
  cut_same j a =
      ap (λ (x : List ℕ). get_or x j 0) cut.same ∙ get_or-take (length bs) (drop o M) j 0 a ∙ get_or-drop o M j 0

  -- joined already
  old_inv : o + length bs ≤ h.cell.joined → Inv M (More C o (length bs)) h
  old_inv a =
      (same_loose M C (More C o (length bs)) h l (λ i c. inl c) (λ i d. ⊎_elim (λ c. l.all i c) (λ b. inl (omega arith)) d), s)

  empty_inv : length bs ≡ 0 → Inv M (More C o (length bs)) h
  empty_inv a =
      (same_loose M C (More C o (length bs)) h l (λ i c. inl c) (λ i d. ⊎_elim (λ c. l.all i c) (λ b. absurd (omega arith)) d), s)

  -- joined now
  join_inv : h.cell.joined < o + length bs → o ≤ h.cell.joined
      → Inv M (More C o (length bs)) (settle 2048 (grow h (drop (h.cell.joined - o) bs)))
  join_inv a b =
      let fits = cut.fits in
      let n = length-drop (h.cell.joined - o) bs in
      settle_settled M (More C o (length bs)) 2048 (grow h (drop (h.cell.joined - o) bs))
      (grow_loose M C (More C o (length bs)) h (drop (h.cell.joined - o) bs) l (omega arith)
      (λ j p.
      let q : o + (h.cell.joined - o + j) ≡ h.cell.joined + j = omega arith in
      get_or-drop (h.cell.joined - o) bs j 0
      ∙ cut_same (h.cell.joined - o + j) (omega arith)
      ∙ ap (λ (x : ℕ). get_or M x 0) q)
      (λ i c. inl c) (λ i p q. inr (omega arith, omega arith)) (λ i d. ⊎_elim (λ c. inl c) (λ w. inr (omega arith)) d))
      (omega arith)

  -- put to wait
  store_inv : h.cell.joined < o → (k : ℕ) → k < 16
      → ((i : ℕ) → offset h.cell k ≤ i → i < offset h.cell k + size h.cell k → (i < h.cell.joined) ⊎ ((o ≤ i) × (i < o + length bs)))
      → Inv M (More C o (length bs)) (store h k o bs)
  store_inv a k b lost = (
    store_loose M C h l k b o bs cut.fits (omega (arith, cut.short)) cut_same lost,
    store_strict M C h l k b o bs cut.fits (omega (arith, cut.short)) cut_same lost a s,
  )

  await_inv : h.cell.joined < o → 0 < length bs → Inv M (More C o (length bs)) (await h o bs)
  unfolding await
  await_inv a m =
      cond_keeps (Inv M (More C o (length bs))) (ltb i 16)
      (cond (ltb (size h.cell i) (length bs)) (store h i o bs) h)
      (cond (ltb j 16) (store h j o bs) h)
      (λ e.
      let x : i < 16 = ltb-true _ _ e in
      let q = place_starts h.cell o x in
      cond_keeps (Inv M (More C o (length bs))) (ltb (size h.cell i) (length bs)) (store h i o bs) h
      (λ f.
      let z : size h.cell i < length bs = ltb-true _ _ f in
      store_inv a i x (λ b u v. inr (omega arith, omega arith)))
      (λ f.
      let z : length bs ≤ size h.cell i = ltb-false _ _ f in (
        same_loose M C (More C o (length bs)) h l (λ b c. inl c)
            (λ b d. ⊎_elim (λ c. l.all b c) (λ w. inr (i, x, omega arith, omega arith)) d),
        s,
      )))
      (λ e.
      let y : 16 ≤ i = ltb-false _ _ e in
      let x : j < 16 = ⊎_elim (λ p. absurd (omega arith)) (λ p. p) (room a m) in
      let q = free_ends h.cell x in
      cond_keeps (Inv M (More C o (length bs))) (ltb j 16) (store h j o bs) h
      (λ f. store_inv a j x (λ b u v. inl (omega arith)))
      (λ f. let z : 16 ≤ j = ltb-false _ _ f in absurd (omega arith)))
    where
      i : ℕ
      i = place_at h.cell o

      j : ℕ
      j = free_place h.cell

  pub accept_inv : Inv M (More C o (length bs)) (accept h o bs)
  unfolding accept
  accept_inv =
      cond_keeps (Inv M (More C o (length bs))) (leb (o + length bs) h.cell.joined) h (cond (eqb (length bs) 0) h most)
      (λ e. old_inv (leb-true _ _ e))
      (λ e.
      cond_keeps (Inv M (More C o (length bs))) (eqb (length bs) 0) h most
      (λ f. empty_inv (eqb-true _ _ f))
      (λ f.
      cond_keeps (Inv M (More C o (length bs))) (leb o h.cell.joined) (settle 2048 (grow h (drop (h.cell.joined - o) bs))) (await h o bs)
      (λ g. join_inv (leb-false _ _ e) (leb-true _ _ g))
      (λ g. await_inv (leb-false _ _ g) (some (eqb-false _ _ f)))))
    where
      most : Held
      most = cond (leb o h.cell.joined) (settle 2048 (grow h (drop (h.cell.joined - o) bs))) (await h o bs)

      some : (length bs ≡ 0 → ⊥) → 0 < length bs
      some z = ⊎_elim (λ p. absurd (z (omega arith))) (λ p. p) (le_or_lt (length bs) 0)

-- ---- any number of pieces

pub accept_all_inv : (M : List ℕ) (C : ℕ → Type 0) (h : Held) (ps : List Piece) → Inv M C h → HasRoom M h ps
    → Inv M (λ i. C i ⊎ Covered ps i) (accept_all h ps)
accept_all_inv M C h [] v k =
    (same_loose M C (λ i. C i ⊎ ⊥) h v.0 (λ i c. inl c) (λ i d. ⊎_elim (λ c. v.0.all i c) (λ b. absurd b) d), v.1)
accept_all_inv M C h (p ∷ ps) v k =
    let one = accept_inv M C h v.0 v.1 p.off p.bytes k.0 k.1.0 in
    let w = accept_all_inv M (More C p.off (length p.bytes)) (accept h p.off p.bytes) ps one k.1.1 in (
      same_loose M (λ i. More C p.off (length p.bytes) i ⊎ Covered ps i) (λ i. C i ⊎ Covered (p ∷ ps) i)
          (accept_all h (p ∷ ps)) w.0
          (λ i c. ⊎_elim (λ a. ⊎_elim (λ b. inl b) (λ b. inr (inl b)) a) (λ a. inr (inr a)) c)
          (λ i d. w.0.all i (⊎_elim (λ a. inl (inl a)) (λ a. ⊎_elim (λ b. inl (inr b)) (λ b. inr b) a) d)),
      w.1,
    )

empty_inv₀ : (M bs : List ℕ) → length M ≤ 2048 → 6144 ≤ length bs → Inv M (λ i. ⊥) (empty bs)
empty_inv₀ M bs small room = (
  record {
    small = small;
    room = room;
    offs = refl;
    lens = refl;
    within = zero-le;
    same = λ i a. absurd (omega arith);
    below = λ i a. absurd (omega arith);
    waits = λ k a b. absurd (none k a b);
    all = λ i c. absurd c;
  },
  λ k a b. absurd (none k a b),
)
  where
    none : (k : ℕ) → k < 16 → 0 < offset (empty bs).cell k + size (empty bs).cell k → ⊥
    none k a b = let z = get_or-replicate {A = ℕ} 16 k 0 0 a in omega arith

-- The joined bytes are M's up to e, every byte below e is covered, and e is not: e is the first byte that is not covered, or M's end.
pub record Prefix (M : List ℕ) (ps : List Piece) (h : Held) : Type 0 where
  pub room : 6144 ≤ length h.bytes
  pub within : h.cell.joined ≤ length M
  pub bytes : take h.cell.joined h.bytes ≡ take h.cell.joined M
  pub below : (i : ℕ) → i < h.cell.joined → Covered ps i
  pub first : Covered ps h.cell.joined → ⊥

pub joined_is : (M bs : List ℕ) (ps : List Piece) → length M ≤ 2048 → 6144 ≤ length bs → HasRoom M (empty bs) ps
    → Prefix M ps (accept_all (empty bs) ps)
joined_is M bs ps small room kept =
    let v = accept_all_inv M (λ i. ⊥) (empty bs) ps (empty_inv₀ M bs small room) kept in
    let l = v.0 in
    prefix_of (accept_all (empty bs) ps) l v.1
  where
    prefix_of : (h : Held) → Loose M (λ i. ⊥ ⊎ Covered ps i) h → Strict h → Prefix M ps h
    prefix_of h l s =
        let w = l.within in
        let r = l.room in
        let m = l.small in
        let e : ℕ = h.cell.joined in
        let ln : length (take h.cell.joined h.bytes) ≡ h.cell.joined = length-take-le _ _ (omega arith) in
        let lm : length (take h.cell.joined M) ≡ h.cell.joined = length-take-le _ _ w in
        record {
          room = r;
          within = w;
          bytes =
              ext_get_or 0 (take h.cell.joined h.bytes) (take h.cell.joined M) (ln ∙ sym lm)
              (λ i a. get_or-take h.cell.joined h.bytes i 0 (omega arith) ∙ l.same i (omega arith) ∙ sym (get_or-take h.cell.joined M i 0 (omega arith)));
          below = λ i a. ⊎_elim (λ b. absurd b) (λ c. c) (l.below i a);
          first = λ c.
              ⊎_elim (λ b. omega arith)
              (λ p. let q = s p.0 p.1 (omega arith) in omega arith)
              (l.all h.cell.joined (inr c));
        }

-- The message lands exactly where its last byte is covered, with the bytes that were sent.
pub record Lands (body : List ℕ) (ps : List Piece) (h : Held) : Type 0 where
  pub whole : landed h ≡ true → (i : ℕ) → i < 2 + length body → Covered ps i
  pub lands : ((i : ℕ) → i < 2 + length body → Covered ps i) → landed h ≡ true
  pub says : landed h ≡ true → announced h.bytes ≡ length body
  pub bytes : landed h ≡ true → take (length body) (drop 2 h.bytes) ≡ body

module _ (body : List ℕ) (small : length body ≤ 2046) (ps : List Piece) (h : Held) (p : Prefix (framed body) ps h) where
  at : (i : ℕ) → i < h.cell.joined → get_or h.bytes i 0 ≡ get_or (framed body) i 0
  at i a =
      sym (get_or-take h.cell.joined h.bytes i 0 a)
      ∙ ap (λ (l : List ℕ). get_or l i 0) p.bytes
      ∙ get_or-take h.cell.joined (framed body) i 0 a

  says_of : 2 ≤ h.cell.joined → announced h.bytes ≡ length body
  says_of a = let b₀ = at 0 (omega arith) in let b₁ = at 1 (omega arith) in omega arith

  whole_of : landed h ≡ true → h.cell.joined ≡ 2 + length body
  whole_of e =
      let t = and_true (leb 2 h.cell.joined) _ e in
      let a : 2 ≤ h.cell.joined = leb-true _ _ t.0 in
      let b : 2 + announced h.bytes ≤ h.cell.joined = leb-true _ _ t.1 in
      let n = says_of a in
      let w = p.within in
      omega arith

  bytes_of_lem : landed h ≡ true → (i : ℕ) → i < length body → get_or (take (length body) (drop 2 h.bytes)) i 0 ≡ get_or body i 0
  bytes_of_lem e i a =
      let w = whole_of e in
      let q : 2 + i ≡ suc (suc i) = omega arith in
      get_or-take (length body) (drop 2 h.bytes) i 0 a
      ∙ get_or-drop 2 h.bytes i 0
      ∙ at (2 + i) (omega arith)
      ∙ ap (λ (x : ℕ). get_or (framed body) x 0) q

  lands_of : 2048 ≤ length h.bytes → Lands body ps h
  lands_of room =
      record {
        whole = λ e i a. let w = whole_of e in p.below i (omega arith);
        lands = λ all.
            let c : 2 + length body ≤ h.cell.joined =
            ⊎_elim (λ b. b) (λ b. absurd (p.first (all h.cell.joined b))) (le_or_lt (2 + length body) h.cell.joined) in
            let two : 2 ≤ h.cell.joined = omega arith in
            let n = says_of two in
            ap (λ (t : Bool). t && leb (2 + announced h.bytes) h.cell.joined) (le-leb _ _ two) ∙ le-leb (2 + announced h.bytes) h.cell.joined (omega arith);
        says = λ e. let w = whole_of e in says_of (omega arith);
        bytes = λ e.
            let n : length (take (length body) (drop 2 h.bytes)) ≡ length body =
            length-take-le _ _ (omega (arith, length-drop 2 h.bytes)) in
            ext_get_or 0 (take (length body) (drop 2 h.bytes)) body n (λ i a. bytes_of_lem e i (omega arith));
      }

pub lands_exactly : (body bs : List ℕ) (ps : List Piece) → length body ≤ 2046 → 6144 ≤ length bs → HasRoom (framed body) (empty bs) ps
    → Lands body ps (accept_all (empty bs) ps)
lands_exactly body bs ps small room kept =
    let p = joined_is (framed body) bs ps (omega arith) room kept in
    lands_of body small ps (accept_all (empty bs) ps) p (omega (arith, p.room))
