-- What a piece would show of its message's length, by the bytes that the code looks at. Assumes nothing.
use mathlib.Core.Bool.{false, cond}
use mathlib.Core.List.{List, [], ◌∷◌, ◌++◌}
use mathlib.Core.Logic.{⊎_elim}
use mathlib.Core.Path.{◌≡◌, refl, sym, ap, ◌∙◌, subst}
use Prim.Native.Nat.{ℕ, zero, suc, ◌+◌, ◌-◌, ◌*◌, ◌≤◌, ◌<◌}
use native.Mathlib.Omega.{arith}
use lib.Dec.{leb, ltb, eqb}
use lib.ListN.{length, get_or, take, drop, length-append, length-take, length-drop, get_or-append}
use lib.Seq.{paste, get_or-take, get_or-drop}
use borrow.Author.Tests.{lt-ltb, le-ltb, le-leb, lt-leb}
use Rattle.bits.proofs.Lists.{cond_keeps, le_or_lt, eq_or_not, paste_in, paste_above}
use Rattle.inbox.specs.declared.cell.Cell.{Cell}
use Rattle.inbox.specs.Cells.{Held, held, offset, size, end_at, place, grow, rest, settle, store, await, accept, place_at, free_place, next, next_place}
use Rattle.inbox.specs.Messages.{empty_cell, empty, claims, shows_of}
use Rattle.inbox.proofs.Steps.{grown_to, goes_at, settle_go, settle_stop, accept_old, accept_empty, accept_join, accept_wait, join_step}

-- the first two bytes are joined, and are x and y
pub record Begins (x y : ℕ) (h : Held) : Type 0 where
  pub joined : 2 ≤ h.cell.joined
  pub long : 2 ≤ length h.bytes
  pub first : get_or h.bytes 0 0 ≡ x
  pub second : get_or h.bytes 1 0 ≡ y

pub begins_claims : (x y : ℕ) (h : Held) → Begins x y h → claims h ≡ ltb 2046 (x + 256 * y)
begins_claims x y h b = rw (le-leb 2 h.cell.joined b.joined, b.first, b.second)

pub short_claims : (h : Held) → h.cell.joined < 2 → claims h ≡ false
short_claims h l = rw (lt-leb 2 h.cell.joined l)

-- ---- bytes written from `at` on leave those before

part_long : (d : List ℕ) (at m : ℕ) → m ≤ at → m ≤ length d → m ≤ length (take at d)
part_long d at m a l = subst (λ (x : ℕ). m ≤ x) (sym (length-take at d)) (omega arith)

front : (d s : List ℕ) (at n i : ℕ) → i < at → i < length d → get_or (paste d at s n) i 0 ≡ get_or d i 0
front d s at n i a l =
    let t = part_long d at (i + 1) (omega arith) (omega arith) in
    let m = length-append (take at d) (take n s) in
    get_or-append (take at d ++ take n s) (drop (at + n) d) 0 i (omega arith)
    ∙ get_or-append (take at d) (take n s) 0 i (omega arith)
    ∙ get_or-take at d i 0 a

front_long : (d s : List ℕ) (at n : ℕ) → 2 ≤ at → 2 ≤ length d → 2 ≤ length (paste d at s n)
front_long d s at n a l =
    let t = part_long d at 2 a l in
    let m = length-append (take at d) (take n s) in
    let k = length-append (take at d ++ take n s) (drop (at + n) d) in
    omega arith

module _ (x y : ℕ) where
  grow_begins : (h : Held) (s : List ℕ) → Begins x y h → Begins x y (grow h s)
  unfolding grow
  grow_begins h s b =
      record {
        joined = omega arith;
        long = front_long h.bytes s h.cell.joined (length s) b.joined b.long;
        first = front h.bytes s h.cell.joined (length s) 0 (omega arith) (omega arith) ∙ b.first;
        second = front h.bytes s h.cell.joined (length s) 1 (omega arith) (omega arith) ∙ b.second;
      }

  store_begins : (h : Held) (k o : ℕ) (p : List ℕ) → Begins x y h → Begins x y (store h k o p)
  unfolding store
  store_begins h k o p b =
      record {
        joined = b.joined;
        long = front_long h.bytes p (place k) (length p) (omega arith) b.long;
        first = front h.bytes p (place k) (length p) 0 (omega arith) (omega arith) ∙ b.first;
        second = front h.bytes p (place k) (length p) 1 (omega arith) (omega arith) ∙ b.second;
      }

  pub settle_begins : (n : ℕ) (h : Held) → Begins x y h → Begins x y (settle n h)
  unfolding settle
  settle_begins zero h b = b
  settle_begins (suc n) h b =
      cond_keeps (Begins x y) (ltb (next_place h.cell) 16) (settle n (grow h (rest h (next_place h.cell)))) h
      (λ e. settle_begins n (grow h (rest h (next_place h.cell))) (grow_begins h (rest h (next_place h.cell)) b))
      (λ e. b)

  await_begins : (h : Held) (o : ℕ) (p : List ℕ) → Begins x y h → Begins x y (await h o p)
  unfolding await
  await_begins h o p b =
      cond_keeps (Begins x y) (ltb (place_at h.cell o) 16)
      (cond (ltb (size h.cell (place_at h.cell o)) (length p)) (store h (place_at h.cell o) o p) h)
      (cond (ltb (free_place h.cell) 16) (store h (free_place h.cell) o p) h)
      (λ a.
      cond_keeps (Begins x y) (ltb (size h.cell (place_at h.cell o)) (length p)) (store h (place_at h.cell o) o p) h
      (λ e. store_begins h (place_at h.cell o) o p b) (λ e. b))
      (λ a.
      cond_keeps (Begins x y) (ltb (free_place h.cell) 16) (store h (free_place h.cell) o p) h
      (λ e. store_begins h (free_place h.cell) o p b) (λ e. b))

  -- no piece changes two bytes that are joined
  pub accept_begins : (h : Held) (o : ℕ) (p : List ℕ) → Begins x y h → Begins x y (accept h o p)
  unfolding accept
  accept_begins h o p b =
      cond_keeps (Begins x y) (leb (o + length p) h.cell.joined) h
      (cond (eqb (length p) 0) h (cond (leb o h.cell.joined) joins (await h o p))) (λ e. b)
      (λ e.
      cond_keeps (Begins x y) (eqb (length p) 0) h (cond (leb o h.cell.joined) joins (await h o p)) (λ q. b)
      (λ q.
      cond_keeps (Begins x y) (leb o h.cell.joined) joins (await h o p)
      (λ r. settle_begins 2048 (grow h (drop (h.cell.joined - o) p)) (grow_begins h (drop (h.cell.joined - o) p) b))
      (λ r. await_begins h o p b)))
    where
      joins : Held
      joins = settle 2048 (grow h (drop (h.cell.joined - o) p))

await_joined : (h : Held) (o : ℕ) (p : List ℕ) → (await h o p).cell.joined ≡ h.cell.joined
unfolding await store
await_joined h o p =
    cond_keeps Same (ltb (place_at h.cell o) 16)
    (cond (ltb (size h.cell (place_at h.cell o)) (length p)) (store h (place_at h.cell o) o p) h)
    (cond (ltb (free_place h.cell) 16) (store h (free_place h.cell) o p) h)
    (λ a. cond_keeps Same (ltb (size h.cell (place_at h.cell o)) (length p)) (store h (place_at h.cell o) o p) h (λ e. refl) (λ e. refl))
    (λ a. cond_keeps Same (ltb (free_place h.cell) 16) (store h (free_place h.cell) o p) h (λ e. refl) (λ e. refl))
  where
    Same : Held → Type 0
    Same k = k.cell.joined ≡ h.cell.joined

-- ---- by what is joined, and where the piece starts and ends

module _ (c : Cell) (bs : List ℕ) (o : ℕ) (p : List ℕ) where
  pub shows_two : 2 ≤ c.joined → 2 ≤ length bs → shows_of (held c bs) o p ≡ ltb 2046 (get_or bs 0 0 + 256 * get_or bs 1 0)
  unfolding shows_of
  shows_two a l =
      begins_claims (get_or bs 0 0) (get_or bs 1 0) (accept (held c bs) o p)
      (accept_begins (get_or bs 0 0) (get_or bs 1 0) (held c bs) o p (record { joined = a; long = l; first = refl; second = refl }))

  pub shows_old : c.joined < 2 → o + length p ≤ c.joined → shows_of (held c bs) o p ≡ false
  unfolding shows_of
  shows_old l h = ap claims (accept_old c bs o p h) ∙ short_claims (held c bs) l

  pub shows_wait : c.joined < 2 → c.joined < o → shows_of (held c bs) o p ≡ false
  unfolding shows_of
  shows_wait l h =
      ⊎_elim
      (λ z. ap claims (accept_empty c bs o p (omega arith) z) ∙ short_claims (held c bs) l)
      (λ z.
      let e = accept_wait c bs o p (omega arith) z h in
      let j = await_joined (held c bs) o p in
      ap claims e ∙ short_claims (await (held c bs) o p) (omega arith))
      (eq_or_not (length p) 0)

  -- the piece brings the second byte
  pub shows_here : c.joined < 2 → o ≤ c.joined → 2 ≤ o + length p → c.joined ≤ length bs → (x : ℕ)
      → (c.joined ≡ 1 → get_or bs 0 0 ≡ x) → (c.joined ≡ 0 → get_or p 0 0 ≡ x)
      → shows_of (held c bs) o p ≡ ltb 2046 (x + 256 * get_or p (1 - o) 0)
  unfolding shows_of grow
  shows_here l a e r x one none =
      ap claims (accept_join c bs o p (omega arith) (λ z. omega arith) a)
      ∙ begins_claims x (get_or p (1 - o) 0) (settle 2048 (grow (held c bs) s)) (settle_begins x (get_or p (1 - o) 0) 2048 (grow (held c bs) s) starts)
    where
      s : List ℕ
      s = drop (c.joined - o) p

      long : length s ≡ length p - (c.joined - o)
      long = length-drop (c.joined - o) p

      at : (i : ℕ) → c.joined ≤ i → i < 2 → get_or (paste bs c.joined s (length s)) i 0 ≡ get_or p (i - o) 0
      at i b d =
          let n = long in
          let q : i ≡ c.joined + (i - c.joined) = omega arith in
          let t : c.joined - o + (i - c.joined) ≡ i - o = omega arith in
          ap (λ (k : ℕ). get_or (paste bs c.joined s (length s)) k 0) q
          ∙ paste_in bs c.joined s (length s) (omega arith) (omega arith) (i - c.joined) (omega arith)
          ∙ get_or-drop (c.joined - o) p (i - c.joined) 0
          ∙ ap (λ (k : ℕ). get_or p k 0) t

      begin : get_or (paste bs c.joined s (length s)) 0 0 ≡ x
      begin =
          ⊎_elim
          (λ z. let t : 0 - o ≡ 0 = omega arith in at 0 (omega arith) (omega arith) ∙ ap (λ (k : ℕ). get_or p k 0) t ∙ none z)
          (λ z. front bs s c.joined (length s) 0 (⊎_elim (λ y. absurd (z (omega arith))) (λ y. y) (le_or_lt c.joined 0)) (omega arith) ∙ one (joined_one z))
          (eq_or_not c.joined 0)
        where
          joined_one : (c.joined ≡ 0 → ⊥) → c.joined ≡ 1
          joined_one z = ⊎_elim (λ y. absurd (z (omega arith))) (λ y. omega arith) (le_or_lt c.joined 0)

      all : 2 ≤ length (paste bs c.joined s (length s))
      all =
          let n = long in
          let t = part_long bs c.joined c.joined (omega arith) (omega arith) in
          let u = part_long s (length s) (length s) (omega arith) (omega arith) in
          let m = length-append (take c.joined bs) (take (length s) s) in
          let k = length-append (take c.joined bs ++ take (length s) s) (drop (c.joined + length s) bs) in
          omega arith

      starts : Begins x (get_or p (1 - o) 0) (grow (held c bs) s)
      starts = let n = long in record { joined = omega arith; long = all; first = begin; second = at 1 (omega arith) (omega arith) }

-- ---- the first byte alone: a waiting piece may bring the second

module _ (c : Cell) (bs : List ℕ) (x : ℕ) (none : c.joined ≡ 0) (room : 6144 ≤ length bs) where
  abbrev one : List ℕ
  one = paste bs 0 (x ∷ []) 1

  one_joined : accept (held c bs) 0 (x ∷ []) ≡ settle 2048 (held (grown_to c 1) one)
  one_joined = join_step c bs 0 (x ∷ []) 0 0 (sym none) refl (omega arith) (λ z. let y : ◌≡◌ {A = ℕ} 1 0 = z in omega arith) (omega arith)

  pub shows_alone : 16 ≤ next_place (grown_to c 1) → shows_of (held c bs) 0 (x ∷ []) ≡ false
  unfolding shows_of
  shows_alone a =
      ap claims (one_joined ∙ settle_stop 2048 (held (grown_to c 1) one) (le-ltb _ _ a))
      ∙ short_claims (held (grown_to c 1) one) (omega arith)

  one_long : length bs ≤ length one
  one_long = let k = length-append (x ∷ []) (drop 1 bs) in let d = length-drop 1 bs in omega arith

  module _ (k : ℕ) (q : k ≡ next_place (grown_to c 1)) (a : k < 16) where
    pub next_starts : offset c k ≤ 1
    next_starts = (goes_at (grown_to c 1) k q a).0

    pub shows_waiting : shows_of (held c bs) 0 (x ∷ []) ≡ ltb 2046 (x + 256 * get_or bs (2048 + 256 * k + (1 - offset c k)) 0)
    unfolding shows_of grow
    shows_waiting =
        let m : 2048 ≡ suc 2047 = omega arith in
        ap claims
        (one_joined
        ∙ ap (λ (n : ℕ). settle n h) m
        ∙ settle_go 2047 h (lt-ltb (next_place (grown_to c 1)) 16 (omega arith))
        ∙ ap (λ (i : ℕ). settle 2047 (grow h (rest h i))) (sym q))
        ∙ begins_claims x y (settle 2047 (grow h (rest h k))) (settle_begins x y 2047 (grow h (rest h k)) starts)
      where
        h : Held
        h = held (grown_to c 1) one

        from : ℕ
        from = 2048 + 256 * k + (1 - offset c k)

        y : ℕ
        y = get_or bs from 0

        some : 1 ≤ length (rest h k)
        some =
            let g = goes_at (grown_to c 1) k q a in
            let l = one_long in
            let d = length-drop from one in
            part_long (drop from one) (end_at c k - 1) 1 (omega arith) (omega arith)

        second : get_or (paste one 1 (rest h k) (length (rest h k))) 1 0 ≡ y
        second =
            let g = goes_at (grown_to c 1) k q a in
            let n = some in
            let l = one_long in
            paste_in one 1 (rest h k) (length (rest h k)) (omega arith) (omega arith) 0 (omega arith)
            ∙ get_or-take (end_at c k - 1) (drop from one) 0 0 (omega arith)
            ∙ get_or-drop from one 0 0
            ∙ paste_above bs 0 (x ∷ []) 1 (omega arith) (omega arith) (from + 0) (omega arith)
            ∙ ap (λ (i : ℕ). get_or bs i 0) plus_none
          where
            plus_none : from + 0 ≡ from
            plus_none = omega arith

        all : 2 ≤ length (paste one 1 (rest h k) (length (rest h k)))
        all =
            let n = some in
            let l = one_long in
            let t = part_long one 1 1 (omega arith) (omega arith) in
            let u = part_long (rest h k) (length (rest h k)) (length (rest h k)) (omega arith) (omega arith) in
            let m = length-append (take 1 one) (take (length (rest h k)) (rest h k)) in
            let v = length-append (take 1 one ++ take (length (rest h k)) (rest h k)) (drop (1 + length (rest h k)) one) in
            omega arith

        starts : Begins x y (grow h (rest h k))
        starts =
            let n = some in
            let l = one_long in
            record {
              joined = omega arith;
              long = all;
              first = front one (rest h k) 1 (length (rest h k)) 0 (omega arith) (omega arith);
              second = second;
            }

-- ---- a message that has no cell

short_none : (p : List ℕ) → length p < 2 → shows_of (empty []) 0 p ≡ false
unfolding shows_of accept settle grow next
short_none [] l = refl
short_none (x ∷ []) l = refl
short_none (x ∷ y ∷ p) l = absurd (omega arith)

pub shows_empty : (o : ℕ) (p : List ℕ) → (o ≡ 0 → length p < 2) → shows_of (empty []) o p ≡ false
shows_empty o p h =
    ⊎_elim (λ z. ap (λ (i : ℕ). shows_of (empty []) i p) z ∙ short_none p (h z))
    (λ z. shows_wait empty_cell [] o p (omega arith) (⊎_elim (λ y. absurd (z (omega arith))) (λ y. y) (le_or_lt o 0))) (eq_or_not o 0)

pub shows_begin : (p : List ℕ) → 2 ≤ length p → shows_of (empty []) 0 p ≡ ltb 2046 (get_or p 0 0 + 256 * get_or p 1 0)
shows_begin p l =
    shows_here empty_cell [] 0 p (omega arith) (omega arith) (omega arith) (omega arith) (get_or p 0 0) (λ z. absurd (omega arith)) (λ z. refl)

-- a piece of one byte
pub one_byte : (p : List ℕ) → length p ≡ 1 → get_or p 0 0 ∷ [] ≡ p
one_byte [] e = absurd (omega arith)
one_byte (x ∷ []) e = refl
one_byte (x ∷ y ∷ p) e = absurd (omega arith)
