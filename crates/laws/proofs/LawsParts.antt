-- One more piece of a cell's message, whole or in two parts in either order, joins the same bytes: each way covers the same, and the joined bytes are the message's up
-- to the first byte that is not covered. Assumes nothing.
use mathlib.Core.Path.{◌≡◌, refl, sym, ap, ◌∙◌, subst}
use mathlib.Core.Bool.{Bool, true, false, cond, ◌&&◌}
use mathlib.Core.List.{List, [], ◌∷◌, ◌++◌}
use mathlib.Core.Logic.{◌⊎◌, inl, inr, ⊎_elim}
use Prim.Native.Nat.{ℕ, ◌+◌, ◌≤◌, ◌<◌}
use native.Mathlib.Omega.{arith}
use lib.Dec.{leb, ltb}
use lib.ListN.{length, get_or, take, drop, length-append, length-drop, get_or-append}
use lib.Seq.{get_or-append-add, get_or-take, get_or-drop, length-take-le, take_all, ext_get_or}
use borrow.Author.Tests.{ltb-true, leb-true, lt-ltb, lt-leb, ne_eqb}
use Rattle.bits.proofs.Lists.{cond_keeps, and_true, cases, eq_or_not, le_or_lt, never_both}
use Rattle.inbox.specs.declared.cell.Cell.{Cell}
use Rattle.inbox.specs.declared.keep.Kept.{Kept}
use Rattle.inbox.specs.declared.keep.Kept.TheVariants.{Needless, Yes, Late, Overlong, Long, NoCell, NoPlace}
use Rattle.inbox.specs.Cells.{Held, offset, size, end_at, place_at, accept}
use Rattle.inbox.specs.Keeping.{shorter_of, kept_of}
use Rattle.inbox.specs.Messages.{Piece, empty, Fits, accept_all, Covered, Cut, shows_of}
use Rattle.inbox.specs.Sizes.{number_limit}
use Rattle.inbox.proofs.Joined.{Room, HasRoom, Inv, accept_all_inv}
use Rattle.inbox.proofs.Rule.{kept_room}
use Rattle.inbox.proofs.Search.{place_starts}
use Rattle.inbox.proofs.Steps.{accept_old, accept_empty}
use Rattle.stream.specs.Table.{is_lost}
use Rattle.laws.specs.Laws.{Placed, from, SameJoined, Splits, AllCut}
use Rattle.promise.proofs.Ledgers.{Cov, empty_inv}

-- ---- the joined bytes of a cell, by what is covered

module _ (M : List ℕ) (D : ℕ → Type 0) (h : Held) (v : Inv M D h) where
  -- the first byte past the joined end is not covered
  past_end : D h.cell.joined → ⊥
  past_end c =
      ⊎_elim (λ b. omega arith) (λ p. let q = v.1 p.0 p.1 (omega arith) in omega arith)
      (v.0.all h.cell.joined c)

  front : take h.cell.joined h.bytes ≡ take h.cell.joined M
  front =
      let w = v.0.within in
      let r = v.0.room in
      let m = v.0.small in
      let ln : length (take h.cell.joined h.bytes) ≡ h.cell.joined = length-take-le _ _ (omega arith) in
      let lm : length (take h.cell.joined M) ≡ h.cell.joined = length-take-le _ _ w in
      ext_get_or 0 (take h.cell.joined h.bytes) (take h.cell.joined M) (ln ∙ sym lm)
      (λ i a. get_or-take h.cell.joined h.bytes i 0 (omega arith) ∙ v.0.same i (omega arith) ∙ sym (get_or-take h.cell.joined M i 0 (omega arith)))

same_joined : (M : List ℕ) (D E : ℕ → Type 0) (h g : Held) → Inv M D h → Inv M E g → ((i : ℕ) → D i → E i) → ((i : ℕ) → E i → D i) → SameJoined h g
same_joined M D E h g v w to back =
    let a : h.cell.joined ≤ g.cell.joined =
    ⊎_elim (λ l. l) (λ l. absurd (past_end M E g w (to g.cell.joined (v.0.below g.cell.joined l)))) (le_or_lt h.cell.joined g.cell.joined) in
    let b : g.cell.joined ≤ h.cell.joined =
    ⊎_elim (λ l. l) (λ l. absurd (past_end M D h v (back h.cell.joined (w.0.below h.cell.joined l)))) (le_or_lt g.cell.joined h.cell.joined) in
    let e : h.cell.joined ≡ g.cell.joined = omega arith in
    record { end = e; bytes = front M D h v ∙ ap (λ (x : ℕ). take x M) e ∙ sym (front M E g w) }

-- ---- the two parts of a piece of M are pieces of M

-- the bytes of a piece are M's from o on
cut_at : (M : List ℕ) (o : ℕ) (p : List ℕ) → Cut M o p → (j : ℕ) → j < length p → get_or p j 0 ≡ get_or M (o + j) 0
cut_at M o p cut j a = ap (λ (x : List ℕ). get_or x j 0) cut.same ∙ get_or-take (length p) (drop o M) j 0 a ∙ get_or-drop o M j 0

-- and bytes that are are cut from it
part_is : (M x : List ℕ) (a : ℕ) → a + length x ≤ length M → ((j : ℕ) → j < length x → get_or x j 0 ≡ get_or M (a + j) 0) → x ≡ take (length x) (drop a M)
part_is M x a f same =
    let d = length-drop a M in
    let n : length (take (length x) (drop a M)) ≡ length x = length-take-le _ _ (omega arith) in
    ext_get_or 0 x (take (length x) (drop a M)) (sym n)
    (λ j b. same j b ∙ sym (get_or-take (length x) (drop a M) j 0 b ∙ get_or-drop a M j 0))

module _ (M : List ℕ) (o : ℕ) (p q : List ℕ) (cut : Cut M o (p ++ q)) where
  whole_length : length (p ++ q) ≡ length p + length q
  whole_length = length-append p q

  whole_at : (j : ℕ) → j < length p + length q → get_or (p ++ q) j 0 ≡ get_or M (o + j) 0
  whole_at j a = let n = whole_length in cut_at M o (p ++ q) cut j (omega arith)

  first_cut : Cut M o p
  first_cut =
      let n = whole_length in
      let s = cut.short in
      let f = cut.fits in
      record {
        short = omega arith;
        fits = omega arith;
        same = part_is M p o (omega arith) (λ j a. sym (get_or-append p q 0 j a) ∙ whole_at j (omega arith));
      }

  second_cut : Cut M (o + length p) q
  second_cut =
      let n = whole_length in
      let s = cut.short in
      let f = cut.fits in
      record {
        short = omega arith;
        fits = omega arith;
        same = part_is M q (o + length p) (omega arith)
            (λ j a.
            let e : o + (length p + j) ≡ o + length p + j = omega arith in
            sym (get_or-append-add p q j 0) ∙ whole_at (length p + j) (omega arith) ∙ ap (λ (x : ℕ). get_or M x 0) e);
      }

-- ---- places for all

not_lost : (a : Kept) → is_lost a ≡ false → (a ≡ Yes) ⊎ (a ≡ Needless)
not_lost Yes e = inl refl
not_lost Needless e = inr refl
not_lost Late e = absurd (never_both true refl e)
not_lost Overlong e = absurd (never_both true refl e)
not_lost Long e = absurd (never_both true refl e)
not_lost NoCell e = absurd (never_both true refl e)
not_lost NoPlace e = absurd (never_both true refl e)

has_room_lem : (number : ℕ) (M : List ℕ) (h : Held) (ps : List Piece) → AllCut M ps → Placed number h ps → HasRoom M h ps
has_room_lem number M h [] c k = tt
has_room_lem number M h (p ∷ ps) c k = (
  c.0,
  (
    kept_room number p.off (shows_of h p.off p.bytes) true h.cell h.bytes p.bytes
        (not_lost (kept_of number p.off (length p.bytes) (shows_of h p.off p.bytes) true h.cell) k.0),
    has_room_lem number M (accept h p.off p.bytes) ps c.1 k.1,
  ),
)

-- ---- the three ways cover the same

module _ (C : ℕ → Type 0) (o : ℕ) (p q : List ℕ) (n : length (p ++ q) ≡ length p + length q) where
  abbrev One : ℕ → Type 0
  One i = C i ⊎ Covered (from o (p ++ q) ∷ []) i

  abbrev Two : ℕ → Type 0
  Two i = C i ⊎ Covered (from o p ∷ from (o + length p) q ∷ []) i

  abbrev Turned : ℕ → Type 0
  Turned i = C i ⊎ Covered (from (o + length p) q ∷ from o p ∷ []) i

  to_one : (i : ℕ) → Two i → One i
  to_one i (inl c) = inl c
  to_one i (inr (inl x)) = inr (inl (omega arith, omega arith))
  to_one i (inr (inr (inl x))) = inr (inl (omega arith, omega arith))
  to_one i (inr (inr (inr x))) = absurd x

  to_two : (i : ℕ) → One i → Two i
  to_two i (inl c) = inl c
  to_two i (inr (inl x)) =
      ⊎_elim (λ l. inr (inr (inl (l, omega arith)))) (λ l. inr (inl (x.0, l))) (le_or_lt (o + length p) i)
  to_two i (inr (inr x)) = absurd x

  turned_one : (i : ℕ) → Turned i → One i
  turned_one i (inl c) = inl c
  turned_one i (inr (inl x)) = inr (inl (omega arith, omega arith))
  turned_one i (inr (inr (inl x))) = inr (inl (omega arith, omega arith))
  turned_one i (inr (inr (inr x))) = absurd x

  one_turned : (i : ℕ) → One i → Turned i
  one_turned i (inl c) = inl c
  one_turned i (inr (inl x)) =
      ⊎_elim (λ l. inr (inl (l, omega arith))) (λ l. inr (inr (inl (x.0, l)))) (le_or_lt (o + length p) i)
  one_turned i (inr (inr x)) = absurd x

-- ---- the law, for a cell that holds pieces of M alone

pub splits : (number : ℕ) (M : List ℕ) (C : ℕ → Type 0) (h : Held) → Inv M C h → Splits number M h
splits number M C h v o p q cut one two turned =
    let n = length-append p q in
    let a = first_cut M o p q cut in
    let b = second_cut M o p q cut in
    let u = accept_all_inv M C h (from o (p ++ q) ∷ []) v (has_room_lem number M h (from o (p ++ q) ∷ []) (cut, tt) one) in
    let w = accept_all_inv M C h (from o p ∷ from (o + length p) q ∷ []) v (has_room_lem number M h (from o p ∷ from (o + length p) q ∷ []) (a, (b, tt)) two) in
    let z = accept_all_inv M C h (from (o + length p) q ∷ from o p ∷ []) v (has_room_lem number M h (from (o + length p) q ∷ from o p ∷ []) (b, (a, tt)) turned) in (
      same_joined M _ _ _ _ w u (to_one C o p q n) (to_two C o p q n),
      same_joined M _ _ _ _ z u (turned_one C o p q n) (one_turned C o p q n),
    )

-- ---- a cell that pieces went into since it was taken

-- each has its place when it comes, and ends at 2,048 or before
abbrev pub Took : Held → List Piece → Type 0
Took h [] = Unit {0}
Took h (x ∷ xs) = (x.off + length x.bytes ≤ 2048) × (Room h x.off x.bytes × Took (accept h x.off x.bytes) xs)

-- the cell h is what they make of an empty one, in some bytes
pub record Made (h : Held) (ps : List Piece) : Type 0 where
  pub bytes : List ℕ
  pub room : 6144 ≤ length bytes
  pub took : Took (empty bytes) ps
  pub is : h ≡ accept_all (empty bytes) ps

-- of a message longer than a cell only the first 2,048 bytes count
cut_short : (M : List ℕ) (o : ℕ) (p : List ℕ) → o + length p ≤ 2048 → Cut M o p → Cut (take 2048 M) o p
cut_short M o p e c =
    ⊎_elim (λ l. subst (λ (x : List ℕ). Cut x o p) (sym (take_all 2048 M l)) c)
    (λ l.
    let n : length (take 2048 M) ≡ 2048 = length-take-le 2048 M (omega arith) in
    record {
      short = c.short;
      fits = omega arith;
      same = part_is (take 2048 M) p o (omega arith) (λ j a. cut_at M o p c j a ∙ sym (get_or-take 2048 M (o + j) 0 (omega arith)));
    }) (le_or_lt (length M) 2048)

-- a piece that would end past 2,048 has no place, but the empty one, which changes nothing
past_lost : (c : Cell) → Fits c → (number o n : ℕ) (over : Bool) → (n ≡ 0 → ⊥) → 2048 < o + n → is_lost (kept_of number o n over true c) ≡ true
past_lost c f number o n over z l =
    let j = f.joined in
    rw (ne_eqb n 0 z, lt-leb (o + n) c.joined (omega arith), no_shorter, lt-ltb 2048 (o + n) l)
    (cond_keeps (λ (k : Kept). is_lost k ≡ true) (leb number_limit number) Late (cond over Overlong Long) (λ _. refl)
    (λ _. cond_keeps (λ (k : Kept). is_lost k ≡ true) over Overlong Long (λ _. refl) (λ _. refl)))
  where
    no_shorter : shorter_of c o n ≡ false
    no_shorter =
        ⊎_elim (λ t.
        let u = and_true (ltb c.joined o && ltb (place_at c o) 16) (leb n (size c (place_at c o))) t in
        let v = and_true (ltb c.joined o) (ltb (place_at c o) 16) u.0 in
        let k : place_at c o < 16 = ltb-true (place_at c o) 16 v.1 in
        let e : end_at c (place_at c o) ≤ 2048 = f.ends (place_at c o) k in
        let w : offset c (place_at c o) ≡ o = place_starts c o k in
        let m : n ≤ size c (place_at c o) = leb-true n (size c (place_at c o)) u.1 in
        absurd (omega arith)) (λ t. t) (cases (shorter_of c o n))

accept_nothing : (h : Held) (o : ℕ) (p : List ℕ) → length p ≡ 0 → accept h o p ≡ h
accept_nothing h o p z = ⊎_elim (λ a. accept_old h.cell h.bytes o p a) (λ a. accept_empty h.cell h.bytes o p a z) (le_or_lt (o + length p) h.cell.joined)

same_cells : (h g k : Held) → h ≡ k → g ≡ k → SameJoined h g
same_cells h g k p q = record { end = ap (λ (x : Held). x.cell.joined) (p ∙ sym q); bytes = ap (λ (x : Held). take x.cell.joined x.bytes) (p ∙ sym q) }

module _ (number : ℕ) (M : List ℕ) (h : Held) (ps : List Piece) (fits : Fits h.cell) (made : Made h ps) (cuts : AllCut M ps) where
  has_room_all : (g : Held) (xs : List Piece) → AllCut M xs → Took g xs → HasRoom (take 2048 M) g xs
  has_room_all g [] c t = tt
  has_room_all g (x ∷ xs) c t = (cut_short M x.off x.bytes t.0 c.0, (t.1.0, has_room_all (accept g x.off x.bytes) xs c.1 t.1.1))

  inv : Inv (take 2048 M) (λ i. Cov (λ i. false) i ⊎ Covered ps i) h
  inv =
      subst (Inv (take 2048 M) (λ i. Cov (λ i. false) i ⊎ Covered ps i)) (sym made.is)
      (accept_all_inv (take 2048 M) (Cov (λ i. false)) (empty made.bytes) ps (empty_inv (take 2048 M) made.bytes (λ i. false) first_2048 made.room (λ i. refl))
      (has_room_all (empty made.bytes) ps cuts made.took))
    where
      first_2048 : length (take 2048 M) ≤ 2048
      first_2048 = ⊎_elim (λ l. let e = ap length (take_all 2048 M l) in omega arith) (λ l. let e = length-take-le 2048 M (omega arith) in omega arith) (le_or_lt (length M) 2048)

  pub made_splits : Splits number M h
  made_splits o p q cut one two turned =
      let n = length-append p q in
      ⊎_elim (λ z.
      let w = accept_nothing h o (p ++ q) z in
      let a = accept_nothing h o p (omega arith) in
      let b = accept_nothing h (o + length p) q (omega arith) in (
        same_cells _ _ h (ap (λ (g : Held). accept g (o + length p) q) a ∙ b) w,
        same_cells _ _ h (ap (λ (g : Held). accept g o p) b ∙ a) w,
      ))
      (λ z.
      let e : o + length (p ++ q) ≤ 2048 =
      ⊎_elim (λ l. l) (λ l. absurd (never_both _ (past_lost h.cell fits number o (length (p ++ q)) (shows_of h o (p ++ q)) z l) one.0)) (le_or_lt (o + length (p ++ q)) 2048) in
      splits number (take 2048 M) _ h inv o p q (cut_short M o (p ++ q) e cut) one two turned)
      (eq_or_not (length (p ++ q)) 0)
