-- What the kept rule's answer says of the cell: a needless piece leaves it as it is, a kept one has its place. Assumes nothing.
use mathlib.Core.Bool.{Bool, true, false, cond, not, ◌&&◌}
use mathlib.Core.List.{List}
use mathlib.Core.Logic.{◌⊎◌, inl, inr, ⊎_elim}
use mathlib.Core.Path.{◌≡◌, refl, ◌∙◌}
use Prim.Native.Nat.{ℕ, ◌+◌, ◌≤◌, ◌<◌}
use native.Mathlib.Omega.{arith}
use lib.Dec.{leb, ltb, eqb}
use lib.ListN.{length}
use borrow.Author.Tests.{lt-ltb, le-leb, ltb-true, ltb-false, leb-true, leb-false, eqb-true, eqb-false}
use Rattle.bits.proofs.Lists.{and_true, never_both, le_or_lt, eq_or_not}
use Rattle.inbox.specs.declared.cell.Cell.{Cell}
use Rattle.inbox.specs.declared.keep.Kept.TheVariants.{Needless, Yes, Late, Overlong, Long, NoCell, NoPlace}
use Rattle.inbox.specs.declared.keep.Kept.{Kept}
use Rattle.inbox.specs.Cells.{held, size, accept, place_at, free_place}
use Rattle.inbox.specs.Keeping.{shorter_of, full_of, kept_of}
use Rattle.inbox.specs.Sizes.{message_room, number_limit}
use Rattle.inbox.proofs.Joined.{Room}
use Rattle.inbox.proofs.Steps.{accept_old, accept_empty, accept_wait, await_shorter}

-- the rule over its eight tests
abbrev by8 : Bool → Bool → Bool → Bool → Bool → Bool → Bool → Bool → Kept
by8 a b c d e f g h =
    cond a Needless
    (cond b Needless (cond c Needless (cond d Late (cond e Overlong (cond f Long (cond g NoCell (cond h NoPlace Yes)))))))

abbrev Off : Bool → Type 0
Off t = t ≡ false

by8_yes : (a b c d e f g h : Bool) → by8 a b c d e f g h ≡ Yes → Off a × Off b × Off c × Off d × Off e × Off f × Off g × Off h
by8_yes true b c d e f g h q = absurd (let z : ◌≡◌ {A = ℕ} 0 1 = cc in omega arith)
by8_yes false true c d e f g h q = absurd (let z : ◌≡◌ {A = ℕ} 0 1 = cc in omega arith)
by8_yes false false true d e f g h q = absurd (let z : ◌≡◌ {A = ℕ} 0 1 = cc in omega arith)
by8_yes false false false true e f g h q = absurd (let z : ◌≡◌ {A = ℕ} 0 1 = cc in omega arith)
by8_yes false false false false true f g h q = absurd (let z : ◌≡◌ {A = ℕ} 0 1 = cc in omega arith)
by8_yes false false false false false true g h q = absurd (let z : ◌≡◌ {A = ℕ} 0 1 = cc in omega arith)
by8_yes false false false false false false true h q = absurd (let z : ◌≡◌ {A = ℕ} 0 1 = cc in omega arith)
by8_yes false false false false false false false true q = absurd (let z : ◌≡◌ {A = ℕ} 0 1 = cc in omega arith)
by8_yes false false false false false false false false q = (refl, refl, refl, refl, refl, refl, refl, refl)

by8_needless : (a b c d e f g h : Bool) → by8 a b c d e f g h ≡ Needless → (a ≡ true) ⊎ ((b ≡ true) ⊎ (c ≡ true))
by8_needless true b c d e f g h q = inl refl
by8_needless false true c d e f g h q = inr (inl refl)
by8_needless false false true d e f g h q = inr (inr refl)
by8_needless false false false true e f g h q = absurd (let z : ◌≡◌ {A = ℕ} 0 1 = cc in omega arith)
by8_needless false false false false true f g h q = absurd (let z : ◌≡◌ {A = ℕ} 0 1 = cc in omega arith)
by8_needless false false false false false true g h q = absurd (let z : ◌≡◌ {A = ℕ} 0 1 = cc in omega arith)
by8_needless false false false false false false true h q = absurd (let z : ◌≡◌ {A = ℕ} 0 1 = cc in omega arith)
by8_needless false false false false false false false true q = absurd (let z : ◌≡◌ {A = ℕ} 0 1 = cc in omega arith)
by8_needless false false false false false false false false q = absurd (let z : ◌≡◌ {A = ℕ} 0 1 = cc in omega arith)

by8_over : (a b c d e f g h : Bool) → by8 a b c d e f g h ≡ Overlong → Off a × Off b × Off c × Off d × (e ≡ true)
by8_over true b c d e f g h q = absurd (let z : ◌≡◌ {A = ℕ} 0 1 = cc in omega arith)
by8_over false true c d e f g h q = absurd (let z : ◌≡◌ {A = ℕ} 0 1 = cc in omega arith)
by8_over false false true d e f g h q = absurd (let z : ◌≡◌ {A = ℕ} 0 1 = cc in omega arith)
by8_over false false false true e f g h q = absurd (let z : ◌≡◌ {A = ℕ} 0 1 = cc in omega arith)
by8_over false false false false true f g h q = (refl, refl, refl, refl, refl)
by8_over false false false false false true g h q = absurd (let z : ◌≡◌ {A = ℕ} 0 1 = cc in omega arith)
by8_over false false false false false false true h q = absurd (let z : ◌≡◌ {A = ℕ} 0 1 = cc in omega arith)
by8_over false false false false false false false true q = absurd (let z : ◌≡◌ {A = ℕ} 0 1 = cc in omega arith)
by8_over false false false false false false false false q = absurd (let z : ◌≡◌ {A = ℕ} 0 1 = cc in omega arith)

not_off : (t : Bool) → Off (not t) → t ≡ true
not_off true q = refl
not_off false q = absurd (let z : ◌≡◌ {A = ℕ} 0 1 = cc in omega arith)

-- ---- a kept piece: none of the tests held
pub record KeptIs (number o n : ℕ) (over room : Bool) (c : Cell) : Type 0 where
  pub some : n ≡ 0 → ⊥
  pub past : c.joined < o + n
  pub longer : shorter_of c o n ≡ false
  pub low : number < number_limit
  pub modest : over ≡ false
  pub fits : o + n ≤ message_room
  pub celled : room ≡ true
  pub placed : full_of c o ≡ false

pub yes_is : (number o n : ℕ) (over room : Bool) (c : Cell) → kept_of number o n over room c ≡ Yes → KeptIs number o n over room c
yes_is number o n over room c q =
    let t = by8_yes (eqb n 0) (leb (o + n) c.joined) (shorter_of c o n) (leb number_limit number) over (ltb message_room (o + n)) (not room) (full_of c o) q in
    record {
      some = eqb-false _ _ t.0;
      past = leb-false _ _ t.1;
      longer = t.2;
      low = leb-false _ _ t.3;
      modest = t.4;
      fits = ltb-false _ _ t.5;
      celled = not_off room t.6;
      placed = t.7;
    }

-- ---- a piece of a message that claims too much: it is not needless, and its number is below the limit
pub record OverIs (number o n : ℕ) (over : Bool) (c : Cell) : Type 0 where
  pub some : n ≡ 0 → ⊥
  pub past : c.joined < o + n
  pub longer : shorter_of c o n ≡ false
  pub low : number < number_limit
  pub claimed : over ≡ true

pub over_is : (number o n : ℕ) (over room : Bool) (c : Cell) → kept_of number o n over room c ≡ Overlong → OverIs number o n over c
over_is number o n over room c q =
    let t = by8_over (eqb n 0) (leb (o + n) c.joined) (shorter_of c o n) (leb number_limit number) over (ltb message_room (o + n)) (not room) (full_of c o) q in
    record { some = eqb-false _ _ t.0; past = leb-false _ _ t.1; longer = t.2; low = leb-false _ _ t.3; claimed = t.4 }

-- where not all 16 places wait, a piece past the joined end has one
not_full : (c : Cell) (o : ℕ) → full_of c o ≡ false → c.joined < o → (place_at c o < 16) ⊎ (free_place c < 16)
not_full c o q a =
    ⊎_elim (λ b.
    ⊎_elim (λ d. absurd (never_both (full_of c o) (is_full_lem b d) q)) (λ d. inr d) (le_or_lt 16 (free_place c)))
    (λ b. inl b) (le_or_lt 16 (place_at c o))
  where
    is_full_lem : 16 ≤ place_at c o → 16 ≤ free_place c → full_of c o ≡ true
    is_full_lem b d = simp (lt-ltb _ _ a, le-leb _ _ b, le-leb _ _ d)

module _ (number o : ℕ) (over room : Bool) (c : Cell) (bs p : List ℕ) where
  -- which test held of a needless piece
  needless_is : kept_of number o (length p) over room c ≡ Needless
      → (length p ≡ 0) ⊎ ((o + length p ≤ c.joined) ⊎ ((c.joined < o) × (place_at c o < 16) × (length p ≤ size c (place_at c o))))
  needless_is q =
      ⊎_elim (λ t. inl (eqb-true _ _ t))
      (λ r. ⊎_elim (λ t. inr (inl (leb-true _ _ t))) (λ t. inr (inr (waits t))) r)
      (by8_needless (eqb (length p) 0) (leb (o + length p) c.joined) (shorter_of c o (length p)) (leb number_limit number) over (ltb message_room (o + length p)) (not room) (full_of c o) q)
    where
      waits : shorter_of c o (length p) ≡ true → (c.joined < o) × (place_at c o < 16) × (length p ≤ size c (place_at c o))
      waits t =
          let u = and_true (ltb c.joined o && ltb (place_at c o) 16) _ t in
          let v = and_true (ltb c.joined o) _ u.0 in
          (ltb-true _ _ v.0, ltb-true _ _ v.1, leb-true _ _ u.1)

  -- a needless piece changes nothing
  pub needless_same : kept_of number o (length p) over room c ≡ Needless → accept (held c bs) o p ≡ held c bs
  needless_same q = ⊎_elim (λ z. empty z) (λ r. ⊎_elim (λ a. accept_old c bs o p a) (λ w. waiting w) r) (needless_is q)
    where
      empty : length p ≡ 0 → accept (held c bs) o p ≡ held c bs
      empty z =
          ⊎_elim (λ a. accept_old c bs o p a) (λ a. accept_empty c bs o p a z) (le_or_lt (o + length p) c.joined)

      waiting : (c.joined < o) × (place_at c o < 16) × (length p ≤ size c (place_at c o)) → accept (held c bs) o p ≡ held c bs
      waiting w =
          ⊎_elim (λ z. empty z)
          (λ z. accept_wait c bs o p (omega arith) z w.0 ∙ await_shorter c bs o p (place_at c o) refl w.1 w.2)
          (eq_or_not (length p) 0)

  -- a kept piece has its place
  pub kept_room : (kept_of number o (length p) over room c ≡ Yes) ⊎ (kept_of number o (length p) over room c ≡ Needless) → Room (held c bs) o p
  kept_room (inl q) a m = not_full c o (yes_is number o (length p) over room c q).placed a
  kept_room (inr q) a m =
      ⊎_elim (λ z. absurd (omega arith)) (λ r. ⊎_elim (λ z. absurd (omega arith)) (λ w. inl w.1) r) (needless_is q)
