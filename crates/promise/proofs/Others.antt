-- One piece of a boat that is not watched: it goes into a cell that is free or its own, so what is tied to the book stays. Nothing is asked of the piece. Assumes nothing.
use Rattle.std.specs.Prelude.{Option, Some, None, is_some}
use mathlib.Core.Path.{◌≡◌, refl, sym, ap, ◌∙◌, subst}
use mathlib.Core.Bool.{Bool, true, false, cond}
use mathlib.Core.List.{List, []}
use mathlib.Core.Logic.{◌⊎◌, inl, inr, ⊎_elim}
use Prim.Native.Nat.{ℕ, ◌+◌, ◌*◌, ◌%◌, ◌^◌, ◌≤◌, ◌<◌}
use native.Mathlib.Omega.{arith}
use lib.ListN.{length, get_or}
use lib.Seq.{get_or-set_same}
use borrow.Author.Tests.{eq-eqb, ne_eqb}
use Rattle.bits.specs.Mask.{has_bit, with_bit, without_bit}
use Rattle.bits.proofs.Laws.{with_same, without_same}
use Rattle.bits.proofs.Lists.{cases, le_or_lt, eq_or_not, never_both}
use Rattle.inbox.specs.declared.cell.Cell.{Cell}
use Rattle.inbox.specs.declared.keep.Kept.TheVariants.{Yes}
use Rattle.inbox.specs.Cells.{Held, held}
use Rattle.inbox.specs.Stores.{cell_of}
use Rattle.inbox.proofs.Rule.{KeptIs, yes_is}
use Rattle.stream.specs.declared.window.Window.{Window}
use Rattle.stream.specs.declared.table.Room.{Room}
use Rattle.stream.specs.declared.table.Room.TheVariants.{Own, Free, Full}
use Rattle.stream.specs.Window.{handed_of, land_of, barred_of}
use Rattle.stream.specs.Table.{Table, Accepted, accept, cell_at, cell_for, has_room, owner_of, cell_count, place_of, table_room, is_over}
use Rattle.stream.proofs.Rooms.{RoomIs}
use Rattle.stream.proofs.Tables.{Tidy, place_below, place_in, table_room_lem}
use Rattle.stream.proofs.Accepts.{answer_of, cell_in, put_as, accept_cases, SameCell, accept_other}
use Rattle.promise.specs.Promise.{Sent, Message, Ledger, Event2, enter}
use Rattle.promise.proofs.Ties.{View, Use, Vacant, Comes, Whole, use_of, use_at, held_at, FineAt, entry_of, Tie, not_vacant, comes_is, use_comes, use_whole, use_vacant, filling_comes}
use Rattle.promise.proofs.Pieces.{windows_after, view_after, event_for, Joint}
use Rattle.promise.proofs.Fits.{FitView, piece_fit}

-- ---- what a cell is for

-- nothing, or a message of slot s
abbrev Its : ℕ → Use → Type 0
Its s Vacant = Unit {0}
Its s (Comes a b) = a ≡ s
Its s (Whole a b) = a ≡ s

its_fine : (M : Sent) (l : Ledger) (s : ℕ) → M.watched s ≡ false → (u : Use) (h : Held) → Its s u → FineAt M l u h
its_fine M l s off Vacant h i = tt
its_fine M l s off (Comes a b) h i = λ on. absurd (never_both (M.watched a) on (ap M.watched i ∙ off))
its_fine M l s off (Whole a b) h i = λ on. absurd (never_both (M.watched a) on (ap M.watched i ∙ off))

its_comes : (s : ℕ) (u : Use) (a b : ℕ) → Its s u → u ≡ Comes a b → a ≡ s
its_comes s Vacant a b i q = not_vacant a b q
its_comes s (Comes x y) a b i q = sym (comes_is x y a b q).0 ∙ i
its_comes s (Whole x y) a b i q = absurd (let z : ◌≡◌ {A = ℕ} 0 1 = cc in omega arith)

-- a cell past the count is for nothing
beyond : (t : Table) (store : List ℕ) → Tidy t store → (d : ℕ) → t.count ≤ d → use_at t d ≡ Vacant
beyond t store tidy d a =
    use_vacant (has_bit t.busy d) (has_bit t.landed d) (get_or t.owners d 0)
    (⊎_elim (λ q. absurd (let w = tidy.within d q in omega arith)) (λ q. q) (cases (has_bit t.busy d)))

-- ---- the tie where cell c, of slot s before and after or of nobody, is all that changes

module _ (M : Sent) (v : View) (l : Ledger) (e : ℕ → Option Message) (tie : Tie M v l e) (s : ℕ) (off : M.watched s ≡ false)
    (v' : View) (c : ℕ) (fit : FitView v') (count_same : v'.table.count ≡ v.table.count)
    (windows : (a : ℕ) → (a ≡ s → ⊥) → v'.windows a ≡ v.windows a)
    (others : (d : ℕ) → (d ≡ c → ⊥) → 6400 * d + 6400 ≤ length v.store → SameCell v.table v'.table v.store v'.store d)
    (was : Its s (use_at v.table c))
    (is : Its s (use_at v'.table c))
    (e' : ℕ → Option Message)
    (entry_here : e' c ≡ entry_of M (use_at v'.table c))
    (entry-there : (d : ℕ) → (d ≡ c → ⊥) → e' d ≡ e d)
  where
    not_it : (a : ℕ) → M.watched a ≡ true → a ≡ s → ⊥
    not_it a on q = never_both (M.watched a) on (ap M.watched q ∙ off)

    in_store : (d : ℕ) → d < v.table.count → 6400 * d + 6400 ≤ length v.store
    in_store d a = let r = tie.tidy.room in omega arith

    use_there : (d : ℕ) → (d ≡ c → ⊥) → use_at v'.table d ≡ use_at v.table d
    use_there d z =
        ⊎_elim (λ a. beyond v'.table v'.store fit.tidy d (omega arith) ∙ sym (beyond v.table v.store tie.tidy d a))
        (λ a.
        let r = others d z (in_store d a) in
        ap (λ (y : Bool). use_of y (has_bit v'.table.landed d) (get_or v'.table.owners d 0)) r.busy
        ∙ ap (λ (y : Bool). use_of (has_bit v.table.busy d) y (get_or v'.table.owners d 0)) r.landed
        ∙ ap (use_of (has_bit v.table.busy d) (has_bit v.table.landed d)) r.owner)
        (le_or_lt v.table.count d)

    held_there : (d : ℕ) → (d ≡ c → ⊥) → d < v.table.count → held_at v' d ≡ held_at v d
    held_there d z a =
        let r = others d z (in_store d a) in
        ap (λ (y : Cell). held y (cell_of v'.store d)) r.cell ∙ ap (held (cell_at v.table d)) r.bytes

    pub aside_tie : Tie M v' l e'
    aside_tie =
        record {
          tidy = fit.tidy;
          sound = fit.sound;
          claimed = λ a b on q. tie.claimed a b on (sym (ap (λ (w : Window). barred_of w b) (windows a (not_it a on))) ∙ q);
          numbers = λ a b on. tie.numbers a b on ∙ sym (ap (λ (w : Window). handed_of w b) (windows a (not_it a on)));
          says = tie.says;
          cells = λ d a.
              ⊎_elim (λ q. subst (λ (y : ℕ). FineAt M l (use_at v'.table y) (held_at v' y)) (sym q) (its_fine M l s off (use_at v'.table c) (held_at v' c) is))
              (λ z.
              subst (λ (o : Use). FineAt M l o (held_at v' d)) (sym (use_there d z))
              (subst (λ (g : Held). FineAt M l (use_at v.table d) g) (sym (held_there d z (omega arith))) (tie.cells d (omega arith))))
              (eq_or_not d c);
          bare = λ a b on h free nowhere.
              tie.bare a b on h (sym (ap (λ (w : Window). barred_of w b) (windows a (not_it a on))) ∙ free)
              (λ d o.
              ⊎_elim (λ q. not_it a on (its_comes s (use_at v.table c) a b was (sym (ap (use_at v.table) q) ∙ o))) (λ z. nowhere d (use_there d z ∙ o)) (eq_or_not d c));
          entries = λ d.
              ⊎_elim (λ q. ap e' q ∙ entry_here ∙ sym (ap (entry_of M) (ap (use_at v'.table) q)))
              (λ z. entry-there d z ∙ tie.entries d ∙ sym (ap (entry_of M) (use_there d z)))
              (eq_or_not d c);
        }

-- ---- what the piece does to its cell

-- the table and the store stay, and nothing lands
pub record Stood (t : Table) (bytes : List ℕ) (x : Accepted) : Type 0 where
  pub table : x.table ≡ t
  pub store : x.store ≡ bytes
  pub quiet : is_some x.landed ≡ false

-- or its cell is touched, which was free or its own: it is its own then
pub record Touched (s : ℕ) (t : Table) (x : Accepted) : Type 0 where
  pub count : x.table.count ≡ t.count
  pub below : x.cell < t.count
  pub was : Its s (use_at t x.cell)
  pub empty : (M : Sent) → entry_of M (use_at t x.cell) ≡ None
  pub is : Its s (use_at x.table x.cell)
  pub lands : is_some x.landed ≡ true → use_at x.table x.cell ≡ Whole s x.number
  pub waits : is_some x.landed ≡ false → (M : Sent) → entry_of M (use_at x.table x.cell) ≡ None

module _ (t : Table) (w : Window) (store : List ℕ) (s field : ℕ) (p : List ℕ) (tidy : Tidy t store) where
  abbrev RoomHere : ℕ → Room → Type 0
  RoomHere k = RoomIs t.owners t.busy t.landed (owner_of s k) (cell_count t.count)

  -- it is kept
  module _ (k : ℕ) (yes : answer_of t w store s k (field % 65536) p ≡ Yes) where
    abbrev c : ℕ
    c = cell_in t s k

    abbrev x : Accepted
    x = put_as t w store s k (field % 65536) p

    kept : KeptIs k (field % 65536) (length p) (is_over (barred_of w k) store (table_room t s k) (cell_at t (cell_in t s k)) (field % 65536) p) (has_room (table_room t s k)) (cell_for (table_room t s k) (cell_at t (cell_in t s k)))
    kept =
        yes_is k (field % 65536) (length p) (is_over (barred_of w k) store (table_room t s k) (cell_at t (cell_in t s k)) (field % 65536) p)
        (has_room (table_room t s k)) (cell_for (table_room t s k) (cell_at t (cell_in t s k))) yes

    low_k : k < 2 ^ 32
    low_k = let l = kept.low in omega arith

    below_64 : c < 64
    below_64 = (place_in t store tidy s k).0

    use_was : (use_at t c ≡ Vacant) ⊎ (use_at t c ≡ Comes s k)
    use_was = go (table_room t s k) (table_room_lem t store tidy s k) kept.celled
      where
        go : (r : Room) → RoomHere k r → has_room r ≡ true → (use_at t (place_of r) ≡ Vacant) ⊎ (use_at t (place_of r) ≡ Comes s k)
        go (Own d) h q = inr (filling_comes t d s k h.filling low_k)
        go (Free d) h q = inl (use_vacant (has_bit t.busy d) (has_bit t.landed d) (get_or t.owners d 0) h.unused)
        go Full h q = absurd (never_both true refl (sym q))

    busy_here : has_bit x.table.busy c ≡ true
    busy_here = with_same t.busy c below_64

    owner_here : get_or x.table.owners c 0 ≡ owner_of s k
    owner_here = let n = tidy.owners in let q = below_64 in get_or-set_same t.owners c (owner_of s k) 0 (omega arith)

    use_landed : is_some x.landed ≡ true → use_at x.table c ≡ Whole s k
    use_landed q =
        use_whole _ _ _ s k busy_here
        (ap (λ (b : Bool). has_bit (cond b (with_bit t.landed c) (without_bit t.landed c)) c) q ∙ with_same t.landed c below_64) owner_here low_k

    use_waits : is_some x.landed ≡ false → use_at x.table c ≡ Comes s k
    use_waits q =
        use_comes _ _ _ s k busy_here
        (ap (λ (b : Bool). has_bit (cond b (with_bit t.landed c) (without_bit t.landed c)) c) q ∙ without_same t.landed c) owner_here low_k

    put_touched : Touched s t x
    put_touched =
        record {
          count = refl;
          below = place_below t store tidy s k;
          was = ⊎_elim (λ q. subst (Its s) (sym q) tt) (λ q. subst (Its s) (sym q) refl) use_was;
          empty = λ M. ⊎_elim (λ q. ap (entry_of M) q) (λ q. ap (entry_of M) q) use_was;
          is = ⊎_elim (λ q. subst (Its s) (sym (use_landed q)) refl) (λ q. subst (Its s) (sym (use_waits q)) refl) (cases (is_some x.landed));
          lands = use_landed;
          waits = λ q M. ap (entry_of M) (use_waits q);
        }

  touched : (accept t w store s field p).lost ≡ false → Stood t store (accept t w store s field p) ⊎ Touched s t (accept t w store s field p)
  touched =
      accept_cases t w store s field p (λ x. x.lost ≡ false → Stood t store x ⊎ Touched s t x)
      (λ q z. inl (record { table = refl; store = refl; quiet = refl }))
      (λ k q h z. inl (record { table = refl; store = refl; quiet = refl }))
      (λ k o a q c y z. inl (record { table = refl; store = refl; quiet = refl }))
      (λ k o q z. absurd (never_both true refl z))
      (λ k o q z. inr (put_touched k q))

-- ---- the piece

module _ (M : Sent) (v : View) (l : Ledger) (e : ℕ → Option Message) (tie : Tie M v l e) (s field : ℕ) (p : List ℕ) (off : M.watched s ≡ false)
    (short : length p ≤ 255) where
  abbrev r : Accepted
  r = accept v.table (v.windows s) v.store s field p

  fit : FitView v
  fit = record { tidy = tie.tidy; sound = tie.sound }

  same_else : (d : ℕ) → (d ≡ r.cell → ⊥) → 6400 * d + 6400 ≤ length v.store → SameCell v.table r.table v.store r.store d
  same_else = accept_other v.table (v.windows s) v.store s field p tie.tidy short

  abbrev view_by : Bool → View
  view_by b = record { table = r.table; store = r.store; windows = windows_after v.windows s b r.number }

  abbrev event : Event2
  event = record { slot = s; cell = r.cell; number = r.number % 256 }

  abbrev entered : ℕ → Option Message
  entered = enter r.cell (Some (record { slot = s; number = r.number % 256 })) e

  stood_by : Stood v.table v.store r → (b : Bool) → is_some r.landed ≡ b → Joint M l (view_by b) l (cond b (Some event) None) [] e
  stood_by h true q = absurd (never_both (is_some r.landed) q h.quiet)
  stood_by h false q =
      record {
        tie = subst (λ (t : Table). Tie M (record { table = t; store = r.store; windows = v.windows }) l e) (sym h.table)
            (subst (λ (y : List ℕ). Tie M (record { table = v.table; store = y; windows = v.windows }) l e) (sym h.store) tie);
        handed = refl;
      }

  touched_by : Touched s v.table r → (b : Bool) → is_some r.landed ≡ b → FitView (view_by b) → Joint M l (view_by b) l (cond b (Some event) None) [] e
  touched_by h true q f =
      record {
        off = off;
        tie = aside_tie M v l e tie s off (view_by true) r.cell f h.count
            (λ a z. ap (λ (u : Bool). cond u (land_of (v.windows a) r.number) (v.windows a)) (ne_eqb s a (λ i. z (sym i))))
            same_else h.was h.is entered
            (ap (λ (u : Bool). cond u (Some (record { slot = s; number = r.number % 256 })) (e r.cell)) (eq-eqb r.cell r.cell refl)
            ∙ ap (λ (u : Bool). Some (record { slot = s; number = cond u r.number (r.number % 256) })) (sym off)
            ∙ sym (ap (entry_of M) (h.lands q)))
            (λ d z. ap (λ (u : Bool). cond u (Some (record { slot = s; number = r.number % 256 })) (e d)) (ne_eqb r.cell d (λ i. z (sym i))));
        handed = refl;
        number = omega arith;
        below = let a = h.below in let b = h.count in omega arith;
        bare = tie.entries r.cell ∙ h.empty M;
      }
  touched_by h false q f =
      record {
        tie = aside_tie M v l e tie s off (view_by false) r.cell f h.count (λ a z. refl) same_else h.was h.is e
            (tie.entries r.cell ∙ h.empty M ∙ sym (h.waits q M)) (λ d z. refl);
        handed = refl;
      }

  -- it is heard
  pub aside_good : r.lost ≡ false → Joint M l (view_after v s r) l (event_for s r) [] e
  aside_good kept =
      ⊎_elim (λ h. stood_by h (is_some r.landed) refl) (λ h. touched_by h (is_some r.landed) refl (piece_fit v s field p fit short kept))
      (touched v.table (v.windows s) v.store s field p tie.tidy kept)
