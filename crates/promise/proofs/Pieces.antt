-- One piece of a boat keeps the tie: the station lands a message exactly where the book hands one over. Assumes nothing.
use Rattle.std.specs.Prelude.{Option, Some, None, is_some}
use mathlib.Core.Path.{◌≡◌, refl, sym, ap, ◌∙◌, subst}
use mathlib.Core.Bool.{Bool, true, false, not, cond, ◌&&◌}
use mathlib.Core.List.{List, [], ◌∷◌}
use mathlib.Core.Logic.{inl, inr, ⊎_elim}
use Prim.Native.Nat.{ℕ, ◌+◌, ◌*◌, ◌/◌, ◌%◌, ◌^◌, ◌≤◌, ◌<◌}
use native.Mathlib.Omega.{arith}
use lib.ListN.{length, get_or}
use lib.Seq.{get_or-set_same}
use lib.Dec.{eqb}
use borrow.Author.Tests.{eq-eqb, ne_eqb}
use Rattle.bits.specs.Mask.{has_bit}
use Rattle.bits.proofs.Laws.{with_same, without_same}
use Rattle.bits.proofs.Lists.{cases, le_or_lt, eq_or_not, never_both}
use Rattle.wire.specs.Numbers.{widened}
use Rattle.wire.proofs.Near.{widen_near}
use Rattle.inbox.specs.declared.cell.Cell.{Cell}
use Rattle.inbox.specs.declared.keep.Kept.{Kept}
use Rattle.inbox.specs.declared.keep.Kept.TheVariants.{Needless, Yes, Late, Overlong, Long, NoCell, NoPlace}
use Rattle.inbox.specs.Cells.{Held, held}
use Rattle.inbox.specs.Stores.{cell_of, in_cell}
use Rattle.inbox.specs.Messages.{announced, landed}
use Rattle.inbox.proofs.Joined.{Inv, More, same_loose, accept_inv}
use Rattle.inbox.proofs.Apart.{in_length, in_same, in_other}
use Rattle.inbox.proofs.Rule.{KeptIs, yes_is, kept_room}
use Rattle.stream.specs.declared.window.Window.{Window}
use Rattle.stream.specs.declared.table.Taken.{Taken}
use Rattle.stream.specs.Window.{handed_of, land_of, barred_of, bar_of}
use Rattle.stream.specs.Table.{Table, Accepted, accepted, passed, took, no_cell, cell_at, cell_for, has_room, owner_of, table_room, is_over, changes, is_lost, kept_table}
use Rattle.stream.specs.Table as table
use Rattle.stream.proofs.Tables.{Tidy, kept_tidy, kept_other, place_below, place_in, room_only}
use Rattle.stream.proofs.Windows.{Sound, sound_next, sound_land, land_at, land_bars, handed_low, next_not_handed}
use Rattle.stream.proofs.Accepts.{left_as, answer_of, cell_in, held_after, put_as, accept_cases, kept_modest, after_length, after_fits}
use Rattle.promise.specs.Promise.{Sent, Message, Ledger, Entered, unchanged, same, inside, cover, also_handed, all_below, completes, book_piece, Event2, enter, Lowest, PieceOk}
use Rattle.promise.proofs.Ledgers.{of_all, same_true, cover_other, cover_same, cover_nothing, inside_true, inside_of, handed_other, handed_self, Cov, part_of, cut_part, landed_bytes, landed_is, one_or}
use Rattle.promise.proofs.Ties.{View, Comes, Whole, use_of, use_at, held_at, Tie, use_comes, use_whole, Aim, aim, needless_here, put_tie}

-- ---- what a piece comes to, on both sides

abbrev pub also_one : {A : Type 0} → Option A → List A → List A
also_one None l = l
also_one (Some e) l = e ∷ l

pub record Still (M : Sent) (l : Ledger) (v : View) (l' : Ledger) (e : ℕ → Option Message) : Type 0 where
  pub tie : Tie M v l' e
  pub handed : l'.handed ≡ l.handed

-- another boat's message lands: the book has its cell in use
pub record Passes (M : Sent) (l : Ledger) (v : View) (l' : Ledger) (x : Event2) (e : ℕ → Option Message) : Type 0 where
  pub off : M.watched x.slot ≡ false
  pub tie : Tie M v l' (enter x.cell (Some (record { slot = x.slot; number = x.number })) e)
  pub handed : l'.handed ≡ l.handed
  pub number : x.number ≡ x.number % 256
  pub below : x.cell < v.table.count
  pub bare : e x.cell ≡ None

pub record Lands (M : Sent) (l : Ledger) (v : View) (l' : Ledger) (x : Event2) (m : Message) (e : ℕ → Option Message) : Type 0 where
  pub on : M.watched x.slot ≡ true
  pub tie : Tie M v l' (enter x.cell (Some m) e)
  pub handed : l'.handed ≡ also_handed m.slot m.number l.handed
  pub slot : x.slot ≡ m.slot
  pub number : x.number ≡ m.number % 256
  pub below : x.cell < v.table.count
  pub bare : e x.cell ≡ None
  pub new : l.handed m.slot m.number ≡ false
  pub near : (y : ℕ) → l.handed m.slot y ≡ false → m.number ≤ y + 127
  pub fit : x.cell < 64

abbrev pub Joint : Sent → Ledger → View → Ledger → Option Event2 → List Message → (ℕ → Option Message) → Type 0
Joint M l v l' None [] e = Still M l v l' e
Joint M l v l' None (m ∷ ms) e = ⊥
Joint M l v l' (Some x) [] e = Passes M l v l' x e
Joint M l v l' (Some x) (m ∷ []) e = Lands M l v l' x m e
Joint M l v l' (Some x) (m ∷ n ∷ ms) e = ⊥

-- the windows after a piece: the slot's own has one message more, where one landed
abbrev pub windows_after : (ℕ → Window) → ℕ → Bool → ℕ → ℕ → Window
windows_after win s b k i = cond (b && eqb s i) (land_of (win i) k) (win i)

abbrev pub view_after : View → ℕ → Accepted → View
view_after v s x = record { table = x.table; store = x.store; windows = windows_after v.windows s (is_some x.landed) x.number }

-- and where its number is barred: the store stays
abbrev pub windows_barred : (ℕ → Window) → ℕ → ℕ → ℕ → Window
windows_barred win s k i = cond (eqb s i) (bar_of (win i) k) (win i)

abbrev pub view_barred : View → ℕ → Accepted → View
view_barred v s x = record { table = x.table; store = v.store; windows = windows_barred v.windows s x.number }

abbrev pub event_for : ℕ → Accepted → Option Event2
event_for s x = cond (is_some x.landed) (Some (record { slot = s; cell = x.cell; number = x.number % 256 })) None

abbrev pub Good : Sent → Ledger → (ℕ → Option Message) → View → ℕ → Accepted → Entered Ledger → Type 0
Good M l e v s x n = Joint M l (view_after v s x) n.left (event_for s x) n.out e

not_both : (t : Bool) → not t && t ≡ false
not_both true = refl
not_both false = refl

or_same : (t : Bool) → cond t true true ≡ true
or_same true = refl
or_same false = refl

pub is_same : (k j : ℕ) → Some k ≡ Some j → k ≡ j
is_same k j q = cc

-- a piece that covers f, handing its message over or not
abbrev pub enter_by : Bool → ℕ → ℕ → Ledger → (ℕ → ℕ → ℕ → Bool) → Entered Ledger
enter_by b s k l f =
    cond b (record { left = record { covered = f; handed = also_handed s k l.handed }; out = record { slot = s; number = k } ∷ [] })
    (unchanged (record { covered = f; handed = l.handed }))

module _ (M : Sent) (v : View) (l : Ledger) (e : ℕ → Option Message) (tie : Tie M v l e)
    (s k field : ℕ) (p : List ℕ) (on : M.watched s ≡ true) (small : length (M.text s k) ≤ 65535) (ok : PieceOk M l s k field p) where
  abbrev w : Window
  w = v.windows s

  abbrev o : ℕ
  o = field % 65536

  pub lowest_is : Lowest l s w.next
  lowest_is = (tie.numbers s w.next on ∙ next_not_handed w, λ j a. tie.numbers s j on ∙ handed_low w j a)

  -- the number is made whole
  pub is_number : widened (field / 65536 % 256) w.next ≡ Some k
  is_number =
      let n = ok.near w.next lowest_is in
      let z = sound_next w (tie.sound s) in
      ap (λ (y : ℕ). widened y w.next) ok.eight ∙ widen_near k w.next z n.0 n.1

  low_k : k < 2 ^ 32
  low_k = let n = ok.near w.next lowest_is in let z = sound_next w (tie.sound s) in omega arith

  -- a piece whose bytes are all covered does nothing in the book
  quiet_book : ((i : ℕ) → o ≤ i → i < o + length p → l.covered s k i ≡ true) → book_piece M s k o (length p) l ≡ unchanged l
  quiet_book h =
      ap (λ (f : ℕ → ℕ → ℕ → Bool). enter_by (completes M s k l f) s k l f) (cover_nothing s k o (length p) l.covered h)
      ∙ ap (λ (t : Bool). enter_by t s k l l.covered)
      (ap (λ (t : Bool). not (l.handed s k) && t) (sym (tie.says s k)) ∙ not_both (l.handed s k))

  handed_covered : l.handed s k ≡ true → (i : ℕ) → o ≤ i → i < o + length p → l.covered s k i ≡ true
  handed_covered t i a b = let c = ok.cut.fits in of_all (2 + length (M.text s k)) (l.covered s k) (sym (tie.says s k) ∙ t) i (omega arith)

  still : Still M l v l e
  still = record { tie = tie; handed = refl }

  -- of a piece that is heard
  abbrev Fair : Accepted → Type 0
  Fair x = x.lost ≡ false → Good M l e v s x (book_piece M s k o (length p) l)

  quiet : book_piece M s k o (length p) l ≡ unchanged l → Joint M l v (book_piece M s k o (length p) l).left None (book_piece M s k o (length p) l).out e
  quiet q = subst (λ (n : Entered Ledger). Joint M l v n.left None n.out e) (sym q) still

  -- whether the piece claims too much
  abbrev over : Bool
  over = is_over (barred_of w k) v.store (table_room v.table s k) (cell_at v.table (cell_in v.table s k)) o p

  is_needless : (a : Kept) → changes a ≡ false → is_lost a ≡ false → a ≡ Needless
  is_needless Needless q z = refl
  is_needless Yes q z = absurd (never_both true refl q)
  is_needless Late q z = absurd (never_both true refl z)
  is_needless Overlong q z = absurd (never_both true refl z)
  is_needless Long q z = absurd (never_both true refl z)
  is_needless NoCell q z = absurd (never_both true refl z)
  is_needless NoPlace q z = absurd (never_both true refl z)

  left_fair : (a : Kept) → answer_of v.table w v.store s k o p ≡ a → changes a ≡ false → Fair (left_as v.table w v.store (cell_in v.table s k) k a)
  left_fair a q c z = quiet (quiet_book (needless_here M v l e tie s k on low_k o (length p) over (q ∙ is_needless a c z)))

  -- ---- a kept piece
  module _ (hand : l.handed s k ≡ false) (yes : answer_of v.table w v.store s k o p ≡ Yes) where
    abbrev c : ℕ
    c = cell_in v.table s k

    abbrev x : Cell
    x = cell_for (table_room v.table s k) (cell_at v.table c)

    abbrev h : Held
    h = held_after v.table v.store s k o p

    abbrev covers : ℕ → ℕ → ℕ → Bool
    covers = cover s k o (length p) l.covered

    kept : KeptIs k o (length p) over (has_room (table_room v.table s k)) x
    kept = yes_is k o (length p) over (has_room (table_room v.table s k)) x yes

    -- its number is not barred
    free : barred_of w k ≡ false
    free = (kept_modest v.table w v.store s field p tie.tidy ok.cut.short k yes).0

    m : Aim M v l s k c x
    m = aim M v l e tie s k on low_k hand free kept.celled

    long : length h.bytes ≡ 6400
    long = after_length v.table w v.store s field p tie.tidy ok.cut.short k yes

    after_inv : Inv (part_of (M.text s k)) (Cov (covers s k)) h
    after_inv =
        let u = accept_inv (part_of (M.text s k)) (Cov (l.covered s k)) (held x (cell_of v.store c)) m.inv.0 m.inv.1 o p (cut_part (M.text s k) o p ok.cut kept.fits)
        (kept_room k o over (has_room (table_room v.table s k)) x (cell_of v.store c) p (inl yes)) in
        subst (λ (g : ℕ → Bool). Inv (part_of (M.text s k)) (Cov g) h) (sym (cover_same s k o (length p) l.covered)) (
          same_loose (part_of (M.text s k)) (More (Cov (l.covered s k)) o (length p)) (Cov (λ i. cond (inside o (length p) i) true (l.covered s k i))) h u.0
              (λ i d.
              ⊎_elim (λ y. ap (λ (t : Bool). cond (inside o (length p) i) true t) y ∙ or_same (inside o (length p) i))
              (λ y. ap (λ (t : Bool). cond t true (l.covered s k i)) (inside_of o (length p) i y.0 y.1)) d)
              (λ i d.
              ⊎_elim (λ y. u.0.all i (inr (inside_true o (length p) i y)))
              (λ y. u.0.all i (inl (sym (ap (λ (t : Bool). cond t true (l.covered s k i)) y) ∙ d)))
              (cases (inside o (length p) i))),
          u.1,
        )

    lands_iff : completes M s k l covers ≡ landed h
    lands_iff =
        ap (λ (t : Bool). not t && all_below (2 + length (M.text s k)) (covers s k)) hand
        ∙ sym (landed_is (M.text s k) small (covers s k) h after_inv)

    cov_other : (a b : ℕ) → same s k a b ≡ false → covers a b ≡ l.covered a b
    cov_other a b t = cover_other s k o (length p) l.covered a b t

    in_store : 6400 * c + 6400 ≤ length v.store
    in_store = (place_in v.table v.store tie.tidy s k).1

    below_64 : c < 64
    below_64 = (place_in v.table v.store tie.tidy s k).0

    -- the cell as it is after the piece, landed or not
    module _ (b : Bool) (is : landed h ≡ b) where
      abbrev taken : Taken
      taken = record { cell = h.cell; kept = Yes; landed = cond b (Some (announced h.bytes)) None }

      abbrev t' : Table
      t' = kept_table v.table c (owner_of s k) taken

      abbrev store' : List ℕ
      store' = in_cell v.store c h.bytes

      tidy' : Tidy t' store'
      tidy' =
          kept_tidy v.table c (owner_of s k) taken v.store store' tie.tidy (place_below v.table v.store tie.tidy s k)
          (in_length v.store c h.bytes in_store long)
          (after_fits v.table w v.store s field p tie.tidy ok.cut.short k yes)
          (room_only v.table v.store tie.tidy s k kept.celled)

      busy_here : has_bit t'.busy c ≡ true
      busy_here = with_same v.table.busy c below_64

      owner_here : get_or t'.owners c 0 ≡ owner_of s k
      owner_here = let n = tie.tidy.owners in let q = below_64 in get_or-set_same v.table.owners c (owner_of s k) 0 (omega arith)

      held_here : (win : ℕ → Window) → held_at (record { table = t'; store = store'; windows = win }) c ≡ h
      held_here win =
          let n = tie.tidy.cells in
          let q = below_64 in
          ap (λ (y : Cell). held y (cell_of store' c)) (get_or-set_same v.table.cells c h.cell no_cell (omega arith))
          ∙ ap (held h.cell) (in_same v.store c h.bytes in_store long)

      use_there : (d : ℕ) → (d ≡ c → ⊥) → use_at t' d ≡ use_at v.table d
      use_there d z =
          let r = kept_other v.table c (owner_of s k) taken d z in
          ap (λ (y : Bool). use_of y (has_bit t'.landed d) (get_or t'.owners d 0)) r.0
          ∙ ap (λ (y : Bool). use_of (has_bit v.table.busy d) y (get_or t'.owners d 0)) r.1
          ∙ ap (use_of (has_bit v.table.busy d) (has_bit v.table.landed d)) r.2

      held_there : (win : ℕ → Window) (d : ℕ) → (d ≡ c → ⊥) → d < v.table.count
          → held_at (record { table = t'; store = store'; windows = win }) d ≡ held_at v d
      held_there win d z a =
          let r = kept_other v.table c (owner_of s k) taken d z in
          let n = tie.tidy.room in
          ap (λ (y : Cell). held y (cell_of store' d)) r.3
          ∙ ap (held (cell_at v.table d)) (in_other v.store c h.bytes in_store long d z (omega arith))

    -- comes in still
    fill_tie : (is : landed h ≡ false) → Tie M (record { table = t' false is; store = store' false is; windows = v.windows }) (record { covered = covers; handed = l.handed }) e
    fill_tie is =
        put_tie M v l e tie s k c x m (record { table = t' false is; store = store' false is; windows = v.windows }) (Comes s k) h
        (tidy' false is) refl
        (use_comes _ _ _ s k (busy_here false is) (without_same v.table.landed c) (owner_here false is) low_k)
        (held_here false is v.windows) (use_there false is) (held_there false is v.windows)
        (record { covered = covers; handed = l.handed }) (record { cov = cov_other; hand = λ a b q. refl }) e
        tie.sound (λ a b. refl) tie.numbers says
        (λ i. record { not_yet = hand; inv = after_inv })
        (λ q. refl) (tie.entries c ∙ m.unlanded) (λ d z. refl)
      where
        says : (a b : ℕ) → l.handed a b ≡ all_below (2 + length (M.text a b)) (covers a b)
        says a b = at (same s k a b) refl
          where
            at : (u : Bool) → same s k a b ≡ u → l.handed a b ≡ all_below (2 + length (M.text a b)) (covers a b)
            at true q =
                let r = same_true s k a b q in
                let here : l.handed s k ≡ all_below (2 + length (M.text s k)) (covers s k) =
                hand ∙ sym is ∙ landed_is (M.text s k) small (covers s k) h after_inv in
                subst (λ (y : ℕ). l.handed a y ≡ all_below (2 + length (M.text a y)) (covers a y)) r.1
                (subst (λ (y : ℕ). l.handed y k ≡ all_below (2 + length (M.text y k)) (covers y k)) r.0 here)
            at false q = tie.says a b ∙ ap (all_below (2 + length (M.text a b))) (sym (cov_other a b q))

    -- has landed
    next_le : w.next ≤ k
    next_le =
        ⊎_elim (λ a. a) (λ a. absurd (never_both (l.handed s k) (tie.numbers s k on ∙ handed_low w k a) hand)) (le_or_lt w.next k)

    next_near : k ≤ w.next + 127
    next_near = (ok.near w.next lowest_is).1

    abbrev win' : ℕ → Window
    win' = windows_after v.windows s true k

    win_here : (a : ℕ) → a ≡ s → win' a ≡ land_of w k
    win_here a q =
        ap (λ (t : Bool). cond t (land_of (v.windows a) k) (v.windows a)) (eq-eqb s a (sym q)) ∙ ap (λ (y : ℕ). land_of (v.windows y) k) q

    win_there : (a : ℕ) → (a ≡ s → ⊥) → win' a ≡ v.windows a
    win_there a z = ap (λ (t : Bool). cond t (land_of (v.windows a) k) (v.windows a)) (ne_eqb s a (λ q. z (sym q)))

    sound' : (a : ℕ) → Sound (win' a)
    sound' a =
        ⊎_elim (λ q. subst Sound (sym (win_here a q)) (sound_land w (tie.sound s) k free kept.low next_le (omega (arith, next_near))))
        (λ z. subst Sound (sym (win_there a z)) (tie.sound a)) (eq_or_not a s)

    bars' : (a b : ℕ) → barred_of (win' a) b ≡ barred_of (v.windows a) b
    bars' a b =
        ⊎_elim (λ q. ap (λ (y : Window). barred_of y b) (win_here a q) ∙ land_bars w (tie.sound s) k free next_le b ∙ ap (λ (y : ℕ). barred_of (v.windows y) b) (sym q))
        (λ z. ap (λ (y : Window). barred_of y b) (win_there a z)) (eq_or_not a s)

    numbers' : (a b : ℕ) → M.watched a ≡ true → also_handed s k l.handed a b ≡ handed_of (win' a) b
    unfolding also_handed
    numbers' a b i =
        ⊎_elim (λ q.
        let n = sound_next w (tie.sound s) in
        let z = next_near in
        ap (λ (u : Bool). cond (u && eqb k b) true (l.handed a b)) (eq-eqb s a (sym q))
        ∙ ap (λ (y : ℕ). cond (eqb k b) true (l.handed y b)) q
        ∙ ap (λ (u : Bool). cond (eqb k b) true u) (tie.numbers s b on)
        ∙ one_or k b (handed_of w b)
        ∙ sym (land_at w k (tie.sound s).low (tie.sound s).high (omega arith) next_le (omega arith) b)
        ∙ ap (λ (y : Window). handed_of y b) (sym (win_here a q)))
        (λ z.
        ap (λ (u : Bool). cond (u && eqb k b) true (l.handed a b)) (ne_eqb s a (λ q. z (sym q)))
        ∙ tie.numbers a b i
        ∙ ap (λ (y : Window). handed_of y b) (sym (win_there a z)))
        (eq_or_not a s)

    land_tie : (is : landed h ≡ true)
        → Tie M (record { table = t' true is; store = store' true is; windows = win' }) (record { covered = covers; handed = also_handed s k l.handed })
        (enter c (Some (record { slot = s; number = k })) e)
    land_tie is =
        put_tie M v l e tie s k c x m (record { table = t' true is; store = store' true is; windows = win' }) (Whole s k) h
        (tidy' true is) refl
        (use_whole _ _ _ s k (busy_here true is) (with_same v.table.landed c below_64) (owner_here true is) low_k)
        (held_here true is win') (use_there true is) (held_there true is win')
        (record { covered = covers; handed = also_handed s k l.handed })
        (record { cov = cov_other; hand = λ a b q. handed_other s k l.handed a b q })
        (enter c (Some (record { slot = s; number = k })) e)
        sound' bars' numbers' says
        (λ i. landed_bytes (M.text s k) small (covers s k) h after_inv is)
        (λ q. absurd (never_both (also_handed s k l.handed s k) (handed_self s k l.handed) q))
        (rw (eq-eqb c c refl, on))
        (λ d z. rw (ne_eqb c d (λ q. z (sym q))))
      where
        says : (a b : ℕ) → also_handed s k l.handed a b ≡ all_below (2 + length (M.text a b)) (covers a b)
        says a b = at (same s k a b) refl
          where
            at : (u : Bool) → same s k a b ≡ u → also_handed s k l.handed a b ≡ all_below (2 + length (M.text a b)) (covers a b)
            at true q =
                let r = same_true s k a b q in
                let here : also_handed s k l.handed s k ≡ all_below (2 + length (M.text s k)) (covers s k) =
                handed_self s k l.handed ∙ sym is ∙ landed_is (M.text s k) small (covers s k) h after_inv in
                subst (λ (y : ℕ). also_handed s k l.handed a y ≡ all_below (2 + length (M.text a y)) (covers a y)) r.1
                (subst (λ (y : ℕ). also_handed s k l.handed y k ≡ all_below (2 + length (M.text y k)) (covers y k)) r.0 here)
            at false q =
                handed_other s k l.handed a b q ∙ tie.says a b ∙ ap (all_below (2 + length (M.text a b))) (sym (cov_other a b q))

    near_all : (y : ℕ) → l.handed s y ≡ false → k ≤ y + 127
    near_all y q =
        let z = next_near in
        ⊎_elim (λ a. omega arith) (λ a. absurd (never_both (l.handed s y) (lowest_is.1 y a) q)) (le_or_lt w.next y)

    put_fair : Fair (put_as v.table w v.store s k o p)
    put_fair heard =
        subst (λ (t : Bool). Good M l e v s (put_as v.table w v.store s k o p) (enter_by t s k l covers)) (sym lands_iff) (at (landed h) refl)
      where
        at : (b : Bool) → landed h ≡ b
            → Good M l e v s
            (accepted v.table w (table_room v.table s k) s k (took (record { cell = h.cell; kept = Yes; landed = cond b (Some (announced h.bytes)) None }) (in_cell v.store c h.bytes)))
            (enter_by b s k l covers)
        at true q =
            record {
              on = on;
              tie = land_tie q;
              handed = refl;
              slot = refl;
              number = refl;
              below = m.below;
              bare = tie.entries c ∙ m.unlanded;
              new = hand;
              near = near_all;
              fit = below_64;
            }
        at false q = record { tie = fill_tie q; handed = refl }

  pub piece_good : Fair (table.accept v.table w v.store s field p)
  piece_good =
      accept_cases v.table w v.store s field p Fair
      (λ q z. absurd (not_before (sym q ∙ is_number)))
      (λ j q h. subst (λ (y : ℕ). handed_of w y ≡ true → Fair (passed v.table w v.store y)) (is_same k j (sym is_number ∙ q))
      (λ t z. quiet (quiet_book (handed_covered (tie.numbers s k on ∙ t)))) h)
      (λ j q a r c z. subst (λ (y : ℕ). answer_of v.table w v.store s y o p ≡ a → Fair (left_as v.table w v.store (cell_in v.table s y) y a))
      (is_same k j (sym is_number ∙ q.is)) (λ t. left_fair a t c) r)
      (λ j q a z. absurd (never_both true refl z))
      (λ j q. subst (λ (y : ℕ). handed_of w y ≡ false → answer_of v.table w v.store s y o p ≡ Yes → Fair (put_as v.table w v.store s y o p))
      (is_same k j (sym is_number ∙ q.is)) (λ t. put_fair (tie.numbers s k on ∙ t)) q.fresh)
    where
      not_before : None ≡ Some k → ⊥
      not_before q = let z : ◌≡◌ {A = ℕ} 0 1 = cc in omega arith
