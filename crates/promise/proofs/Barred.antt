-- One piece of a message that claims too much, of any boat: its own cell is free, its number is barred, and what is tied to the book stays. Of a boat that is watched
-- its message has more than 2,046 bytes. Assumes nothing.
use Rattle.std.specs.Prelude.{Option}
use mathlib.Core.Path.{◌≡◌, refl, sym, ap, ◌∙◌, subst}
use mathlib.Core.Bool.{Bool, true, false, cond}
use mathlib.Core.List.{List}
use mathlib.Core.Logic.{◌⊎◌, inl, inr, ⊎_elim}
use Prim.Native.Nat.{ℕ, ◌+◌, ◌/◌, ◌%◌, ◌^◌, ◌≤◌, ◌<◌}
use native.Mathlib.Omega.{arith}
use lib.ListN.{length, get_or}
use lib.Dec.{eqb}
use borrow.Author.Tests.{eqb-true, eq-eqb, ne_eqb}
use Rattle.bits.specs.Mask.{has_bit}
use Rattle.bits.proofs.Laws.{without_same}
use Rattle.bits.proofs.Lists.{le_or_lt, eq_or_not, never_both, or_false, or_elim}
use Rattle.inbox.specs.declared.cell.Cell.{Cell}
use Rattle.inbox.specs.Cells.{held}
use Rattle.inbox.specs.Stores.{cell_of}
use Rattle.inbox.specs.declared.keep.Kept.TheVariants.{Overlong}
use Rattle.inbox.specs.Messages.{framed, Cut, shows_of}
use Rattle.inbox.proofs.Rule.{over_is}
use Rattle.stream.specs.declared.window.Window.{Window}
use Rattle.stream.specs.declared.table.Room.{Room}
use Rattle.stream.specs.declared.table.Room.TheVariants.{Own, Free, Full}
use Rattle.stream.specs.Window.{handed_of, barred_of, bar_of}
use Rattle.stream.specs.Table.{Table, accept, no_cell, cell_at, cell_for, held_for, has_room, is_over, owner_of, cell_count, table_room, freed_table, barred_table}
use Rattle.stream.proofs.Rooms.{RoomIs}
use Rattle.stream.proofs.Tables.{Tidy, table_room_lem, freed_tidy, freed_other}
use Rattle.stream.proofs.Windows.{Sound, sound_next, sound_bar, bar_handed, bar_bars}
use Rattle.stream.proofs.Accepts.{Open, answer_of, cell_in, accept_cases, open_window}
use Rattle.promise.specs.Promise.{Sent, Message, Ledger, PieceOk}
use Rattle.promise.proofs.Ties.{View, Use, Vacant, Comes, use_of, use_at, held_at, FineAt, entry_of, Tie, comes_is, use_vacant, filling_comes, shows_none}
use Rattle.promise.proofs.Pieces.{windows_barred, view_barred, is_same, is_number}

module _ (M : Sent) (v : View) (l : Ledger) (e : ℕ → Option Message) (tie : Tie M v l e) (s : ℕ) where
  abbrev w : Window
  w = v.windows s

  -- its number k lies in the window, and is not handed over
  module _ (k : ℕ) (low : k < 2 ^ 32) (up : w.next ≤ k) (near : k ≤ w.next + 127) (fresh : handed_of w k ≡ false)
      (much : M.watched s ≡ true → 2046 < length (M.text s k)) where
    abbrev win : ℕ → Window
    win = windows_barred v.windows s k

    win_here : (i : ℕ) → i ≡ s → win i ≡ bar_of w k
    win_here i q = ap (λ (t : Bool). cond t (bar_of (v.windows i) k) (v.windows i)) (eq-eqb s i (sym q)) ∙ ap (λ (y : ℕ). bar_of (v.windows y) k) q

    win_there : (i : ℕ) → (i ≡ s → ⊥) → win i ≡ v.windows i
    win_there i z = ap (λ (t : Bool). cond t (bar_of (v.windows i) k) (v.windows i)) (ne_eqb s i (λ q. z (sym q)))

    sound_win : (i : ℕ) → Sound (win i)
    sound_win i =
        ⊎_elim (λ q. subst Sound (sym (win_here i q)) (sound_bar w k up near (tie.sound s) fresh))
        (λ z. subst Sound (sym (win_there i z)) (tie.sound i)) (eq_or_not i s)

    handed_win : (i j : ℕ) → handed_of (win i) j ≡ handed_of (v.windows i) j
    handed_win i j =
        ⊎_elim (λ q. ap (λ (y : Window). handed_of y j) (win_here i q) ∙ bar_handed w k j ∙ ap (λ (y : ℕ). handed_of (v.windows y) j) (sym q))
        (λ z. ap (λ (y : Window). handed_of y j) (win_there i z)) (eq_or_not i s)

    claimed_win : (i j : ℕ) → M.watched i ≡ true → barred_of (win i) j ≡ true → 2046 < length (M.text i j)
    claimed_win i j on q =
        ⊎_elim (λ e.
        or_elim (barred_of w j) (eqb j k) (sym (bar_bars w k up near j) ∙ sym (ap (λ (y : Window). barred_of y j) (win_here i e)) ∙ q)
        (λ b. tie.claimed i j on (ap (λ (y : ℕ). barred_of (v.windows y) j) e ∙ b))
        (λ b.
        subst (λ (y : ℕ). 2046 < length (M.text i y)) (sym (eqb-true j k b))
        (subst (λ (y : ℕ). 2046 < length (M.text y k)) (sym e) (much (ap M.watched (sym e) ∙ on)))))
        (λ z. tie.claimed i j on (sym (ap (λ (y : Window). barred_of y j) (win_there i z)) ∙ q))
        (eq_or_not i s)

    -- not barred is not barred before, and is not message k
    free_win : (i j : ℕ) → barred_of (win i) j ≡ false → (barred_of (v.windows i) j ≡ false) × (s ≡ i → k ≡ j → ⊥)
    free_win i j free =
        ⊎_elim (λ q.
        let b = or_false (barred_of w j) (eqb j k) (sym (bar_bars w k up near j) ∙ sym (ap (λ (y : Window). barred_of y j) (win_here i q)) ∙ free) in
        (ap (λ (y : ℕ). barred_of (v.windows y) j) q ∙ b.0, λ p r. never_both (eqb j k) (eq-eqb j k (sym r)) b.1))
        (λ z. (sym (ap (λ (y : Window). barred_of y j) (win_there i z)) ∙ free, λ p r. z (sym p)))
        (eq_or_not i s)

    -- with the table t: each cell is for what it was for, or message k came into it and it is free
    module _ (t : Table) (tidy : Tidy t v.store) (count : t.count ≡ v.table.count) (cells : t.cells ≡ v.table.cells)
        (use_is : (d : ℕ) → (use_at t d ≡ use_at v.table d) ⊎ ((use_at t d ≡ Vacant) × (use_at v.table d ≡ Comes s k)))
      where
        abbrev v' : View
        v' = record { table = t; store = v.store; windows = win }

        held_same : (d : ℕ) → held_at v' d ≡ held_at v d
        held_same d = ap (λ (x : List Cell). held (get_or x d no_cell) (cell_of v.store d)) cells

        bar_tie : Tie M v' l e
        bar_tie =
            record {
              tidy = tidy;
              sound = sound_win;
              claimed = claimed_win;
              numbers = λ a b on. tie.numbers a b on ∙ sym (handed_win a b);
              says = tie.says;
              cells = λ d a.
                  subst (FineAt M l (use_at t d)) (sym (held_same d))
                  (⊎_elim (λ q. subst (λ (u : Use). FineAt M l u (held_at v d)) (sym q) (tie.cells d (omega arith)))
                  (λ q. subst (λ (u : Use). FineAt M l u (held_at v d)) (sym q.0) tt) (use_is d));
              bare = λ a b on h free nowhere.
                  let f = free_win a b free in
                  tie.bare a b on h f.0
                  (λ d o. ⊎_elim (λ q. nowhere d (q ∙ o)) (λ q. let r = comes_is s k a b (sym q.1 ∙ o) in f.1 r.0 r.1) (use_is d));
              entries = λ d.
                  tie.entries d
                  ∙ ⊎_elim (λ q. ap (entry_of M) (sym q)) (λ q. ap (entry_of M) q.1 ∙ sym (ap (entry_of M) q.0)) (use_is d);
            }

    by_room : (r : Room) → RoomIs v.table.owners v.table.busy v.table.landed (owner_of s k) (cell_count v.table.count) r
        → Tie M (record { table = barred_table v.table r; store = v.store; windows = win }) l e
    by_room (Own c) h = bar_tie (freed_table v.table c) (freed_tidy v.table v.store tie.tidy c) refl refl use_is
      where
        use_is : (d : ℕ) → (use_at (freed_table v.table c) d ≡ use_at v.table d) ⊎ ((use_at (freed_table v.table c) d ≡ Vacant) × (use_at v.table d ≡ Comes s k))
        use_is d =
            ⊎_elim (λ q.
            inr (
              ap (use_at (freed_table v.table c)) q
                  ∙ use_vacant (has_bit (freed_table v.table c).busy c) (has_bit (freed_table v.table c).landed c) (get_or v.table.owners c 0) (without_same v.table.busy c),
              ap (use_at v.table) q ∙ filling_comes v.table c s k h.filling low,
            ))
            (λ z.
            let f = freed_other v.table v.store tie.tidy c d z in
            inl
            (ap (λ (y : Bool). use_of y (has_bit (freed_table v.table c).landed d) (get_or v.table.owners d 0)) f.0
            ∙ ap (λ (y : Bool). use_of (has_bit v.table.busy d) y (get_or v.table.owners d 0)) f.1))
            (eq_or_not d c)
    by_room (Free c) h = bar_tie v.table tie.tidy refl refl (λ d. inl refl)
    by_room Full h = bar_tie v.table tie.tidy refl refl (λ d. inl refl)

  -- of a boat that is watched the piece meets the premises, k its message's number
  module _ (k field : ℕ) (p : List ℕ) (small : M.watched s ≡ true → length (M.text s k) ≤ 65535) (ok : M.watched s ≡ true → PieceOk M l s k field p) where
    low_number : (j : ℕ) → Open v.table w v.store s field p j → j < 2 ^ 32
    low_number j o = let n = sound_next w (tie.sound s) in omega (arith, (open_window w (field / 65536 % 256) j (tie.sound s) o.is o.fresh).1)

    long_one : (j : ℕ) → Open v.table w v.store s field p j → answer_of v.table w v.store s j (field % 65536) p ≡ Overlong
        → M.watched s ≡ true → 2046 < length (M.text s j)
    long_one j o q on =
        let room = table_room v.table s j in
        let cell = cell_at v.table (cell_in v.table s j) in
        let is = is_same k j (sym (is_number M v l e tie s k field p on (small on) (ok on)) ∙ o.is) in
        let cut : Cut (framed (M.text s j)) (field % 65536) p = subst (λ (y : ℕ). Cut (framed (M.text s y)) (field % 65536) p) is (ok on).cut in
        or_elim (barred_of w j) (shows_of (held_for room cell v.store) (field % 65536) p)
        (over_is j (field % 65536) (length p) (is_over (barred_of w j) v.store room cell (field % 65536) p) (has_room room) (cell_for room cell) q).claimed
        (λ b. tie.claimed s j on b)
        (λ b.
        ⊎_elim (λ a. absurd (never_both _ b (shows_none M v l e tie s j on (low_number j o) a (field % 65536) p cut))) (λ a. a)
        (le_or_lt (length (M.text s j)) 2046))

    pub barred_good : (accept v.table w v.store s field p).bars ≡ true → Tie M (view_barred v s (accept v.table w v.store s field p)) l e
    barred_good =
        accept_cases v.table w v.store s field p (λ x. x.bars ≡ true → Tie M (view_barred v s x) l e)
        (λ q b. absurd (never_both false b refl)) (λ j q h b. absurd (never_both false b refl)) (λ j o a q c z b. absurd (never_both false b refl))
        (λ j o q b.
        let y = open_window w (field / 65536 % 256) j (tie.sound s) o.is o.fresh in
        by_room j (low_number j o) y.0 y.1 o.fresh (long_one j o q) (table_room v.table s j) (table_room_lem v.table v.store tie.tidy s j))
        (λ j o q b. absurd (never_both false b refl))
