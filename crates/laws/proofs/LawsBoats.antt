-- Pieces of two boats, each with a cell and no message landing, in either order: each piece changes what is held of its own message by what was held of it, and leaves
-- what is held of every other. Assumes nothing.
use Rattle.std.specs.Prelude.{Option, Some, None, is_some}
use mathlib.Core.Path.{◌≡◌, refl, sym, ap, ap₂, ◌∙◌, subst}
use mathlib.Core.Bool.{Bool, true, false, cond, ◌&&◌, ◌||◌}
use mathlib.Core.List.{List, []}
use mathlib.Core.Logic.{◌⊎◌, inl, inr, ⊎_elim}
use Prim.Native.Nat.{ℕ, ◌+◌, ◌*◌, ◌/◌, ◌%◌, ◌^◌, ◌≤◌, ◌<◌}
use native.Mathlib.Omega.{arith}
use lib.Dec.{leb, eqb}
use lib.ListN.{length, get_or, take, length-set}
use lib.Seq.{get_or-set_same, get_or-take, length-take-le}
use borrow.Author.Tests.{leb-true}
use Rattle.bits.specs.Mask.{has_bit, with_bit, without_bit}
use Rattle.bits.proofs.Laws.{with_same, without_same, without_other}
use Rattle.bits.proofs.Lists.{cond_true, cond_false, cond_keeps, cases, eq_or_not, never_both}
use Rattle.wire.specs.Numbers.{widened}
use Rattle.inbox.specs.declared.cell.Cell.{Cell}
use Rattle.inbox.specs.declared.keep.Kept.{Kept}
use Rattle.inbox.specs.declared.keep.Kept.TheVariants.{Yes, Overlong}
use Rattle.inbox.specs.Cells.{Held, held}
use Rattle.inbox.specs.Keeping.{kept_of}
use Rattle.inbox.specs.Messages.{Fits, empty_cell, empty, announced, landed, shows_of}
use Rattle.inbox.specs.Stores.{cell_of, landed_of}
use Rattle.inbox.specs.Box.{Box, take_in, pieces_of, box_of}
use Rattle.inbox.proofs.Apart.{in_same, in_other}
use Rattle.inbox.proofs.Boxes.{box_accept}
use Rattle.inbox.proofs.Parts.{cell_length}
use Rattle.inbox.proofs.Rule.{KeptIs, yes_is}
use Rattle.inbox.proofs.Steps.{empty_fits}
use Rattle.stream.specs.declared.window.Window.{Window}
use Rattle.stream.specs.declared.table.Room.{Room}
use Rattle.stream.specs.declared.table.Room.TheVariants.{Own, Free, Full}
use Rattle.stream.specs.Window.{handed_of, barred_of, fresh_of, land_of}
use Rattle.stream.specs.Table.{Table, Accepted, accept, no_cell, is_own, cell_at, cell_count, cell_for, held_for, place_of, has_room, owner_of, room_for, table_room, is_over, changes, bars, put_in, barred_table}
use Rattle.stream.proofs.Rooms.{RoomIs, room_is, own_filling, filling_own, owner_same, cells_are}
use Rattle.stream.proofs.Tables.{Tidy, filling, kept_other, filling_other, freed_other, place_in}
use Rattle.stream.proofs.Windows.{Sound, sound_next}
use Rattle.stream.proofs.Accepts.{left_as, barred_as, answer_of, cell_in, held_after, put_as, accept_cases, accept_tidy, after_length, after_fits, open_window}
use Rattle.roster.specs.Members.{barred_one}
use Rattle.net.specs.declared.Station.{Station}
use Rattle.net.specs.State.{index_of, member_at, table_of}
use Rattle.net.specs.Net.{is_member}
use Rattle.frames.specs.declared.Air.{Air}
use Rattle.frames.specs.Reading.{Reading}
use Rattle.frames.specs.Pieces.{is_relayed, relay_if, traffic_if, unkept_at, barred_piece, kept_piece, piece_frame}
use Rattle.rx.specs.Reception.{first_reading}
use Rattle.promise.specs.Promise.{Net}
use Rattle.laws.specs.Laws.{none_yet, box_in, Up, reads_up, both, IsUp, number_of, CellFor, Cells, LandsNone, Commutes}
use Rattle.promise.proofs.Ties.{View}
use Rattle.promise.proofs.Quiet.{window_at}
use Rattle.promise.proofs.Readings.{piece_view, piece_long, written_keeps}
use Rattle.promise.proofs.Fits.{accept_bar}
use Rattle.promise.proofs.Sounds.{Fit}

-- ---- what is held of the message of an owner

abbrev room_at : Table → ℕ → Room
room_at t o = room_for t.owners t.busy t.landed t.count o

abbrev box_at : Table → List ℕ → ℕ → Box
box_at t store o = box_in (room_at t o) t store

-- the numbers that the kept rule is asked of
abbrev asked : Table → ℕ → Cell
asked t o = cell_for (room_at t o) (cell_at t (place_of (room_at t o)))

-- the same with its bytes
abbrev shown : Table → List ℕ → ℕ → Held
shown t store o = held_for (room_at t o) (cell_at t (place_of (room_at t o))) store

abbrev NotOwn : Room → Type 0
NotOwn (Own c) = ⊥
NotOwn (Free c) = Unit {0}
NotOwn Full = Unit {0}

record OwnBoth (t : Table) (store : List ℕ) (t' : Table) (store' : List ℕ) (o c : ℕ) : Type 0 where
  pub was : room_at t o ≡ Own c
  pub is : room_at t' o ≡ Own c
  pub cell : cell_at t' c ≡ cell_at t c
  pub bytes : cell_of store' c ≡ cell_of store c

-- the message of the owner o is held alike: in one cell, whose numbers and bytes are the same, or in none
abbrev SameAt : Table → List ℕ → Table → List ℕ → ℕ → Type 0
SameAt t store t' store' o =
    ((c : ℕ) × OwnBoth t store t' store' o c) ⊎ (NotOwn (room_at t o) × NotOwn (room_at t' o))

none_box : (r : Room) (t : Table) (store : List ℕ) → NotOwn r → box_in r t store ≡ none_yet
none_box (Own c) t store z = absurd z
none_box (Free c) t store z = refl
none_box Full t store z = refl

none_asked : (r : Room) (x : Cell) → NotOwn r → cell_for r x ≡ empty_cell
none_asked (Own c) x z = absurd z
none_asked (Free c) x z = refl
none_asked Full x z = refl

same_box : (t : Table) (store : List ℕ) (t' : Table) (store' : List ℕ) (o : ℕ) → SameAt t store t' store' o → box_at t' store' o ≡ box_at t store o
same_box t store t' store' o (inl (c, w)) =
    ap (λ (r : Room). box_in r t' store') w.is
    ∙ ap₂ (λ (x : Cell) (bs : List ℕ). box_of (held x bs)) w.cell w.bytes
    ∙ sym (ap (λ (r : Room). box_in r t store) w.was)
same_box t store t' store' o (inr w) = none_box (room_at t' o) t' store' w.1 ∙ sym (none_box (room_at t o) t store w.0)

same_asked : (t : Table) (store : List ℕ) (t' : Table) (store' : List ℕ) (o : ℕ) → SameAt t store t' store' o → asked t' o ≡ asked t o
same_asked t store t' store' o (inl (c, w)) =
    ap (λ (r : Room). cell_for r (cell_at t' (place_of r))) w.is
    ∙ w.cell
    ∙ sym (ap (λ (r : Room). cell_for r (cell_at t (place_of r))) w.was)
same_asked t store t' store' o (inr w) =
    none_asked (room_at t' o) (cell_at t' (place_of (room_at t' o))) w.1 ∙ sym (none_asked (room_at t o) (cell_at t (place_of (room_at t o))) w.0)

none_shown : (r : Room) (x : Cell) (store : List ℕ) → NotOwn r → held_for r x store ≡ empty []
none_shown (Own c) x store z = absurd z
none_shown (Free c) x store z = refl
none_shown Full x store z = refl

same_shown : (t : Table) (store : List ℕ) (t' : Table) (store' : List ℕ) (o : ℕ) → SameAt t store t' store' o → shown t' store' o ≡ shown t store o
same_shown t store t' store' o (inl (c, w)) =
    ap (λ (r : Room). held_for r (cell_at t' (place_of r)) store') w.is
    ∙ ap₂ (λ (x : Cell) (bs : List ℕ). held x bs) w.cell w.bytes
    ∙ sym (ap (λ (r : Room). held_for r (cell_at t (place_of r)) store) w.was)
same_shown t store t' store' o (inr w) =
    none_shown (room_at t' o) (cell_at t' (place_of (room_at t' o))) store' w.1 ∙ sym (none_shown (room_at t o) (cell_at t (place_of (room_at t o))) store w.0)

-- ---- rooms of a tidy table

module _ (t : Table) (store : List ℕ) (tidy : Tidy t store) (o : ℕ) where
  abbrev Here : Room → Type 0
  Here = RoomIs t.owners t.busy t.landed o (cell_count t.count)

  here : Here (room_at t o)
  here = room_is t.owners t.busy t.landed o (cell_count t.count)

  -- a cell that is filling with the message is found by the search
  found : (c : ℕ) → filling t c o
      → ((d : ℕ) → d < cell_count t.count → is_own t.busy t.landed d (get_or t.owners d 0) o ≡ false) → ⊥
  found c f none =
      let l = tidy.within c f.taken in
      let e = cells_are t.count tidy.most in
      never_both _ (filling_own t.owners t.busy t.landed o c f) (none c (omega arith))

  own_room : (c : ℕ) → filling t c o → room_at t o ≡ Own c
  own_room c f = go (room_at t o) here
    where
      go : (r : Room) → Here r → r ≡ Own c
      go (Own d) w = ap Own (tidy.one d c o w.filling f)
      go (Free d) w = absurd (found c f w.none)
      go Full w = absurd (found c f w.none)

  not_own : ((d : ℕ) → filling t d o → ⊥) → NotOwn (room_at t o)
  not_own none = go (room_at t o) here
    where
      go : (r : Room) → Here r → NotOwn r
      go (Own d) w = none d w.filling
      go (Free d) w = tt
      go Full w = tt

  -- held in a cell, or filling none
  by_room : ((c : ℕ) × filling t c o) ⊎ ((d : ℕ) → filling t d o → ⊥)
  by_room = go (room_at t o) here
    where
      go : (r : Room) → Here r → ((c : ℕ) × filling t c o) ⊎ ((d : ℕ) → filling t d o → ⊥)
      go (Own d) w = inl (d, w.filling)
      go (Free d) w = inr (λ c f. found c f w.none)
      go Full w = inr (λ c f. found c f w.none)

  -- where there is room: the cell is not landed, and is filling with no other message
  open_here : has_room (room_at t o) ≡ true → has_bit t.landed (place_of (room_at t o)) ≡ false
  open_here = go (room_at t o) here
    where
      go : (r : Room) → Here r → has_room r ≡ true → has_bit t.landed (place_of r) ≡ false
      go (Own d) w h = w.filling.open_yet
      go (Free d) w h =
          ⊎_elim (λ e. absurd (never_both (has_bit t.busy d) (tidy.taken d e) w.unused)) (λ e. e) (cases (has_bit t.landed d))
      go Full w h = absurd (never_both false h refl)

  only_here : has_room (room_at t o) ≡ true → (a : ℕ) → filling t (place_of (room_at t o)) a → a ≡ o
  only_here = go (room_at t o) here
    where
      go : (r : Room) → Here r → has_room r ≡ true → (a : ℕ) → filling t (place_of r) a → a ≡ o
      go (Own d) w h a f = sym f.holds ∙ w.filling.holds
      go (Free d) w h a f = absurd (never_both (has_bit t.busy d) f.taken w.unused)
      go Full w h a f = absurd (never_both false h refl)

  -- where a cell is free there is room
  free_room : (c : ℕ) → c < t.count → has_bit t.busy c ≡ false → has_room (room_at t o) ≡ true
  free_room c a b = go (room_at t o) here
    where
      go : (r : Room) → Here r → has_room r ≡ true
      go (Own d) w = refl
      go (Free d) w = refl
      go Full w = let e = cells_are t.count tidy.most in absurd (never_both (has_bit t.busy c) (w.all c (omega arith)) b)

  asked_fits : place_of (room_at t o) < 64 → Fits (asked t o)
  asked_fits = go (room_at t o)
    where
      go : (r : Room) → place_of r < 64 → Fits (cell_for r (cell_at t (place_of r)))
      go (Own c) l = tidy.fits c l
      go (Free c) l = empty_fits
      go Full l = empty_fits

-- the cell that a piece goes into holds what is held of its message
empty_box : (bs : List ℕ) → box_of (held empty_cell bs) ≡ none_yet
unfolding pieces_of
empty_box bs = refl

box_asked : (r : Room) (t : Table) (store : List ℕ) → box_of (held (cell_for r (cell_at t (place_of r))) (cell_of store (place_of r))) ≡ box_in r t store
box_asked (Own c) t store = refl
box_asked (Free c) t store = empty_box (cell_of store c)
box_asked Full t store = empty_box (cell_of store 0)

-- ---- one piece

-- a piece with this field is of message k, which is not handed over
record Named (w : Window) (field k : ℕ) : Type 0 where
  pub is : widened (field / 65536 % 256) w.next ≡ Some k
  pub fresh : handed_of w k ≡ false

number_same : (n : Option ℕ) (k j : ℕ) → n ≡ Some k → n ≡ Some j → k ≡ j
number_same n k j p q = cc

number_none : (n : Option ℕ) (k : ℕ) → n ≡ Some k → n ≡ None → ⊥
number_none n k p q = let z : ◌≡◌ {A = ℕ} 0 1 = cc in omega arith

-- the rule's answer, by the cell that is asked and whether the number is barred
abbrev ruled : ℕ → ℕ → List ℕ → Bool → Held → Cell → Kept
ruled k o p barred g x = kept_of k o (length p) (barred || shows_of g o p) true x

-- what a piece of message k makes of what is held of it: it is taken, or nothing is held any more, or it changes nothing
abbrev grown_by : Kept → ℕ → List ℕ → Box → Box
grown_by a o p b = cond (changes a) (take_in b o p) (cond (bars a) none_yet b)

-- the message has landed, by what is held of it
abbrev lands_in : Box → Bool
lands_in b = leb 2 (length b.joined) && leb (2 + announced b.joined) (length b.joined)

lands_box : (h : Held) → h.cell.joined ≤ length h.bytes → is_some (landed_of h) ≡ lands_in (box_of h)
lands_box h fits =
    has_landed_lem (landed h)
    ∙ ⊎_elim (λ a. ap (λ (x : ℕ). leb 2 j && leb (2 + x) j) (sym (front (leb-true 2 j a))))
    (λ a. ap (λ (b : Bool). b && leb (2 + announced h.bytes) j) a ∙ sym (ap (λ (b : Bool). b && leb (2 + announced (take j h.bytes)) j) a)) (cases (leb 2 j))
    ∙ sym (ap (λ (x : ℕ). leb 2 x && leb (2 + announced (take j h.bytes)) x) (length-take-le j h.bytes fits))
  where
    j : ℕ
    j = h.cell.joined

    has_landed_lem : (b : Bool) → is_some (cond b (Some (announced h.bytes)) None) ≡ b
    has_landed_lem true = refl
    has_landed_lem false = refl

    front : 2 ≤ j → announced (take j h.bytes) ≡ announced h.bytes
    front a = ap₂ (λ (x y : ℕ). x + 256 * y) (get_or-take j h.bytes 0 0 (omega arith)) (get_or-take j h.bytes 1 0 (omega arith))

-- a piece of message k lands it
abbrev lands_by : Kept → ℕ → List ℕ → Box → Bool
lands_by a o p b = changes a && lands_in (take_in b o p)

module _ (t : Table) (w : Window) (store : List ℕ) (slot field : ℕ) (p : List ℕ) (tidy : Tidy t store) (short : length p ≤ 255) where
  abbrev off : ℕ
  off = field % 65536

  abbrev r : Accepted
  r = accept t w store slot field p

  tidy_after : Tidy r.table r.store
  tidy_after = accept_tidy t w store slot field p tidy short

  same_at : (o : ℕ) → SameAt t store t store o
  same_at o =
      ⊎_elim (λ f. inl (f.0, record { was = own_room t store tidy o f.0 f.1; is = own_room t store tidy o f.0 f.1; cell = refl; bytes = refl }))
      (λ none. inr (not_own t store tidy o none, not_own t store tidy o none)) (by_room t store tidy o)

  -- ---- a kept piece of message k
  module _ (k : ℕ) (yes : answer_of t w store slot k off p ≡ Yes) where
    abbrev c : ℕ
    c = cell_in t slot k

    abbrev h : Held
    h = held_after t store slot k off p

    abbrev t' : Table
    t' = (put_as t w store slot k off p).table

    abbrev store' : List ℕ
    store' = (put_as t w store slot k off p).store

    kept_is : KeptIs k off (length p) (is_over (barred_of w k) store (table_room t slot k) (cell_at t (cell_in t slot k)) off p) (has_room (table_room t slot k)) (asked t (owner_of slot k))
    kept_is = yes_is k off (length p) (is_over (barred_of w k) store (table_room t slot k) (cell_at t (cell_in t slot k)) off p) (has_room (table_room t slot k)) (asked t (owner_of slot k)) yes

    celled : has_room (table_room t slot k) ≡ true
    celled = kept_is.celled

    ends : off + length p ≤ 2048
    ends = kept_is.fits

    low : c < 64
    low = (place_in t store tidy slot k).0

    in_store : 6400 * c + 6400 ≤ length store
    in_store = (place_in t store tidy slot k).1

    long : length h.bytes ≡ 6400
    long = after_length t w store slot field p tidy short k yes

    owner_here : get_or t'.owners c 0 ≡ owner_of slot k
    owner_here = let n = tidy.owners in let l = low in get_or-set_same t.owners c (owner_of slot k) 0 (omega arith)

    other_put : Tidy t' store' → (o : ℕ) → (o ≡ owner_of slot k → ⊥) → SameAt t store t' store' o
    other_put tidy' o z = ⊎_elim (λ f. held_in f.0 f.1) (λ none. inr (not_own t store tidy o none, not_own t' store' tidy' o (still none))) (by_room t store tidy o)
      where
        held_in : (d : ℕ) → filling t d o → SameAt t store t' store' o
        held_in d f =
            let n : d ≡ c → ⊥ = λ e. z (only_here t store tidy (owner_of slot k) celled o (subst (λ (y : ℕ). filling t y o) e f)) in
            let q = kept_other t c (owner_of slot k) (put_in store c h).taken d n in
            let l = tidy.within d f.taken in
            let m = tidy.room in
            inl (
              d,
              record {
                was = own_room t store tidy o d f;
                is = own_room t' store' tidy' o d (record { taken = q.0 ∙ f.taken; open_yet = q.1 ∙ f.open_yet; holds = q.2 ∙ f.holds });
                cell = q.3;
                bytes = in_other store c h.bytes in_store long d n (omega arith);
              },
            )

        still : ((d : ℕ) → filling t d o → ⊥) → (d : ℕ) → filling t' d o → ⊥
        still none d f =
            ⊎_elim (λ e. z (sym f.holds ∙ ap (λ (y : ℕ). get_or t'.owners y 0) e ∙ owner_here))
            (λ n. none d (filling_other t c (owner_of slot k) (put_in store c h).taken d o n f)) (eq_or_not d c)

    box_after_lem : box_of h ≡ take_in (box_at t store (owner_of slot k)) off p
    box_after_lem =
        box_accept 6400 (omega arith) (held (asked t (owner_of slot k)) (cell_of store c))
        (asked_fits t store tidy (owner_of slot k) low, cell_length store c in_store) off p short ends
        ∙ ap (λ (b : Box). take_in b off p) (box_asked (table_room t slot k) t store)

    own_put : Tidy t' store' → is_some (put_as t w store slot k off p).landed ≡ false
        → box_at t' store' (owner_of slot k) ≡ take_in (box_at t store (owner_of slot k)) off p
    own_put tidy' quiet =
        let n = tidy.cells in
        let l = low in
        let open_yet : has_bit t'.landed c ≡ false =
        ap (λ (b : Bool). has_bit (cond b (with_bit t.landed c) (without_bit t.landed c)) c) quiet ∙ without_same t.landed c in
        ap (λ (x : Room). box_in x t' store')
        (own_room t' store' tidy' (owner_of slot k) c (record { taken = with_same t.busy c low; open_yet = open_yet; holds = owner_here }))
        ∙ ap₂ (λ (x : Cell) (bs : List ℕ). box_of (held x bs)) (get_or-set_same t.cells c h.cell no_cell (omega arith)) (in_same store c h.bytes in_store long)
        ∙ box_after_lem

  -- ---- a piece of message k, which claims too much: nothing is held of it any more
  module _ (k : ℕ) where
    abbrev barred_now : Table
    barred_now = barred_table t (table_room t slot k)

    -- a cell that fills after it filled before, and with another message
    barred_filling : (r : Room) → RoomIs t.owners t.busy t.landed (owner_of slot k) (cell_count t.count) r → (d o : ℕ) → filling (barred_table t r) d o
        → filling t d o × (o ≡ owner_of slot k → ⊥)
    barred_filling (Own c) q d o f =
        let n : d ≡ c → ⊥ = λ e. never_both (has_bit (without_bit t.busy c) d) f.taken (ap (has_bit (without_bit t.busy c)) e ∙ without_same t.busy c) in
        let r = freed_other t store tidy c d n in
        let g : filling t d o = record { taken = sym r.0 ∙ f.taken; open_yet = sym r.1 ∙ f.open_yet; holds = f.holds } in
        (g, λ e. n (tidy.one d c (owner_of slot k) (subst (filling t d) e g) q.filling))
    barred_filling (Free c) q d o f = (f, λ e. found t store tidy (owner_of slot k) d (subst (filling t d) e f) q.none)
    barred_filling Full q d o f = (f, λ e. found t store tidy (owner_of slot k) d (subst (filling t d) e f) q.none)

    was_filling : (d o : ℕ) → filling barred_now d o → filling t d o × (o ≡ owner_of slot k → ⊥)
    was_filling = barred_filling (table_room t slot k) (here t store tidy (owner_of slot k))

    own_barred : Tidy barred_now store → box_at barred_now store (owner_of slot k) ≡ none_yet
    own_barred tidy' =
        none_box (room_at barred_now (owner_of slot k)) barred_now store
        (not_own barred_now store tidy' (owner_of slot k) (λ d f. (was_filling d (owner_of slot k) f).1 refl))

    still_filling : (r : Room) → RoomIs t.owners t.busy t.landed (owner_of slot k) (cell_count t.count) r → (d o : ℕ) → (o ≡ owner_of slot k → ⊥) → filling t d o
        → filling (barred_table t r) d o
    still_filling (Own c) q d o z f =
        let r = freed_other t store tidy c d (λ e. z (sym f.holds ∙ ap (λ (y : ℕ). get_or t.owners y 0) e ∙ q.filling.holds)) in
        record { taken = r.0 ∙ f.taken; open_yet = r.1 ∙ f.open_yet; holds = f.holds }
    still_filling (Free c) q d o z f = f
    still_filling Full q d o z f = f

    cells_barred : (r : Room) → (barred_table t r).cells ≡ t.cells
    cells_barred (Own c) = refl
    cells_barred (Free c) = refl
    cells_barred Full = refl

    other_barred : Tidy barred_now store → (o : ℕ) → (o ≡ owner_of slot k → ⊥) → SameAt t store barred_now store o
    other_barred tidy' o z =
        ⊎_elim
        (λ f.
        inl (
          f.0,
          record {
            was = own_room t store tidy o f.0 f.1;
            is = own_room barred_now store tidy' o f.0 (still_filling (table_room t slot k) (here t store tidy (owner_of slot k)) f.0 o z f.1);
            cell = ap (λ (l : List Cell). get_or l f.0 no_cell) (cells_barred (table_room t slot k));
            bytes = refl;
          },
        ))
        (λ none. inr (not_own t store tidy o none, not_own barred_now store tidy' o (λ d f. none d (was_filling d o f).0)))
        (by_room t store tidy o)

    free_barred : (r : Room) (a : ℕ) → a < t.count → has_bit t.busy a ≡ false
        → (a < (barred_table t r).count) × (has_bit (barred_table t r).busy a ≡ false)
    free_barred (Own c) a l e =
        (l, ⊎_elim (λ q. ap (has_bit (without_bit t.busy c)) q ∙ without_same t.busy c) (λ q. without_other t.busy c a (λ v. q (sym v)) ∙ e) (eq_or_not a c))
    free_barred (Free c) a l e = (l, e)
    free_barred Full a l e = (l, e)

  -- ---- any piece

  -- another message stays as it is
  other : (o : ℕ) → ((k : ℕ) → Named w field k → o ≡ owner_of slot k → ⊥) → SameAt t store r.table r.store o
  other o z =
      accept_cases t w store slot field p (λ x. Tidy x.table x.store → SameAt t store x.table x.store o)
      (λ e d. same_at o) (λ k e h d. same_at o) (λ k u a q c v d. same_at o)
      (λ k u q d. other_barred k d o (z k (record { is = u.is; fresh = u.fresh })))
      (λ k u q d. other_put k q d o (z k (record { is = u.is; fresh = u.fresh }))) tidy_after

  -- its own message is held as the rule says, by what was held of it
  abbrev rule : ℕ → Kept
  rule k = ruled k off p (barred_of w k) (shown t store (owner_of slot k)) (asked t (owner_of slot k))

  -- the rule's answer is this, where there is room
  rule_is : (k : ℕ) (a : Kept) → answer_of t w store slot k off p ≡ a → has_room (table_room t slot k) ≡ true → rule k ≡ a
  rule_is k a q room =
      ap (λ (b : Bool). kept_of k off (length p) (barred_of w k || shows_of (shown t store (owner_of slot k)) off p) b (asked t (owner_of slot k))) (sym room) ∙ q

  abbrev Grows : Accepted → ℕ → Type 0
  Grows x k =
      has_room (table_room t slot k) ≡ true → box_at x.table x.store (owner_of slot k) ≡ grown_by (rule k) off p (box_at t store (owner_of slot k))

  own : (k : ℕ) → Named w field k → is_some r.landed ≡ false → Grows r k
  own k m quiet =
      accept_cases t w store slot field p (λ x. Tidy x.table x.store → is_some x.landed ≡ false → Grows x k)
      (λ e d q. absurd (number_none _ k m.is e))
      (λ j e h d q. absurd (never_both (handed_of w j) h (ap (handed_of w) (number_same _ j k e m.is) ∙ m.fresh)))
      (λ j u a q c z d v. subst (Grows (left_as t w store (cell_in t slot j) j a)) (number_same _ j k u.is m.is) (left j a q c z))
      (λ j u q d v. subst (Grows (barred_as t w store slot j)) (number_same _ j k u.is m.is) (bar j q d))
      (λ j u q d v. subst (Grows (put_as t w store slot j off p)) (number_same _ j k u.is m.is) (put j q d v))
      tidy_after quiet
    where
      left : (j : ℕ) (a : Kept) → answer_of t w store slot j off p ≡ a → changes a ≡ false → bars a ≡ false → Grows (left_as t w store (cell_in t slot j) j a) j
      left j a q c z room =
          let b = box_at t store (owner_of slot j) in
          sym
          (ap (λ (x : Kept). grown_by x off p b) (rule_is j a q room)
          ∙ cond_false (changes a) (take_in b off p) (cond (bars a) none_yet b) c
          ∙ cond_false (bars a) none_yet b z)

      bar : (j : ℕ) → answer_of t w store slot j off p ≡ Overlong → Tidy (barred_as t w store slot j).table store → Grows (barred_as t w store slot j) j
      bar j q d room = own_barred j d ∙ sym (ap (λ (x : Kept). grown_by x off p (box_at t store (owner_of slot j))) (rule_is j Overlong q room))

      put : (j : ℕ) (q : answer_of t w store slot j off p ≡ Yes) → Tidy (put_as t w store slot j off p).table (put_as t w store slot j off p).store
          → is_some (put_as t w store slot j off p).landed ≡ false → Grows (put_as t w store slot j off p) j
      put j q d v room = own_put j q d v ∙ sym (ap (λ (x : Kept). grown_by x off p (box_at t store (owner_of slot j))) (rule_is j Yes q room))

  -- it lands as the rule says
  abbrev Lands : Accepted → ℕ → Type 0
  Lands x k =
      has_room (table_room t slot k) ≡ true → is_some x.landed ≡ lands_by (rule k) off p (box_at t store (owner_of slot k))

  lands : (k : ℕ) → Named w field k → Lands r k
  lands k m =
      accept_cases t w store slot field p (λ x. Lands x k)
      (λ e. absurd (number_none _ k m.is e))
      (λ j e h. absurd (never_both (handed_of w j) h (ap (handed_of w) (number_same _ j k e m.is) ∙ m.fresh)))
      (λ j u a q c z. subst (Lands (left_as t w store (cell_in t slot j) j a)) (number_same _ j k u.is m.is) (left j a q c))
      (λ j u q. subst (Lands (barred_as t w store slot j)) (number_same _ j k u.is m.is) (left j Overlong q refl))
      (λ j u q. subst (Lands (put_as t w store slot j off p)) (number_same _ j k u.is m.is) (put j q))
    where
      left : (j : ℕ) (a : Kept) → answer_of t w store slot j off p ≡ a → changes a ≡ false
          → has_room (table_room t slot j) ≡ true → false ≡ lands_by (rule j) off p (box_at t store (owner_of slot j))
      left j a q c room =
          sym (ap (λ (b : Bool). b && lands_in (take_in (box_at t store (owner_of slot j)) off p)) (ap changes (rule_is j a q room) ∙ c))

      put : (j : ℕ) (q : answer_of t w store slot j off p ≡ Yes) → Lands (put_as t w store slot j off p) j
      put j q room =
          let f = (after_fits t w store slot field p tidy short j q).joined in
          let l = long j q in
          lands_box (h j q) (omega arith)
          ∙ ap lands_in (box_after_lem j q)
          ∙ sym (ap (λ (b : Bool). b && lands_in (take_in (box_at t store (owner_of slot j)) off p)) (ap changes (rule_is j Yes q room)))

  -- ---- a cell is free after a piece: a, which was, or else b, which was for the piece

  abbrev Spare : Table → Type 0
  Spare t = (e : ℕ) × (e < t.count) × (has_bit t.busy e ≡ false)

  spare : (a b : ℕ) → (a ≡ b → ⊥) → a < t.count → has_bit t.busy a ≡ false → CellFor (widened (field / 65536 % 256) w.next) slot t b → Spare r.table
  spare a b z low-a free-a for-b =
      accept_cases t w store slot field p (λ x. Spare x.table)
      (λ e. (a, low-a, free-a)) (λ k e h. (a, low-a, free-a)) (λ k u y q v z. (a, low-a, free-a))
      (λ k u q. let i = free_barred k (table_room t slot k) a low-a free-a in (a, i.0, i.1))
      (λ k u q. put k q (subst (λ (n : Option ℕ). CellFor n slot t b) u.is for-b))
    where
      put : (k : ℕ) (q : answer_of t w store slot k off p ≡ Yes) → CellFor (Some k) slot t b → Spare (put_as t w store slot k off p).table
      put k q g =
          ⊎_elim (λ e. ⊎_elim (λ i. absurd (z (e ∙ own_is i))) (λ i. (b, i.0, stays b (λ j. z (e ∙ sym j)) i.1)) g)
          (λ n. (a, low-a, stays a n free-a)) (eq_or_not a (cell_in t slot k))
        where
          stays : (j : ℕ) → (j ≡ cell_in t slot k → ⊥) → has_bit t.busy j ≡ false → has_bit (put_as t w store slot k off p).table.busy j ≡ false
          stays j n e = (kept_other t (cell_in t slot k) (owner_of slot k) (put_in store (cell_in t slot k) (h k q)).taken j n).0 ∙ e

          own_is : is_own t.busy t.landed b (get_or t.owners b 0) (owner_of slot k) ≡ true → cell_in t slot k ≡ b
          own_is i = ap place_of (own_room t store tidy (owner_of slot k) b (own_filling t.owners t.busy t.landed (owner_of slot k) b i))

-- ---- two pieces of two boats

abbrev takes : Station → Up → Table → List ℕ → Accepted
takes s x t store = accept t (member_at s x.slot).up store x.slot x.field x.bytes

abbrev two : Net → Up → Up → Accepted
two n x y =
    let r = takes n.station x (table_of n.station) n.store in
    takes n.station y r.table r.store

module _ (n : Net) (f : Fit n) where
  abbrev s : Station
  s = n.station

  abbrev win : Up → Window
  win x = (member_at s x.slot).up

  abbrev t₀ : Table
  t₀ = table_of s

  abbrev one : Up → Accepted
  one x = takes s x t₀ n.store

  tidy_one : (x : Up) → IsUp s x → Tidy (one x).table (one x).store
  tidy_one x u = accept_tidy t₀ (win x) n.store x.slot x.field x.bytes f.view.tidy u.short

  -- the number of a piece of a boat
  number_low : (x : Up) → IsUp s x → (k : ℕ) → Named (win x) x.field k → k < 2 ^ 32
  number_low x u k m =
      let sound : Sound (win x) = subst Sound (cond_true (is_member s.used x.slot) (win x) fresh_of u.boat) (f.view.sound x.slot) in
      let l = open_window (win x) (x.field / 65536 % 256) k sound m.is m.fresh in
      let z = sound_next (win x) sound in
      omega arith

  abbrev Its : Up → ℕ → ℕ → Type 0
  Its x o k = Named (win x) x.field k × (o ≡ owner_of x.slot k)

  -- the message of the owner o is the piece's, or it is not
  whose : (x : Up) (o : ℕ) → ((k : ℕ) × Its x o k) ⊎ ((k : ℕ) → Named (win x) x.field k → o ≡ owner_of x.slot k → ⊥)
  whose x o = go (widened (x.field / 65536 % 256) (win x).next) refl
    where
      go : (m : Option ℕ) → widened (x.field / 65536 % 256) (win x).next ≡ m
          → ((k : ℕ) × Its x o k) ⊎ ((k : ℕ) → Named (win x) x.field k → o ≡ owner_of x.slot k → ⊥)
      go None e = inr (λ k m q. number_none _ k m.is e)
      go (Some k) e =
          ⊎_elim (λ h. inr (λ j m q. never_both (handed_of (win x) j) (ap (handed_of (win x)) (number_same _ j k m.is e) ∙ h) m.fresh))
          (λ h.
          ⊎_elim (λ q. inl (k, (record { is = e; fresh = h }, q)))
          (λ z. inr (λ j m q. z (q ∙ ap (owner_of x.slot) (number_same _ j k m.is e))))
          (eq_or_not o (owner_of x.slot k)))
          (cases (handed_of (win x) k))

  -- there is room for x's message, and x does not land it
  record Calm (x : Up) (k : ℕ) (t : Table) (store : List ℕ) : Type 0 where
    pub room : has_room (table_room t x.slot k) ≡ true
    pub quiet : is_some (takes s x t store).landed ≡ false

  module _ (x y : Up) (u : IsUp s x) (v : IsUp s y) (apart : x.slot ≡ y.slot → ⊥) (o : ℕ) where
    -- a message of x's boat is none of y's
    not_its : (k : ℕ) → Its x o k → (j : ℕ) → Named (win y) y.field j → o ≡ owner_of y.slot j → ⊥
    not_its k m j i q = apart (owner_same x.slot y.slot k j (number_low x u k m.0) (number_low y v j i) (sym m.1 ∙ q)).0

    -- the message of x
    for_first : (k : ℕ) → Its x o k → Calm x k t₀ n.store → Calm x k (one y).table (one y).store
        → box_at (two n x y).table (two n x y).store o ≡ box_at (two n y x).table (two n y x).store o
    for_first k m a b =
        let ty = other t₀ (win y) n.store y.slot y.field y.bytes f.view.tidy v.short o (not_its k m) in
        same_box (one x).table (one x).store (two n x y).table (two n x y).store o
        (other (one x).table (win y) (one x).store y.slot y.field y.bytes (tidy_one x u) v.short o (not_its k m))
        ∙ own_at t₀ n.store f.view.tidy a
        ∙ sym
        (ap (λ (g : Held). grown_by (ruled k off₀ x.bytes bar₀ g (asked (one y).table o)) off₀ x.bytes (box_at (one y).table (one y).store o))
        (same_shown t₀ n.store (one y).table (one y).store o ty)
        ∙ ap₂ (λ (c : Cell) (b : Box). grown_by (ruled k off₀ x.bytes bar₀ (shown t₀ n.store o) c) off₀ x.bytes b)
        (same_asked t₀ n.store (one y).table (one y).store o ty) (same_box t₀ n.store (one y).table (one y).store o ty))
        ∙ sym (own_at (one y).table (one y).store (tidy_one y v) b)
      where
        off₀ : ℕ
        off₀ = x.field % 65536

        bar₀ : Bool
        bar₀ = barred_of (win x) k

        own_at : (t : Table) (store : List ℕ) → Tidy t store → Calm x k t store
            → box_at (takes s x t store).table (takes s x t store).store o ≡ grown_by (ruled k off₀ x.bytes bar₀ (shown t store o) (asked t o)) off₀ x.bytes (box_at t store o)
        own_at t store tidy calm =
            subst (λ (z : ℕ). box_at (takes s x t store).table (takes s x t store).store z ≡ grown_by (ruled k off₀ x.bytes bar₀ (shown t store z) (asked t z)) off₀ x.bytes (box_at t store z))
            (sym m.1)
            (own t (win x) store x.slot x.field x.bytes tidy u.short k m.0 calm.quiet calm.room)

    -- a message of neither
    for_neither : ((k : ℕ) → Named (win x) x.field k → o ≡ owner_of x.slot k → ⊥) → ((k : ℕ) → Named (win y) y.field k → o ≡ owner_of y.slot k → ⊥)
        → box_at (two n x y).table (two n x y).store o ≡ box_at t₀ n.store o
    for_neither a b =
        same_box (one x).table (one x).store (two n x y).table (two n x y).store o
        (other (one x).table (win y) (one x).store y.slot y.field y.bytes (tidy_one x u) v.short o b)
        ∙ same_box t₀ n.store (one x).table (one x).store o
        (other t₀ (win x) n.store x.slot x.field x.bytes f.view.tidy u.short o a)

    -- x alone, and x after y
    calm_alone : (k : ℕ) → Its x o k → (c : ℕ) → CellFor (number_of s x) x.slot t₀ c → LandsNone n x → Calm x k t₀ n.store
    calm_alone k m c g q =
        record {
          room = ⊎_elim
              (λ i. ap has_room (own_room t₀ n.store f.view.tidy (owner_of x.slot k) c (own_filling t₀.owners t₀.busy t₀.landed (owner_of x.slot k) c i)))
              (λ i. free_room t₀ n.store f.view.tidy (owner_of x.slot k) c i.0 i.1)
              (subst (λ (z : Option ℕ). CellFor z x.slot t₀ c) m.0.is g);
          quiet = q;
        }

    calm_after : (k : ℕ) → Its x o k → (c d : ℕ) → (c ≡ d → ⊥) → CellFor (number_of s x) x.slot t₀ c → CellFor (number_of s y) y.slot t₀ d → LandsNone n x
        → Calm x k (one y).table (one y).store
    calm_after k m c d z g e q =
        record {
          room = room;
          quiet = lands (one y).table (win x) (one y).store x.slot x.field x.bytes (tidy_one y v) u.short k m.0 room
              ∙ ap (λ (g : Held). lands_by (ruled k (x.field % 65536) x.bytes (barred_of (win x) k) g (asked (one y).table (owner_of x.slot k))) (x.field % 65536) x.bytes (box_at (one y).table (one y).store (owner_of x.slot k)))
              (same_shown t₀ n.store (one y).table (one y).store (owner_of x.slot k) same)
              ∙ ap₂ (λ (c : Cell) (b : Box). lands_by (ruled k (x.field % 65536) x.bytes (barred_of (win x) k) (shown t₀ n.store (owner_of x.slot k)) c) (x.field % 65536) x.bytes b)
              (same_asked t₀ n.store (one y).table (one y).store (owner_of x.slot k) same) (same_box t₀ n.store (one y).table (one y).store (owner_of x.slot k) same)
              ∙ sym (lands t₀ (win x) n.store x.slot x.field x.bytes f.view.tidy u.short k m.0 (calm_alone k m c g q).room)
              ∙ q;
        }
      where
        same : SameAt t₀ n.store (one y).table (one y).store (owner_of x.slot k)
        same =
            other t₀ (win y) n.store y.slot y.field y.bytes f.view.tidy v.short (owner_of x.slot k)
            (λ j i r. not_its k m j i (m.1 ∙ r))

        room : has_room (table_room (one y).table x.slot k) ≡ true
        room =
            ⊎_elim
            (λ i. own_stays (own_room t₀ n.store f.view.tidy (owner_of x.slot k) c (own_filling t₀.owners t₀.busy t₀.landed (owner_of x.slot k) c i)) same)
            (λ i.
            let w = spare t₀ (win y) n.store y.slot y.field y.bytes f.view.tidy v.short c d z i.0 i.1 e in
            free_room (one y).table (one y).store (tidy_one y v) (owner_of x.slot k) w.0 w.1 w.2)
            (subst (λ (z : Option ℕ). CellFor z x.slot t₀ c) m.0.is g)
          where
            own_stays : room_at t₀ (owner_of x.slot k) ≡ Own c → SameAt t₀ n.store (one y).table (one y).store (owner_of x.slot k)
                → has_room (table_room (one y).table x.slot k) ≡ true
            own_stays a (inl (j, b)) = ap has_room b.is
            own_stays a (inr b) = absurd (subst NotOwn a b.0)

  either_way : (x y : Up) → IsUp s x → IsUp s y → (x.slot ≡ y.slot → ⊥) → Cells s x y → LandsNone n x → LandsNone n y
      → (i k : ℕ) → box_at (two n x y).table (two n x y).store (owner_of i k) ≡ box_at (two n y x).table (two n y x).store (owner_of i k)
  either_way x y u v apart a qx qy i k =
      let o = owner_of i k in
      let back : y.slot ≡ x.slot → ⊥ = λ e. apart (sym e) in
      ⊎_elim
      (λ m.
      for_first x y u v apart o m.0 m.1 (calm_alone x y u v apart o m.0 m.1 a.one a.for_x qx)
      (calm_after x y u v apart o m.0 m.1 a.one a.other a.apart a.for_x a.for_y qx))
      (λ p.
      ⊎_elim
      (λ m.
      sym (for_first y x v u back o m.0 m.1 (calm_alone y x v u back o m.0 m.1 a.other a.for_y qy)
      (calm_after y x v u back o m.0 m.1 a.other a.one (λ e. a.apart (sym e)) a.for_y a.for_x qy)))
      (λ q. for_neither x y u v apart o p q ∙ sym (for_neither y x v u back o q p))
      (whose y o))
      (whose x o)

-- ---- as frames are read

-- a piece that is not kept changes no cell, where its message claims no more than a cell can join
lost_same : (t : Table) (w : Window) (store : List ℕ) (slot field : ℕ) (p : List ℕ) → (accept t w store slot field p).lost ≡ true
    → (accept t w store slot field p).bars ≡ false
    → ((accept t w store slot field p).table ≡ t) × ((accept t w store slot field p).store ≡ store)
lost_same t w store slot field p =
    accept_cases t w store slot field p (λ x. x.lost ≡ true → x.bars ≡ false → (x.table ≡ t) × (x.store ≡ store))
    (λ e q z. absurd (never_both false q refl)) (λ k e h q z. absurd (never_both false q refl)) (λ k u a e c y q z. (refl, refl))
    (λ k u e q z. absurd (never_both true refl z)) (λ k u e q z. absurd (never_both false q refl))

module _ (a : Air) (x : Up) (r : Reading) (here : is_member r.station.used x.slot ≡ true) (many : length r.station.members ≡ 62) where
  abbrev d : Accepted
  d = takes r.station x (table_of r.station) r.store

  record ReadAs (z : Reading) : Type 0 where
    pub table : table_of z.station ≡ d.table
    pub store : z.store ≡ d.store
    pub used : z.station.used ≡ r.station.used
    pub long : length z.station.members ≡ 62
    pub windows : is_some d.landed ≡ false → (i : ℕ) → (i ≡ x.slot → ⊥) → window_at z.station i ≡ window_at r.station i

  relay_used : (b : Bool) (s : Station) → (relay_if b s).used ≡ s.used
  relay_used true s = refl
  relay_used false s = refl

  traffic_used : (b : Bool) (s : Station) → (traffic_if b s).used ≡ s.used
  traffic_used true s = refl
  traffic_used false s = refl

  kept_as_lem : ReadAs (kept_piece a x.slot d r)
  kept_as_lem =
      let v = piece_view a x.slot d r here many in
      record {
        table = ap (λ (y : View). y.table) v;
        store = refl;
        used = relay_used (is_relayed a r.station x.slot d) _ ∙ traffic_used (is_some d.landed) _;
        long = piece_long a x.slot d r here many;
        windows = λ q i z.
            ap (λ (y : View). y.windows i) v
            ∙ ap (λ (b : Bool). cond (b && eqb x.slot i) (land_of (window_at r.station i) d.number) (window_at r.station i)) q;
      }

  read_as : ReadAs (reads_up a x r)
  unfolding piece_frame
  read_as =
      cond_keeps ReadAs (is_member r.station.used x.slot) _ r
      (λ _. cond_keeps ReadAs d.lost (unkept_at (cond d.bars (barred_piece x.slot d r) r)) (kept_piece a x.slot d r)
      (λ q.
      cond_keeps (λ (y : Reading). ReadAs (unkept_at y)) d.bars (barred_piece x.slot d r) r
      (λ b.
      record {
        table = refl;
        store = sym (accept_bar (table_of r.station) (member_at r.station x.slot).up r.store x.slot x.field x.bytes b).1;
        used = refl;
        long = length-set r.station.members (index_of x.slot) _ ∙ many;
        windows = λ _.
            written_keeps (λ i w. (i ≡ x.slot → ⊥) → w ≡ window_at r.station i) r.station.used r.station.members x.slot
            (barred_one (member_at r.station x.slot) d.number) here many (λ z. absurd (z refl)) (λ i z. refl);
      })
      (λ b.
      let z = lost_same (table_of r.station) (member_at r.station x.slot).up r.store x.slot x.field x.bytes q b in
      record { table = sym z.0; store = sym z.1; used = refl; long = many; windows = λ _ i _. refl }))
      (λ q. kept_as_lem))
      (λ q. absurd (never_both (is_member r.station.used x.slot) here q))

module _ (n : Net) (f : Fit n) where
  -- the cells and the store after two frames
  both_is : (a b : Air) (x y : Up) → IsUp n.station x → IsUp n.station y → (y.slot ≡ x.slot → ⊥) → LandsNone n x
      → (table_of (both n a x b y).station ≡ (two n x y).table) × ((both n a x b y).store ≡ (two n x y).store)
  both_is a b x y u v apart q =
      let r = first_reading n.station n.store in
      let z = reads_up a x r in
      let one = read_as a x r u.boat f.long in
      let here : is_member z.station.used y.slot ≡ true = ap (λ (k : ℕ). is_member k y.slot) one.used ∙ v.boat in
      let next = read_as b y z here one.long in
      let same : (member_at z.station y.slot).up ≡ (member_at n.station y.slot).up =
      sym (cond_true (is_member z.station.used y.slot) (member_at z.station y.slot).up fresh_of here)
      ∙ one.windows q y.slot apart
      ∙ cond_true (is_member n.station.used y.slot) (member_at n.station y.slot).up fresh_of v.boat in
      let all : takes z.station y (table_of z.station) z.store ≡ two n x y =
      ap (λ (w : Window). accept (table_of z.station) w z.store y.slot y.field y.bytes) same
      ∙ ap₂ (λ (t : Table) (store : List ℕ). accept t (member_at n.station y.slot).up store y.slot y.field y.bytes) one.table one.store in
      (next.table ∙ ap (λ (k : Accepted). k.table) all, next.store ∙ ap (λ (k : Accepted). k.store) all)

  pub commutes : Commutes n
  commutes x y u v apart cells qx qy a b i k =
      let p = both_is a b x y u v (λ e. apart (sym e)) qx in
      let q = both_is b a y x v u apart qy in
      ap₂ (λ (t : Table) (store : List ℕ). box_at t store (owner_of i k)) p.0 p.1
      ∙ either_way n f x y u v apart cells qx qy i k
      ∙ sym (ap₂ (λ (t : Table) (store : List ℕ). box_at t store (owner_of i k)) q.0 q.1)
