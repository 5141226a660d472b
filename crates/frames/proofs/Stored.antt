-- A boat's piece, put together: the stores of the code, one element at a time, are what `piece_frame` says. Assumes nothing.
use Rattle.std.specs.Prelude.{Option, Some, None}
use mathlib.Core.Path.{◌≡◌, refl}
use mathlib.Core.Bool.{Bool, true, false, not, cond, ◌||◌}
use mathlib.Core.List.{List, [], append-nil}
use mathlib.Core.Logic.{⊎_elim}
use Prim.Native.Nat.{ℕ, ◌+◌, ◌*◌, ◌/◌, ◌%◌, ◌<◌, ◌≤◌}
use native.Mathlib.Omega.{arith}
use lib.Dec.{eqb, ltb, leb}
use lib.ListN.{length, get_or}
use lib.Seq.{set-get_or}
use borrow.Author.Tests.{ltb-true, ltb-false}
use Rattle.bits.specs.Stop.{stop}
use Rattle.bits.proofs.Stops.{stop_is, stop_at}
use Rattle.bits.proofs.Lists.{le_or_lt}
use Rattle.wire.specs.Numbers.{widened}
use Rattle.inbox.specs.declared.cell.Cell.{Cell}
use Rattle.inbox.specs.declared.keep.Kept.{Kept}
use Rattle.inbox.specs.declared.keep.Kept.TheVariants.{Needless, Yes, Late, Overlong, Long, NoCell, NoPlace}
use Rattle.inbox.specs.Keeping.{kept_of, shorter_of, full_of}
use Rattle.inbox.specs.Messages.{empty_cell, empty, shows_of}
use Rattle.inbox.specs.Stores.{landed_of, in_cell}
use Rattle.stream.specs.declared.table.Room.{Room}
use Rattle.stream.specs.declared.table.Room.TheVariants.{Own, Free, Full}
use Rattle.stream.specs.declared.window.Window.{Window}
use Rattle.stream.specs.Window.{handed_of, barred_of}
use Rattle.stream.specs.Table.{Took, took, take_of, take_by, put_of, left_of, changes, bars, is_lost, place_of, has_own, cell_for, kept_for, cell_count, room_for, owner_of, table_room, accept_by, accept, accepted, accept_in, passed, no_cell, joined_of}
use Rattle.stream.proofs.Rooms.{RoomIs, room_is}
use Rattle.roster.specs.Members.{no_member}
use Rattle.net.specs.State.{index_of, member_at, table_of}
use Rattle.net.specs.Net.{is_member}
use Rattle.frames.specs.declared.Air.{Air}
use Rattle.frames.specs.declared.pieces.Piece.{Piece}
use Rattle.frames.specs.Reading.{Reading}
use Rattle.frames.specs.Pieces.{kept_piece, barred_piece, taken_piece, piece_frame, unkept_at, heard_member, other_of}
use Rattle.frames.specs.Code.Pieces.{RoomIn, unwanted_of, piece_by, piece_of, taken_of, stored_piece}

-- ### The room

-- where the store has a cell, the room's place is one
pub room_of_store : (room : Room) (n : ℕ) → RoomIn room n → 6400 ≤ n → (place_of room < 64) × (6400 * place_of room + 6400 ≤ n)
room_of_store (Own c) n h l = h
room_of_store (Free c) n h l = h
room_of_store Full n h l = (omega arith, omega arith)

-- without a cell a piece is not kept, so nothing is stored
unroomed : (n : ℕ) (a b c d e f : Bool) → changes (cond a Needless (cond b Needless (cond c Needless (cond d Late (cond e Overlong (cond f Long (cond (not false) NoCell (cond (full_of empty_cell n) NoPlace Yes)))))))) ≡ false
unroomed n true b c d e f = refl
unroomed n false true c d e f = refl
unroomed n false false true d e f = refl
unroomed n false false false true e f = refl
unroomed n false false false false true f = refl
unroomed n false false false false false true = refl
unroomed n false false false false false false = refl

pub no_room : (barred : Bool) (s : List ℕ) (room : Room) (cell : Cell) (number o : ℕ) (p : List ℕ) → RoomIn room (length s) → length s < 6400
    → took (left_of cell (kept_of number o (length p) (barred || shows_of (empty []) o p) false empty_cell)) s ≡ take_of barred s room cell number o p
no_room barred s (Own c) cell number o p h l = absurd (omega arith)
no_room barred s (Free c) cell number o p h l = absurd (omega arith)
no_room barred s Full cell number o p h l =
    rw (unroomed o (eqb (length p) 0) (leb (o + length p) empty_cell.joined) (shorter_of empty_cell o (length p)) (leb 4294967040 number) (barred || shows_of (empty []) o p) (ltb 2048 (o + length p)))

count_by : (n : ℕ) (t : Bool) → ltb n 64 ≡ t → (cond t n 64 ≤ n) × (cond t n 64 ≤ 64)
count_by n true e = (omega arith, omega (arith, ltb-true n 64 e))
count_by n false e = (omega (arith, ltb-false n 64 e), omega arith)

-- every room of a table lies in a store that has the table's cells
room_by : (owners : List ℕ) (busy landed owner m count n : ℕ) (r : Room) → RoomIs owners busy landed owner m r → m ≤ count → m ≤ 64 → 6400 * count ≤ n → RoomIn r n
room_by owners busy landed owner m count n (Own c) h p q l = let b = h.below in (omega arith, omega arith)
room_by owners busy landed owner m count n (Free c) h p q l = let b = h.below in (omega arith, omega arith)
room_by owners busy landed owner m count n Full h p q l = omega arith

pub room_in : (owners : List ℕ) (busy landed count owner n : ℕ) → 6400 * count ≤ n → RoomIn (room_for owners busy landed count owner) n
room_in owners busy landed count owner n l =
    let k = count_by count (ltb count 64) refl in
    room_by owners busy landed owner (cell_count count) count n (room_for owners busy landed count owner) (room_is owners busy landed owner (cell_count count)) k.0 k.1 l

place_by : (owners : List ℕ) (busy landed owner m : ℕ) (r : Room) → RoomIs owners busy landed owner m r → m ≤ 64 → place_of r < 64
place_by owners busy landed owner m (Own c) h q = let b = h.below in omega arith
place_by owners busy landed owner m (Free c) h q = let b = h.below in omega arith
place_by owners busy landed owner m Full h q = omega arith

-- the place of a piece is a cell's
pub place_in : (owners : List ℕ) (busy landed count owner : ℕ) → place_of (room_for owners busy landed count owner) < 64
place_in owners busy landed count owner =
    place_by owners busy landed owner (cell_count count) (room_for owners busy landed count owner) (room_is owners busy landed owner (cell_count count)) (count_by count (ltb count 64) refl).1

-- ### The piece

module _ (w : Window) (here : Bool) (slot field : ℕ) (owners : List ℕ) (busy landed count : ℕ) where
  piece_keeps : (P : Room → Type 0) → P Full → ((k : ℕ) → P (room_for owners busy landed count (owner_of slot k)))
      → P (piece_of w here slot field owners busy landed count).room
  unfolding piece_of
  piece_keeps P none room = go (widened (field / 65536 % 256) w.next)
    where
      go : (n : Option ℕ) → P (piece_by n w here slot field owners busy landed count).room
      go None = none
      go (Some k) = by (not here || handed_of w k)
        where
          by : (t : Bool) → P (cond t (unwanted_of slot here) (record { slot = slot; here = here; wanted = true; barred = barred_of w k; number = k; offset = field % 65536; room = room_for owners busy landed count (owner_of slot k) })).room
          by true = none
          by false = room k

  -- what `take` asks of the store, and the index of its cell
  pub piece_room : (n : ℕ) → 6400 * count ≤ n → RoomIn (piece_of w here slot field owners busy landed count).room n
  piece_room n h = piece_keeps (λ r. RoomIn r n) (omega arith) (λ k. room_in owners busy landed count (owner_of slot k) n h)

  pub piece_place : place_of (piece_of w here slot field owners busy landed count).room < 64
  piece_place = piece_keeps (λ r. place_of r < 64) (omega arith) (λ k. place_in owners busy landed count (owner_of slot k))

-- ### The stores

or_no : (b : Bool) → b || false ≡ b
or_no true = refl
or_no false = refl

or_yes : (b : Bool) → b || true ≡ true
or_yes true = refl
or_yes false = refl

stop_add : (a n : ℕ) → stop (a + stop n) ≡ stop (a + n)
stop_add a n =
    ⊎_elim
    (λ l. rw (stop_is n l))
    (λ l. rw (stop_at n (omega arith), stop_at (a + 4294967295) (omega arith), stop_at (a + n) (omega arith)))
    (le_or_lt n 4294967295)

module _ (a : Air) (slot : ℕ) (x : Reading) where
  -- a slot without a member: nothing changes
  still : stored_piece a slot (unwanted_of slot false) (took (left_of (get_or x.station.cells 0 no_cell) Needless) x.store) x ≡ x
  still =
      rw (
        set-get_or x.station.members (index_of slot) no_member,
        set-get_or x.station.owners 0 0,
        set-get_or x.station.cells 0 no_cell,
        or_no x.station.round.traffic,
        or_no x.station.round.rxdirty,
        append-nil x.words,
      )

  module _ (p : Piece) (c : p.slot ≡ slot) (h : p.here ≡ true) where
    abbrev cell : Cell
    cell = get_or x.station.cells (place_of p.room) no_cell

    -- a piece that changes no cell, and is not lost: its boat is heard
    heard_only : (k n : ℕ)
        → stored_piece a slot p (took (left_of cell Needless) x.store) x
        ≡ kept_piece a slot (record { table = table_of x.station; window = (member_at x.station slot).up; store = x.store; lost = false; bars = false; landed = None; cell = n; number = k }) x
    heard_only k n =
        rw (
          c,
          h,
          set-get_or x.station.owners (place_of p.room) 0,
          set-get_or x.station.cells (place_of p.room) no_cell,
          or_no x.station.round.traffic,
          or_no x.station.round.rxdirty,
        )

    -- a piece that is not kept: only the mask tells of it
    not_kept : (d : Kept) → changes d ≡ false → bars d ≡ false → is_lost d ≡ true
        → stored_piece a slot p (took (left_of cell d) x.store) x ≡ unkept_at x
    not_kept d e z l =
        rw (
          h,
          e,
          z,
          l,
          set-get_or x.station.members (index_of slot) no_member,
          set-get_or x.station.owners (place_of p.room) 0,
          set-get_or x.station.cells (place_of p.room) no_cell,
          or_no x.station.round.traffic,
          or_no x.station.round.rxdirty,
          append-nil x.words,
        )

    -- a message that claims too much: the boat's window bars it, and its cell is free
    over_by_lem : (b : Bool) → has_own p.room ≡ b
        → stored_piece a slot p (took (left_of cell Overlong) x.store) x
        ≡ unkept_at (barred_piece slot (accepted (table_of x.station) (member_at x.station slot).up p.room slot p.number (took (left_of cell Overlong) x.store)) x)
    over_by_lem true e =
        rw (
          h,
          e,
          set-get_or x.station.owners (place_of p.room) 0,
          set-get_or x.station.cells (place_of p.room) no_cell,
          or_no x.station.round.traffic,
          or_no x.station.round.rxdirty,
          append-nil x.words,
        )
    over_by_lem false e =
        rw (
          h,
          e,
          set-get_or x.station.owners (place_of p.room) 0,
          set-get_or x.station.cells (place_of p.room) no_cell,
          or_no x.station.round.traffic,
          or_no x.station.round.rxdirty,
          append-nil x.words,
        )

    -- a kept piece in its cell, and what lands with it
    abbrev kept : Cell → List ℕ → Option ℕ → Took
    kept cell' store' l = took (record { cell = cell'; kept = Yes; landed = l }) store'

    abbrev kept_as : Cell → List ℕ → Option ℕ → Reading
    kept_as cell' store' l =
        kept_piece a slot (accepted (table_of x.station) (member_at x.station slot).up p.room slot p.number (kept cell' store' l)) x

    landed_by_lem : (cell' : Cell) (store' : List ℕ) (n : ℕ) (via : Option ℕ) → other_of a.polled x.station.used slot ≡ via
        → stored_piece a slot p (kept cell' store' (Some n)) x ≡ kept_as cell' store' (Some n)
    landed_by_lem cell' store' n (Some v) e =
        rw (c, h, e, or_yes x.station.round.traffic, or_yes x.station.round.rxdirty, stop_add (heard_member a (member_at x.station slot) slot).bytesin n)
    landed_by_lem cell' store' n None e =
        rw (c, h, e, or_yes x.station.round.traffic, or_no x.station.round.rxdirty, stop_add (heard_member a (member_at x.station slot) slot).bytesin n)

    kept_by_lem : (cell' : Cell) (store' : List ℕ) (l : Option ℕ) → stored_piece a slot p (kept cell' store' l) x ≡ kept_as cell' store' l
    kept_by_lem cell' store' None = rw (c, h, or_no x.station.round.traffic, or_no x.station.round.rxdirty)
    kept_by_lem cell' store' (Some n) =
        landed_by_lem cell' store' n (other_of a.polled x.station.used slot) refl

    -- whatever the kept rule answers
    open_by : (d : Kept) (offset : ℕ) (bytes : List ℕ)
        → stored_piece a slot p (take_by d x.store p.room cell offset bytes) x
        ≡ taken_piece a slot (accepted (table_of x.station) (member_at x.station slot).up p.room slot p.number (take_by d x.store p.room cell offset bytes)) x
    unfolding put_of
    open_by Yes offset bytes =
        let j = joined_of x.store (place_of p.room) (cell_for p.room cell) offset bytes in
        kept_by_lem j.cell (in_cell x.store (place_of p.room) j.bytes) (landed_of j)
    open_by Needless offset bytes = heard_only p.number (place_of p.room)
    open_by Late offset bytes = not_kept Late refl refl refl
    open_by Overlong offset bytes = over_by_lem (has_own p.room) refl
    open_by Long offset bytes = not_kept Long refl refl refl
    open_by NoCell offset bytes = not_kept NoCell refl refl refl
    open_by NoPlace offset bytes = not_kept NoPlace refl refl refl

-- the stores of a piece, as the code makes them, are what `piece_frame` says
pub piece_whole : (a : Air) (slot field : ℕ) (bytes : List ℕ) (x : Reading)
    → let s = x.station in
    let p = piece_of (member_at s slot).up (is_member s.used slot) slot field s.owners s.busy s.landed s.count in
    stored_piece a slot p (taken_of p (get_or s.cells (place_of p.room) no_cell) bytes x.store) x ≡ piece_frame a slot field bytes x
unfolding piece_of piece_frame accept
piece_whole a slot field bytes x = go (is_member x.station.used slot) (widened (field / 65536 % 256) (member_at x.station slot).up.next)
  where
    piece_at : Option ℕ → Bool → Piece
    piece_at n here = piece_by n (member_at x.station slot).up here slot field x.station.owners x.station.busy x.station.landed x.station.count

    go : (here : Bool) (n : Option ℕ)
        → stored_piece a slot (piece_at n here) (taken_of (piece_at n here) (get_or x.station.cells (place_of (piece_at n here).room) no_cell) bytes x.store) x
        ≡ cond here (taken_piece a slot (accept_by n (table_of x.station) (member_at x.station slot).up x.store slot (field % 65536) bytes) x) x
    go false None = still a slot x
    go false (Some k) = still a slot x
    go true None = heard_only a slot x (unwanted_of slot true) refl refl 0 0
    go true (Some k) = by (handed_of (member_at x.station slot).up k)
      where
        wanted : Piece
        wanted = record { slot = slot; here = true; wanted = true; barred = barred_of (member_at x.station slot).up k; number = k; offset = field % 65536; room = table_room (table_of x.station) slot k }

        chosen : Bool → Piece
        chosen t = cond t (unwanted_of slot true) wanted

        by : (t : Bool)
            → stored_piece a slot (chosen t) (taken_of (chosen t) (get_or x.station.cells (place_of (chosen t).room) no_cell) bytes x.store) x
            ≡ taken_piece a slot (cond t (passed (table_of x.station) (member_at x.station slot).up x.store k) (accept_in (table_of x.station) (member_at x.station slot).up x.store slot k (field % 65536) bytes (table_room (table_of x.station) slot k))) x
        by true = heard_only a slot x (unwanted_of slot true) refl refl k 0
        by false =
            let room = table_room (table_of x.station) slot k in
            open_by a slot x wanted refl refl (kept_for (barred_of (member_at x.station slot).up k) x.store room (get_or x.station.cells (place_of room) no_cell) k (field % 65536) bytes) (field % 65536) bytes
