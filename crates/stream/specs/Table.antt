-- `MsgIn::accept` of stream.rs, with the cells of document 01 ('Message cell') for its map of messages: the table of the station's cells,
-- and what a boat's piece does to it, to the lent store and to the boat's window. Messages that claim too much are document 02's, U4.
use Rattle.std.specs.Prelude.{ℕ, ◌+◌, ◌*◌, ◌/◌, ◌%◌, ◌^◌, Bool, true, false, not, cond, ◌&&◌, ◌||◌, List, [], length, get_or, set, replicate, eqb, ltb, Option, Some, None, is_some}
use Rattle.bits.specs.Loop.{first}
use Rattle.bits.specs.Mask.{has_bit, with_bit, without_bit, lowest_free}
use Rattle.wire.specs.Numbers.{widened}
use Rattle.inbox.specs.declared.cell.Cell.{Cell}
use Rattle.inbox.specs.declared.keep.Kept.{Kept}
use Rattle.inbox.specs.declared.keep.Kept.TheVariants.{Needless, Yes, Late, Overlong, Long, NoCell, NoPlace}
use Rattle.inbox.specs.Cells.{Held, held}
use Rattle.inbox.specs.Cells as cells
use Rattle.inbox.specs.Keeping.{kept_of, test_of}
use Rattle.inbox.specs.Messages.{empty_cell, empty, shows_of}
use Rattle.inbox.specs.Stores.{cell_of, in_cell, landed_of}
use Rattle.stream.specs.declared.window.Window.{Window}
use Rattle.stream.specs.declared.table.Room.{Room}
use Rattle.stream.specs.declared.table.Room.TheVariants.{Own, Free, Full}
use Rattle.stream.specs.declared.table.Taken.{Taken}
use Rattle.stream.specs.Window.{handed_of, land_of, barred_of, bar_of}

-- ---- the cell that a piece goes into

-- a boat's message, as the table names it
abbrev pub owner_of : ℕ → ℕ → ℕ
owner_of slot number = slot * 2 ^ 32 + number

-- cell c, which holds the message `holds`, is filling with the message `owner`
abbrev pub is_own : ℕ → ℕ → ℕ → ℕ → ℕ → Bool
is_own busy landed c holds owner = has_bit busy c && not (has_bit landed c) && eqb holds owner

-- 64 cells at most
abbrev pub cell_count : ℕ → ℕ
cell_count count = cond (ltb count 64) count 64

unfoldable pub own_cell : List ℕ → ℕ → ℕ → ℕ → ℕ → Option ℕ
own_cell owners busy landed n owner = first (λ c. is_own busy landed c (get_or owners c 0) owner) n 0

abbrev pub room_of : Option ℕ → Option ℕ → Room
room_of (Some c) free = Own c
room_of None (Some c) = Free c
room_of None None = Full

-- the cell that is filling with the message; a new number takes the lowest free cell
abbrev pub room_for : List ℕ → ℕ → ℕ → ℕ → ℕ → Room
room_for owners busy landed count owner =
    room_of (own_cell owners busy landed (cell_count count) owner) (lowest_free busy (cell_count count))

abbrev pub place_of : Room → ℕ
place_of (Own c) = c
place_of (Free c) = c
place_of Full = 0

abbrev pub has_room : Room → Bool
has_room (Own c) = true
has_room (Free c) = true
has_room Full = false

abbrev pub has_own : Room → Bool
has_own (Own c) = true
has_own (Free c) = false
has_own Full = false

-- the cell that a piece is asked of: its message's own, or an empty one
abbrev pub cell_for : Room → Cell → Cell
cell_for (Own c) cell = cell
cell_for (Free c) cell = empty_cell
cell_for Full cell = empty_cell

-- the same with its bytes
abbrev pub held_for : Room → Cell → List ℕ → Held
held_for (Own c) cell store = held cell (cell_of store c)
held_for (Free c) cell store = empty []
held_for Full cell store = empty []

-- ---- what becomes of a piece

-- the answer, and the store after it
pub record Took : Type 0 where
  pub taken : Taken
  pub store : List ℕ

abbrev pub took : Taken → List ℕ → Took
took x s = record { taken = x; store = s }

-- a kept piece joined into cell c
abbrev pub joined_of : List ℕ → ℕ → Cell → ℕ → List ℕ → Held
joined_of store c cell offset piece = cells.accept (held cell (cell_of store c)) offset piece

abbrev pub put_in : List ℕ → ℕ → Held → Took
put_in store c h = took (record { cell = h.cell; kept = Yes; landed = landed_of h }) (in_cell store c h.bytes)

unfoldable pub put_of : List ℕ → ℕ → Cell → ℕ → List ℕ → Took
put_of store c cell offset piece = put_in store c (joined_of store c cell offset piece)

-- a piece that changed nothing
abbrev pub left_of : Cell → Kept → Taken
left_of cell kept = record { cell = cell; kept = kept; landed = None }

-- its message claims too much: the number is barred, or the piece would show a length above 2,046
abbrev pub is_over : Bool → List ℕ → Room → Cell → ℕ → List ℕ → Bool
is_over barred store room cell offset piece = barred || shows_of (held_for room cell store) offset piece

-- the kept rule of a message that is not handed over
abbrev pub kept_for : Bool → List ℕ → Room → Cell → ℕ → ℕ → List ℕ → Kept
kept_for barred store room cell number offset piece =
    kept_of number offset (length piece) (is_over barred store room cell offset piece) (has_room room) (cell_for room cell)

abbrev pub changes : Kept → Bool
changes Yes = true
changes Needless = false
changes Late = false
changes Overlong = false
changes Long = false
changes NoCell = false
changes NoPlace = false

-- the number is barred from now on, and the message's cell is free
abbrev pub bars : Kept → Bool
bars Yes = false
bars Needless = false
bars Late = false
bars Overlong = true
bars Long = false
bars NoCell = false
bars NoPlace = false

-- one of the tests refused it: the reception's mask marks the piece
abbrev pub is_lost : Kept → Bool
is_lost kept = ltb 0 (test_of kept)

-- where the rule keeps the piece, it is joined into the cell; otherwise cell and store stay as they are
abbrev pub take_by : Kept → List ℕ → Room → Cell → ℕ → List ℕ → Took
take_by kept store room cell offset piece =
    cond (changes kept) (put_of store (place_of room) (cell_for room cell) offset piece) (took (left_of cell kept) store)

abbrev pub take_of : Bool → List ℕ → Room → Cell → ℕ → ℕ → List ℕ → Took
take_of barred store room cell number offset piece =
    take_by (kept_for barred store room cell number offset piece) store room cell offset piece

-- ---- the table

-- how many cells there are, which are taken, which of them hold a landed message, whose message each holds, and the cells' numbers
pub record Table : Type 0 where
  pub count : ℕ
  pub busy : ℕ
  pub landed : ℕ
  pub owners : List ℕ
  pub cells : List Cell

-- what an element past an array's end is taken for
abbrev pub no_cell : Cell
no_cell = record { joined = 0; offsets = []; lengths = [] }

abbrev pub cell_at : Table → ℕ → Cell
cell_at t c = get_or t.cells c no_cell

-- every cell is free at the start
abbrev pub start_table : ℕ → Table
start_table count =
    record { count = count; busy = 0; landed = 0; owners = replicate 64 0; cells = replicate 64 empty_cell }

-- the cell given back: a new message can take it
abbrev pub freed_table : Table → ℕ → Table
freed_table t c =
    record {
      count = t.count;
      busy = without_bit t.busy c;
      landed = without_bit t.landed c;
      owners = t.owners;
      cells = t.cells;
    }

-- cell c after a kept piece of the message `owner`
abbrev pub kept_table : Table → ℕ → ℕ → Taken → Table
kept_table t c owner x =
    record {
      count = t.count;
      busy = with_bit t.busy c;
      landed = cond (is_some x.landed) (with_bit t.landed c) (without_bit t.landed c);
      owners = set t.owners c owner;
      cells = set t.cells c x.cell;
    }

-- a barred message's own cell is free; one that has none leaves the table as it is
abbrev pub barred_table : Table → Room → Table
barred_table t room = cond (has_own room) (freed_table t (place_of room)) t

abbrev pub took_table : Table → Room → ℕ → Taken → Table
took_table t room owner x =
    cond (changes x.kept) (kept_table t (place_of room) owner x) (cond (bars x.kept) (barred_table t room) t)

abbrev pub took_window : Window → ℕ → Taken → Window
took_window w k x = cond (is_some x.landed) (land_of w k) (cond (bars x.kept) (bar_of w k) w)

-- ---- a piece of a boat

-- `lost`: the piece is not kept; `bars`: its number is barred with it; `landed`: its message landed with it, number `number`, in the cell `cell`
pub record Accepted : Type 0 where
  pub table : Table
  pub window : Window
  pub store : List ℕ
  pub lost : Bool
  pub bars : Bool
  pub landed : Option ℕ
  pub cell : ℕ
  pub number : ℕ

-- a piece that needs no place: its number is none, or its message is handed over
abbrev pub passed : Table → Window → List ℕ → ℕ → Accepted
passed t w store k =
    record { table = t; window = w; store = store; lost = false; bars = false; landed = None; cell = 0; number = k }

-- what became of a piece, put into the table and the boat's window
abbrev pub accepted : Table → Window → Room → ℕ → ℕ → Took → Accepted
accepted t w room slot k x =
    record {
      table = took_table t room (owner_of slot k) x.taken;
      window = took_window w k x.taken;
      store = x.store;
      lost = is_lost x.taken.kept;
      bars = bars x.taken.kept;
      landed = x.taken.landed;
      cell = place_of room;
      number = k;
    }

abbrev pub accept_in : Table → Window → List ℕ → ℕ → ℕ → ℕ → List ℕ → Room → Accepted
accept_in t w store slot k offset piece room =
    accepted t w room slot k (take_of (barred_of w k) store room (cell_at t (place_of room)) k offset piece)

abbrev pub table_room : Table → ℕ → ℕ → Room
table_room t slot k = room_for t.owners t.busy t.landed t.count (owner_of slot k)

abbrev pub accept_by : Option ℕ → Table → Window → List ℕ → ℕ → ℕ → List ℕ → Accepted
accept_by None t w store slot offset piece = passed t w store 0
accept_by (Some k) t w store slot offset piece =
    cond (handed_of w k) (passed t w store k) (accept_in t w store slot k offset piece (table_room t slot k))

-- MsgIn::accept: a piece of the boat in `slot`, whose field has eight bits of the number and the offset
unfoldable pub accept : Table → Window → List ℕ → ℕ → ℕ → List ℕ → Accepted
accept t w store slot field piece =
    accept_by (widened (field / 65536 % 256) w.next) t w store slot (field % 65536) piece
