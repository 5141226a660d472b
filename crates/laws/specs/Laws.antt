-- Three laws that a radio engineer can lean on, `Laws`, the last definition: they hold of the station after any calls from a start that is not refused, each call
-- getting the store that the last one left. In order: a smoothed level lies between old and new; a piece may come in two parts; two boats' pieces may change places.
use Rattle.std.specs.Prelude.{ℕ, ◌+◌, ◌/◌, ◌%◌, ◌≤◌, ◌<◌, ◌≡◌, Bool, true, false, not, cond, ◌&&◌, List, [], ◌∷◌, ◌++◌, ◌⊎◌, length, get_or, take, replicate, T, eqb, Float, Option, Some, None, is_some}
use Rattle.std.specs.Float.{binary32}
use Rattle.std.specs.Float.Ieee.{fits}
use Rattle.bits.specs.Mask.{has_bit}
use Rattle.level.specs.declared.Level.TheVariants.{Decibels}
use Rattle.level.specs.Levels.{smoothed}
use Rattle.rounding.specs.Between.{sized, Between}
use Rattle.wire.specs.Numbers.{widened}
use Rattle.words.specs.Words.{Heard, lost, heard, Burst, parsed, parse}
use Rattle.inbox.specs.Cells.{Held, held}
use Rattle.inbox.specs.Cells as cells
use Rattle.inbox.specs.Keeping.{kept_of}
use Rattle.inbox.specs.Messages.{Piece, empty_cell, accept_all, Cut, shows_of}
use Rattle.inbox.specs.Stores.{cell_of}
use Rattle.inbox.specs.Box.{Box, none, box_of}
use Rattle.stream.specs.declared.window.Window.{Window}
use Rattle.stream.specs.declared.table.Room.{Room}
use Rattle.stream.specs.declared.table.Room.TheVariants.{Own, Free, Full}
use Rattle.stream.specs.Window.{handed_of, barred_of}
use Rattle.stream.specs.Table.{Table, accept, owner_of, is_own, cell_at, place_of, table_room, kept_for, changes, is_lost}
use Rattle.net.specs.declared.Station.{Station}
use Rattle.net.specs.State.{member_at, table_of, with_wait}
use Rattle.net.specs.Net.{is_member}
use Rattle.frames.specs.declared.Air.{Air}
use Rattle.frames.specs.Reading.{Reading}
use Rattle.frames.specs.Pieces.{piece_frame}
use Rattle.frames.specs.Frames.{frame_step}
use Rattle.rx.specs.Ending.{busy_wait}
use Rattle.rx.specs.Reception.{air_of, first_reading}
use Rattle.config.specs.declared.Given.{Given}
use Rattle.station.specs.Entries.{start_refusal}
use Rattle.promise.specs.Promise.{Lent, lent_to, Net, of_burst, InBook, brings, reads, frees, ends, changes_nothing, Call, admission, reception, decision, sending, closing, reading, freeing, charging, signing, asking, posting, in_book, is_refused, step, after, started, is_boats, frames_by, LentOk}

-- ---- a smoothed level

-- the level that a reception is handed is a value of f32: the entry point takes no other, and the definitions speak of any number
abbrev pub LevelOk : Call → Type 0
LevelOk c =
    (words : List ℕ) (snr now : Float) (lent : Lent) (room : ℕ) (numbers : List ℕ) → c ≡ reception words snr now lent room numbers → T (fits binary32 snr)

-- in all the calls
abbrev pub LevelsOk : List Call → Type 0
LevelsOk [] = Unit {0}
LevelsOk (c ∷ cs) = LevelOk c × LevelsOk cs

-- the level up of the boat in slot i, old, and any level x that comes in next, each zero or at least 2 ^ -100 in size: smoothed, it lies between them
abbrev pub Smooths : Station → Type 0
Smooths s =
    (i : ℕ) (old x : Float) → (member_at s i).snrup ≡ Decibels old → T (fits binary32 x) → T (sized old) → T (sized x) → Between old x (smoothed (Decibels old) x)

-- ---- a piece in two parts

-- there are places for all: the kept rule, asked of the cell as each piece comes, refuses none
abbrev pub Placed : ℕ → Held → List Piece → Type 0
Placed number h [] = Unit {0}
Placed number h (p ∷ ps) =
    (is_lost (kept_of number p.off (length p.bytes) (shows_of h p.off p.bytes) true h.cell) ≡ false) × Placed number (cells.accept h p.off p.bytes) ps

-- the bytes p from o on
abbrev pub from : ℕ → List ℕ → Piece
from o p = record { off = o; bytes = p }

-- the joined bytes of two cells are equal, and so how many they are
pub record SameJoined (h g : Held) : Type 0 where
  pub end : h.cell.joined ≡ g.cell.joined
  pub bytes : take h.cell.joined h.bytes ≡ take g.cell.joined g.bytes

-- into the cell h one more piece of the message `whole` comes, p and q together, or p and q apart in either order
abbrev pub Splits : ℕ → List ℕ → Held → Type 0
Splits number whole h =
    (o : ℕ) (p q : List ℕ) → Cut whole o (p ++ q)
    → Placed number h (from o (p ++ q) ∷ [])
    → Placed number h (from o p ∷ from (o + length p) q ∷ [])
    → Placed number h (from (o + length p) q ∷ from o p ∷ [])
    → SameJoined (accept_all h (from o p ∷ from (o + length p) q ∷ [])) (accept_all h (from o (p ++ q) ∷ []))
    × SameJoined (accept_all h (from (o + length p) q ∷ from o p ∷ [])) (accept_all h (from o (p ++ q) ∷ []))

-- of each cell the pieces that went into it since it was taken, in order; of a free cell this says nothing
abbrev pub InCells : Type 0
InCells = ℕ → List Piece

-- one more, into the cell that is filling with its message, or into a free one, of which it is the first
abbrev pub also_in : Room → Piece → InCells → InCells
also_in (Own c) x f d = cond (eqb c d) (f d ++ (x ∷ [])) (f d)
also_in (Free c) x f d = cond (eqb c d) (x ∷ []) (f d)
also_in Full x f d = f d

-- a boat's piece as `accept` of crate stream takes it: it goes into a cell where its message is not handed over and the kept rule keeps it, as it changes something
abbrev pub went_by : Option ℕ → Table → Window → List ℕ → ℕ → ℕ → List ℕ → InCells → InCells
went_by None t w store slot o p f = f
went_by (Some k) t w store slot o p f =
    let r = table_room t slot k in
    cond (not (handed_of w k) && changes (kept_for (barred_of w k) store r (cell_at t (place_of r)) k o p)) (also_in r (from o p) f) f

-- a frame, by the station and the store as it is read
abbrev pub went_in : Station → List ℕ → Heard → InCells → InCells
went_in s store lost f = f
went_in s store (heard flags field p) f =
    let w = (member_at s (flags % 64)).up in
    cond (is_boats flags s.used) (went_by (widened (field / 65536 % 256) w.next) (table_of s) w store (flags % 64) (field % 65536) p f) f

-- the frames of a reception, in order
unfoldable pub went_all : Air → List Heard → Reading → InCells → InCells
went_all a [] x f = f
went_all a (h ∷ hs) x f = went_all a hs (frame_step a h x) (went_in x.station x.store h f)

-- a burst, with the station as `ncs_rx` has it before the first frame
abbrev pub went_rx : Station → Burst → Float → Float → List ℕ → InCells → InCells
went_rx s b snr now store f =
    went_all (air_of s b.head snr now) (frames_by (parsed b)) (first_reading (with_wait s (busy_wait s.wait b.head s.settings now)) store) f

-- a call: a reception that is not refused brings pieces
unfoldable pub went_with : Call → Net → InCells → InCells
went_with (reception words snr now lent room numbers) n f =
    cond (is_refused (reception words snr now lent room numbers) n) f (of_burst (parse words) f (λ b. went_rx n.station b snr now (lent_to lent n.store) f))
went_with (admission packed relay now room) n f = f
went_with (decision now queue room) n f = f
went_with (posting slot message queue) n f = f
went_with (sending now) n f = f
went_with (closing count) n f = f
went_with (reading cell lent) n f = f
went_with (freeing cell) n f = f
went_with (charging figures) n f = f
went_with (signing slot) n f = f
went_with (asking slot) n f = f

-- all the calls
unfoldable pub in_cells : List Call → Net → InCells → InCells
in_cells [] n f = f
in_cells (c ∷ cs) n f = in_cells cs (step c n) (went_with c n f)

-- nobody else writes the store: a reception that is not refused is lent the one handed on
abbrev pub StoreOk : InBook → Bool → Type 0
StoreOk (brings words numbers lent) refused = LentOk lent refused
StoreOk (reads cell lent) refused = Unit {0}
StoreOk (frees cell) refused = Unit {0}
StoreOk (ends slot) refused = Unit {0}
StoreOk changes_nothing refused = Unit {0}

unfoldable pub StoresOk : List Call → Net → Type 0
StoresOk [] n = Unit {0}
StoresOk (c ∷ cs) n = StoreOk (in_book c) (is_refused c n) × StoresOk cs (step c n)

-- cell c as a piece finds it, and the pieces in it: a free one is empty, whatever its bytes are
abbrev pub cell_now : Net → ℕ → Held
cell_now n c = held (cond (has_bit n.station.busy c) (cell_at (table_of n.station) c) empty_cell) (cell_of n.store c)

abbrev pub pieces_now : Net → InCells → ℕ → List Piece
pieces_now n f c = cond (has_bit n.station.busy c) (f c) []

-- each piece is cut from the message
abbrev pub AllCut : List ℕ → List Piece → Type 0
AllCut whole [] = Unit {0}
AllCut whole (x ∷ xs) = Cut whole x.off x.bytes × AllCut whole xs

-- of every cell, and of any message, of any length, its two length bytes with it, from which all the pieces in the cell are cut. `number` is the message's, as the
-- kept rule asks it
abbrev pub AllSplit : Net → InCells → Type 0
AllSplit n f = (c number : ℕ) (whole : List ℕ) → c < n.station.count → AllCut whole (pieces_now n f c) → Splits number whole (cell_now n c)

-- ---- two boats' pieces in either order

-- what a cell holds where no message has come yet
abbrev pub none_yet : Box
none_yet = record { joined = []; places = replicate 16 none }

-- what is held of a message, by its cell's room: the joined bytes, and what stands in each of the sixteen places, the waiting pieces among it
abbrev pub box_in : Room → Table → List ℕ → Box
box_in (Own c) t store = box_of (held (cell_at t c) (cell_of store c))
box_in (Free c) t store = none_yet
box_in Full t store = none_yet

-- of message k of slot s, whichever cell it is in
abbrev pub box_at_slot : Table → List ℕ → ℕ → ℕ → Box
box_at_slot t store s k = box_in (table_room t s k) t store

-- a boat's piece as it comes: the slot, the field, and at most 255 bytes
pub record Up : Type 0 where
  pub slot : ℕ
  pub field : ℕ
  pub bytes : List ℕ

-- x read as a frame of the burst a, which has the level and the time
abbrev pub reads_up : Air → Up → Reading → Reading
reads_up a x r = piece_frame a x.slot x.field x.bytes r

-- x read in a burst a, and then y in a burst b
abbrev pub both : Net → Air → Up → Air → Up → Reading
both n a x b y = reads_up b y (reads_up a x (first_reading n.station n.store))

-- what is held of message k of slot s then
abbrev pub box_after : Reading → ℕ → ℕ → Box
box_after r s k = box_at_slot (table_of r.station) r.store s k

-- a piece of a boat
pub record IsUp (s : Station) (x : Up) : Type 0 where
  pub boat : is_member s.used x.slot ≡ true
  pub short : length x.bytes ≤ 255

-- the number of a piece, of which eight bits are on air, made whole
abbrev pub number_of : Station → Up → Option ℕ
number_of s x = widened (x.field / 65536 % 256) (member_at s x.slot).up.next

-- cell c is for a piece of this number and slot: it is filling with its message, or is free; a piece whose number is none needs no cell
abbrev pub CellFor : Option ℕ → ℕ → Table → ℕ → Type 0
CellFor None slot t c = Unit {0}
CellFor (Some k) slot t c =
    (is_own t.busy t.landed c (get_or t.owners c 0) (owner_of slot k) ≡ true) ⊎ ((c < t.count) × (has_bit t.busy c ≡ false))

-- one for each
pub record Cells (s : Station) (x y : Up) : Type 0 where
  pub one : ℕ
  pub other : ℕ
  pub apart : one ≡ other → ⊥
  pub for_x : CellFor (number_of s x) x.slot (table_of s) one
  pub for_y : CellFor (number_of s y) y.slot (table_of s) other

-- no message lands with x
abbrev pub LandsNone : Net → Up → Type 0
LandsNone n x =
    is_some (accept (table_of n.station) (member_at n.station x.slot).up n.store x.slot x.field x.bytes).landed ≡ false

-- pieces of two boats, a cell for each and no message landing with either: after both, in either order and in any bursts, every message, those of the two boats
-- among them, has equal joined bytes and equal waiting pieces. Two new messages may have changed cells
abbrev pub Commutes : Net → Type 0
Commutes n =
    (x y : Up) → IsUp n.station x → IsUp n.station y → (x.slot ≡ y.slot → ⊥) → Cells n.station x y → LandsNone n x → LandsNone n y
    → (a b : Air) (s k : ℕ) → box_after (both n a x b y) s k ≡ box_after (both n b y a x) s k

-- ---- the laws

-- after the calls cs from n on. The levels handed in are f32; for the law of parts nobody else writes the store
pub record Lawful (n : Net) (cs : List Call) : Type 0 where
  pub smooths : LevelsOk cs → Smooths (after cs n).station
  pub splits : StoresOk cs n → AllSplit (after cs n) (in_cells cs n (λ c. []))
  pub commutes : Commutes (after cs n)

-- from a start that is not refused, of any calls
abbrev pub Laws : Type 0
Laws =
    (s : Station) (g : Given) (store : List ℕ) → start_refusal g (length store) ≡ 0 → (cs : List Call) → Lawful (started s g store) cs
