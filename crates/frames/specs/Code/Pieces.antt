-- A boat's piece as the code takes it, one element of the station at a time. Nothing here has to be believed: law `piece_whole` shows that it is `piece_frame`.
use Rattle.std.specs.Prelude.{ℕ, ◌+◌, ◌*◌, ◌/◌, ◌%◌, ◌<◌, ◌≤◌, Bool, true, false, not, cond, ◌&&◌, ◌||◌, List, [], ◌∷◌, ◌++◌, get_or, set, Option, Some, None, is_some}
use Rattle.bits.specs.Mask.{with_bit, without_bit}
use Rattle.bits.specs.Stop.{stop}
use Rattle.wire.specs.Numbers.{widened}
use Rattle.out.specs.Encode.{message_word}
use Rattle.inbox.specs.declared.cell.Cell.{Cell}
use Rattle.inbox.specs.declared.keep.Kept.TheVariants.{Needless}
use Rattle.inbox.specs.Sizes.{cell_size}
use Rattle.stream.specs.declared.window.Window.{Window}
use Rattle.stream.specs.declared.table.Room.{Room}
use Rattle.stream.specs.declared.table.Room.TheVariants.{Own, Free, Full}
use Rattle.stream.specs.declared.table.Taken.{Taken}
use Rattle.stream.specs.Window.{handed_of, barred_of}
use Rattle.stream.specs.Table.{Took, took, room_for, owner_of, place_of, has_own, take_of, left_of, changes, bars, is_lost}
use Rattle.roster.specs.declared.Member.{Member}
use Rattle.roster.specs.Members.{no_member, landed_one, barred_one}
use Rattle.net.specs.declared.Station.{Station}
use Rattle.net.specs.declared.Round.{Round}
use Rattle.net.specs.declared.Totals.{Totals}
use Rattle.net.specs.State.{index_of, with_traffic, with_rxdirty, with_relays}
use Rattle.frames.specs.declared.Air.{Air}
use Rattle.frames.specs.declared.Rx.{Rx}
use Rattle.frames.specs.declared.pieces.Piece.{Piece}
use Rattle.frames.specs.Reading.{Reading}
use Rattle.frames.specs.Pieces.{size_of, heard_member, other_of, relayed_words}

-- nothing is done with its bytes: no member in its slot, or its number is none, or its message is handed over
abbrev pub unwanted_of : ℕ → Bool → Piece
unwanted_of slot here =
    record { slot = slot; here = here; wanted = false; barred = false; number = 0; offset = 0; room = Full }

abbrev pub numbered_of : Window → Bool → ℕ → ℕ → ℕ → Room → Piece
numbered_of w here slot field k room =
    cond (not here || handed_of w k) (unwanted_of slot here)
    (record { slot = slot; here = here; wanted = true; barred = barred_of w k; number = k; offset = field % 65536; room = room })

abbrev pub piece_by : Option ℕ → Window → Bool → ℕ → ℕ → List ℕ → ℕ → ℕ → ℕ → Piece
piece_by None w here slot field owners busy landed count = unwanted_of slot here
piece_by (Some k) w here slot field owners busy landed count =
    numbered_of w here slot field k (room_for owners busy landed count (owner_of slot k))

-- the piece in a frame of `slot`, whose boat has the window w where it is `here`
unfoldable pub piece_of : Window → Bool → ℕ → ℕ → List ℕ → ℕ → ℕ → ℕ → Piece
piece_of w here slot field owners busy landed count =
    piece_by (widened (field / 65536 % 256) w.next) w here slot field owners busy landed count

-- the cell that a room names lies in a store of n bytes; where there is none, nothing is asked
abbrev pub RoomIn : Room → ℕ → Type 0
RoomIn (Own c) n = (c < 64) × (cell_size * c + cell_size ≤ n)
RoomIn (Free c) n = (c < 64) × (cell_size * c + cell_size ≤ n)
RoomIn Full n = 0 ≤ n

-- offered to its cell
abbrev pub taken_of : Piece → Cell → List ℕ → List ℕ → Took
taken_of p c bytes store =
    cond p.wanted (take_of p.barred store p.room c p.number p.offset bytes) (took (left_of c Needless) store)

abbrev pub owner_after : ℕ → Taken → Piece → ℕ
owner_after old d p = cond (changes d.kept) (owner_of p.slot p.number) old

abbrev pub with_if : ℕ → Bool → ℕ → ℕ
with_if mask given c = cond given (with_bit mask c) mask

-- a piece that was not kept is noted
abbrev pub kept_rx : Rx → Taken → Rx
kept_rx x d =
    record { word = x.word; frame = x.frame; sender = x.sender; more = x.more; heard = x.heard; unkept = with_if x.unkept (is_lost d.kept) x.frame }

-- the message claims too much and has a cell: it is given back
abbrev pub frees : Taken → Piece → Bool
frees d p = bars d.kept && has_own p.room

abbrev pub busy_after : ℕ → Taken → Piece → ℕ → ℕ
busy_after busy d p c = cond (changes d.kept) (with_bit busy c) (cond (frees d p) (without_bit busy c) busy)

-- the landed bit of a cell that a piece changed says whether its message landed
abbrev pub landed_after : ℕ → Taken → Piece → ℕ → ℕ
landed_after landed d p c =
    cond (changes d.kept) (cond (is_some d.landed) (with_bit landed c) (without_bit landed c))
    (cond (frees d p) (without_bit landed c) landed)

abbrev pub member_after : Member → Taken → Piece → Air → Member
member_after m d p a =
    cond (not p.here || is_lost d.kept) (cond (bars d.kept) (barred_one m p.number) m)
    (cond (is_some d.landed) (landed_one (heard_member a m p.slot) p.number (stop (size_of d.landed))) (heard_member a m p.slot))

-- the boat that brought what landed and is not its sender
abbrev pub relayer : Taken → Piece → Air → ℕ → Option ℕ
relayer d p a used = cond (is_some d.landed) (other_of a.polled used p.slot) None

abbrev pub round_after : Round → Taken → Option ℕ → Round
round_after r d via = with_rxdirty (with_traffic r (r.traffic || is_some d.landed)) (r.rxdirty || is_some via)

abbrev pub totals_after : Totals → Option ℕ → Totals
totals_after t via = cond (is_some via) (with_relays t (stop (t.relays + 1))) t

abbrev pub landed_events : Taken → Piece → ℕ → Option ℕ → List ℕ
landed_events d p c via = cond (is_some d.landed) (relayed_words via p.slot ++ (message_word p.slot c p.number ∷ [])) []

-- the station after the stores of a piece of the boat at i, offered to cell c
abbrev pub stored_station : Air → Piece → Taken → ℕ → ℕ → Option ℕ → Station → Station
stored_station a p d i c via s =
    record {
      settings = s.settings;
      wait = s.wait;
      round = round_after s.round d via;
      totals = totals_after s.totals via;
      used = s.used;
      busy = busy_after s.busy d p c;
      landed = landed_after s.landed d p c;
      count = s.count;
      members = set s.members i (member_after (get_or s.members i no_member) d p a);
      recent = s.recent;
      queues = s.queues;
      hears = s.hears;
      owners = set s.owners c (owner_after (get_or s.owners c 0) d p);
      cells = set s.cells c d.cell;
    }

-- the running values after them
abbrev pub stored_piece : Air → ℕ → Piece → Took → Reading → Reading
stored_piece a slot p k x =
    let d = k.taken in
    let c = place_of p.room in
    let via = relayer d p a x.station.used in
    record {
      station = stored_station a p d (index_of slot) c via x.station;
      store = k.store;
      words = x.words ++ landed_events d p c via;
      frame = x.frame;
      heard = x.heard;
      unkept = with_if x.unkept (is_lost d.kept) x.frame;
      sender = x.sender;
      more = x.more;
      seen = x.seen;
    }
