-- `ncs_rx` of ncs.rs, T_UP: a boat's piece, kept or not, and what lands. Messages that claim too much are document 02's, U4.
use Rattle.std.specs.Prelude.{ℕ, Bool, true, not, cond, ◌&&◌, List, [], ◌∷◌, ◌++◌, eqb, Float, Option, Some, None, is_some}
use Rattle.bits.specs.Mask.{has_bit, with_bit}
use Rattle.out.specs.Encode.{event_word, message_word}
use Rattle.stream.specs.Table.{Accepted, accept}
use Rattle.roster.specs.declared.Member.{Member}
use Rattle.roster.specs.Members.{with_heard, with_direct, landed_one, barred_one}
use Rattle.net.specs.declared.Station.{Station}
use Rattle.net.specs.State.{member_at, with_member, with_round, with_table, table_of, with_traffic, with_rxdirty, one_relay}
use Rattle.net.specs.Net.{is_member}
use Rattle.frames.specs.declared.Air.{Air}
use Rattle.frames.specs.Reading.{Reading, on_station}

-- `direct` is set before any frame is read for content, so for the boats on the roster before the reception that have a relay; nothing in it changes their relay
-- and nothing reads `direct`, so it is set here, with the piece that is heard
abbrev pub direct_if : Bool → Member → Float → Member
direct_if given m snr = cond given (with_direct m snr) m

abbrev pub is_aside_leaf : Air → Member → ℕ → Bool
is_aside_leaf a m slot = a.aside && not (eqb m.via 63) && has_bit a.start slot

abbrev pub size_of : Option ℕ → ℕ
size_of (Some n) = n
size_of None = 0

-- the boat in `slot`, heard with a piece
abbrev pub heard_member : Air → Member → ℕ → Member
heard_member a m slot = direct_if (is_aside_leaf a m slot) (with_heard m a.time) a.level

-- the boat of a piece that counts as heard
abbrev pub piece_member : Air → Member → ℕ → Accepted → Member
piece_member a m slot r =
    cond (is_some r.landed) (landed_one (heard_member a m slot) r.number (size_of r.landed)) (heard_member a m slot)

-- the polled slot, where it has a member and is another than the sender's
abbrev pub other_of : Option ℕ → ℕ → ℕ → Option ℕ
other_of None used slot = None
other_of (Some v) used slot = cond (not (eqb v slot) && is_member used v) (Some v) None

-- the boat other than the sender that brought what landed
abbrev pub relayer : Air → Station → ℕ → Accepted → Option ℕ
relayer a s slot r = cond (is_some r.landed) (other_of a.polled s.used slot) None

-- a polled boat other than the sender brought it
abbrev pub is_relayed : Air → Station → ℕ → Accepted → Bool
is_relayed a s slot r = is_some (relayer a s slot r)

-- event 4 names the boat that brought it
abbrev pub relayed_words : Option ℕ → ℕ → List ℕ
relayed_words None slot = []
relayed_words (Some v) slot = event_word 4 slot v ∷ []

abbrev pub piece_events : Air → Station → ℕ → Accepted → List ℕ
piece_events a s slot r =
    cond (is_some r.landed) (relayed_words (relayer a s slot r) slot ++ (message_word slot r.cell r.number ∷ [])) []

abbrev pub relay_if : Bool → Station → Station
relay_if given s = cond given (one_relay (with_round s (with_rxdirty s.round true))) s

abbrev pub traffic_if : Bool → Station → Station
traffic_if given s = cond given (with_round s (with_traffic s.round true)) s

-- a piece that was not kept counts as a frame not heard in everything; the mask marks it
abbrev pub unkept_at : Reading → Reading
unkept_at x =
    record { station = x.station; store = x.store; words = x.words; frame = x.frame; heard = x.heard; unkept = with_bit x.unkept x.frame; sender = x.sender; more = x.more; seen = x.seen }

abbrev pub kept_piece : Air → ℕ → Accepted → Reading → Reading
kept_piece a slot r x =
    record {
      station = relay_if (is_relayed a x.station slot r) (traffic_if (is_some r.landed) (with_member (with_table x.station r.table) slot (piece_member a (member_at x.station slot) slot r)));
      store = r.store;
      words = x.words ++ piece_events a x.station slot r;
      frame = x.frame;
      heard = x.heard;
      unkept = x.unkept;
      sender = x.sender;
      more = x.more;
      seen = x.seen;
    }

-- the message claims too much: its cell is free, and the boat's window bars its number
abbrev pub barred_piece : ℕ → Accepted → Reading → Reading
barred_piece slot r x =
    on_station x (with_member (with_table x.station r.table) slot (barred_one (member_at x.station slot) r.number))

abbrev pub taken_piece : Air → ℕ → Accepted → Reading → Reading
taken_piece a slot r x = cond r.lost (unkept_at (cond r.bars (barred_piece slot r x) x)) (kept_piece a slot r x)

-- a piece for a slot without a member is no boat's piece
unfoldable pub piece_frame : Air → ℕ → ℕ → List ℕ → Reading → Reading
piece_frame a slot field p x =
    cond (is_member x.station.used slot)
    (taken_piece a slot (accept (table_of x.station) (member_at x.station slot).up x.store slot field p) x) x
