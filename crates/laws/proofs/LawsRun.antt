-- The laws on calls that meet their premises, and runs that show premises needed. By computation; assumes nothing.
use Rattle.std.specs.Prelude.{None}
use mathlib.Core.Path.{◌≡◌, refl, ap}
use mathlib.Core.Bool.{false}
use mathlib.Core.List.{List, [], ◌∷◌}
use mathlib.Core.Logic.{inr}
use Prim.Native.Nat.{ℕ}
use native.Mathlib.Omega.{arith}
use lib.ListN.{get_or, replicate}
use lib.IntN.{negsuc}
use lib.Ieee.{Float, fin, round, of_bits, add, sum, mul, le}
use Rattle.bits.specs.Loop.{first}
use Rattle.bits.specs.Mask.{has_bit, with_bit, without_bit, lowest_free}
use Rattle.bits.specs.Stop.{stop}
use Rattle.level.specs.declared.Level.TheVariants.{Decibels}
use Rattle.level.specs.Levels.{smoothed}
use Rattle.wire.specs.Call.{digit, char, trim_start, trim_end, unpacked, pack_call}
use Rattle.wire.specs.Numbers.{widened, widened_at}
use Rattle.words.specs.Words.{Heard, heard, word_ok, payload_ok, unpack, payload, frame_of, item_at, frames_of, head_ok, parse}
use Rattle.out.specs.Encode.{pack, frames_words, burst_words}
use Rattle.inbox.specs.Cells.{Held, seek, next, grow, settle, store, await}
use Rattle.inbox.specs.Cells as cells
use Rattle.inbox.specs.Messages.{Piece, accept_all, framed, Cut, shows_of}
use Rattle.inbox.specs.Box.{none, pieces_of}
use Rattle.stream.specs.declared.table.Room.TheVariants.{Own}
use Rattle.stream.specs.Window.{slide_of}
use Rattle.stream.specs.Table.{own_cell, put_of, accept, table_room}
use Rattle.net.specs.declared.Settings.{Settings}
use Rattle.net.specs.State.{table_of}
use Rattle.net.specs.Net.{is_member, new_station}
use Rattle.admit.specs.Admission.{find_call, seat_of, leads_to}
use Rattle.frames.specs.declared.Air.{Air}
use Rattle.frames.specs.Reading.{Reading}
use Rattle.frames.specs.Pieces.{piece_frame}
use Rattle.frames.specs.Frames.{read_frame, frame_step, read_frames}
use Rattle.rx.specs.Ending.{reply_end}
use Rattle.rx.specs.Reception.{ncs_rx}
use Rattle.station.specs.Entries.{admit_refusal, admit_of, receive_refusal, receive_of, cell_refusal, free_of}
use Rattle.promise.specs.Promise.{another, Net, Call, admission, reception, freeing, result, step, after}
use Rattle.laws.specs.Laws.{Placed, from, SameJoined, went_all, went_with, in_cells, StoresOk, cell_now, pieces_now, AllCut, none_yet, Up, both, box_after, IsUp, Cells, LandsNone}
use Rattle.promise.proofs.Runs.{zero_time, joins, hears, one_cell}
use Rattle.promise.proofs.Alike.{three_cells}

-- boat B is admitted, to slot 1
abbrev joins_too : Call
joins_too = admission (pack_call (66 ∷ 32 ∷ 32 ∷ 32 ∷ 32 ∷ 32 ∷ 32 ∷ [])) 63 zero_time 8192

abbrev two_boats : Net → Net
two_boats n = after (joins ∷ joins_too ∷ []) n

-- ---- two boats

-- number 0 of A, its first three bytes; number 0 of B, a byte past the joined end
abbrev x : Up
x = record { slot = 0; field = 0; bytes = 5 ∷ 0 ∷ 9 ∷ [] }

abbrev y : Up
y = record { slot = 1; field = 2; bytes = 7 ∷ [] }

-- the bursts that they come in
abbrev air : Air
air = record { level = zero_time; time = zero_time; aside = false; polled = None; start = 3 }

abbrev xy : Net → Reading
xy n = both n air x air y

abbrev yx : Net → Reading
yx n = both n air y air x

-- with cells for both the premises hold; the two messages change cells with the order, and what is held of each is something
pub record BoatsRun (n : Net) : Type 0 where
  pub first : IsUp n.station x
  pub second : IsUp n.station y
  pub cells : Cells n.station x y
  pub quiet : LandsNone n x
  pub quiet_too : LandsNone n y
  pub before : table_room (table_of (xy n).station) 0 0 ≡ Own 0
  pub behind : table_room (table_of (yx n).station) 0 0 ≡ Own 1
  pub joined : (box_after (yx n) 0 0).joined ≡ 5 ∷ 0 ∷ 9 ∷ []
  pub waits : get_or (box_after (xy n) 1 0).places 0 none ≡ from 2 (7 ∷ [])

pub boats_run : (g : Settings) → BoatsRun (two_boats (three_cells g))
unfolding step after result admit_of admit_refusal new_station seat_of find_call first lowest_free has_bit with_bit without_bit leads_to unpacked digit char trim_start trim_end is_member piece_frame accept widened widened_at own_cell put_of cells.accept shows_of settle grow store await seek next pieces_of
boats_run g =
    record {
      quiet = refl;
      quiet_too = refl;
      first = record { boat = refl; short = omega arith };
      second = record { boat = refl; short = omega arith };
      cells = record { one = 0; other = 1; apart = λ e. omega arith; for_x = inr (omega arith, refl); for_y = inr (omega arith, refl) };
      before = refl;
      behind = refl;
      joined = refl;
      waits = refl;
    }

-- with one cell for two the order counts
pub one_cell_short : (g : Settings) → ((box_after (xy (two_boats (one_cell g))) 0 0).joined ≡ 5 ∷ 0 ∷ 9 ∷ []) × (box_after (yx (two_boats (one_cell g))) 0 0 ≡ none_yet)
unfolding step after result admit_of admit_refusal new_station seat_of find_call first lowest_free has_bit with_bit without_bit leads_to unpacked digit char trim_start trim_end is_member piece_frame accept widened widened_at own_cell put_of cells.accept shows_of settle grow store await seek next pieces_of
one_cell_short g = (refl, refl)

-- ---- a piece in two parts

-- of A's message "hi" the length comes, and then, on its own, its last byte, which waits
abbrev some_of_hi : List Call
some_of_hi = joins ∷ hears (heard 0 0 (2 ∷ 0 ∷ []) ∷ heard 0 3 (105 ∷ []) ∷ []) (0 ∷ 0 ∷ []) ∷ []

abbrev pieces : List Call → Net → List Piece
pieces cs n = pieces_now (after cs n) (in_cells cs n (λ c. [])) 0

-- the premises: both pieces are cut from it; "hi" comes whole, or its letters apart, with places for all
pub record PartsRun (n : Net) : Type 0 where
  pub alone : StoresOk some_of_hi n
  pub given : pieces some_of_hi n ≡ from 0 (2 ∷ 0 ∷ []) ∷ from 3 (105 ∷ []) ∷ []
  pub all_cut : AllCut (framed (104 ∷ 105 ∷ [])) (pieces some_of_hi n)
  pub cut : Cut (framed (104 ∷ 105 ∷ [])) 2 (104 ∷ 105 ∷ [])
  pub whole : Placed 0 (cell_now (after some_of_hi n) 0) (from 2 (104 ∷ 105 ∷ []) ∷ [])
  pub parts : Placed 0 (cell_now (after some_of_hi n) 0) (from 2 (104 ∷ []) ∷ from 3 (105 ∷ []) ∷ [])
  pub turned : Placed 0 (cell_now (after some_of_hi n) 0) (from 3 (105 ∷ []) ∷ from 2 (104 ∷ []) ∷ [])
  pub joined : (accept_all (cell_now (after some_of_hi n) 0) (from 3 (105 ∷ []) ∷ from 2 (104 ∷ []) ∷ [])).cell.joined ≡ 4

pub parts_run : (g : Settings) → PartsRun (three_cells g)
unfolding step after result admit_of admit_refusal new_station seat_of find_call first lowest_free has_bit with_bit without_bit leads_to unpacked digit char trim_start trim_end receive_of receive_refusal parse head_ok frames_of item_at frame_of payload unpack payload_ok word_ok pack frames_words ncs_rx read_frames frame_step read_frame piece_frame reply_end is_member accept widened widened_at own_cell put_of cells.accept shows_of settle grow store await seek next stop went_all went_with in_cells StoresOk
parts_run g =
    record {
      alone = (tt, (tt, tt));
      given = refl;
      all_cut = (record { short = omega arith; fits = omega arith; same = refl }, (record { short = omega arith; fits = omega arith; same = refl }, tt));
      cut = record { short = omega arith; fits = omega arith; same = refl };
      whole = (refl, tt);
      parts = (refl, (refl, tt));
      turned = (refl, (refl, tt));
      joined = refl;
    }

-- a cell freed and taken anew has the pieces since then alone
abbrev anew : List Call
anew = joins ∷ hears (heard 0 0 (0 ∷ 0 ∷ []) ∷ []) (0 ∷ []) ∷ freeing 0 ∷ hears (heard 0 65536 (2 ∷ 0 ∷ []) ∷ []) (1 ∷ []) ∷ []

pub anew_run : (g : Settings) → pieces anew (three_cells g) ≡ from 0 (2 ∷ 0 ∷ []) ∷ []
unfolding step after result admit_of admit_refusal new_station seat_of find_call first lowest_free has_bit with_bit leads_to unpacked digit char trim_start trim_end receive_of receive_refusal parse head_ok frames_of item_at frame_of payload unpack payload_ok word_ok pack frames_words ncs_rx read_frames frame_step read_frame piece_frame reply_end is_member accept widened widened_at own_cell put_of cells.accept shows_of settle grow store await seek next stop went_all went_with in_cells StoresOk slide_of free_of cell_refusal without_bit
anew_run g = refl

-- ---- its premises are needed

-- the two ways join other bytes
abbrev Differ : Held → Type 0
Differ h = SameJoined (accept_all h (from 2 (104 ∷ []) ∷ from 3 (105 ∷ []) ∷ [])) (accept_all h (from 2 (104 ∷ 105 ∷ []) ∷ [])) → ⊥

-- a byte that is not the message's waits in the cell: it is joined behind the first part
abbrev foreign : List Call
foreign = joins ∷ hears (heard 0 0 (2 ∷ 0 ∷ []) ∷ heard 0 3 (9 ∷ []) ∷ []) (0 ∷ 0 ∷ []) ∷ []

-- or somebody else writes the store: the pieces are the message's, and the waiting byte is another
abbrev rewritten : List Call
rewritten =
    joins
    ∷ hears (heard 0 0 (2 ∷ 0 ∷ []) ∷ heard 0 3 (105 ∷ []) ∷ []) (0 ∷ 0 ∷ [])
    ∷ reception (burst_words (record { head = record { code = 0; hi = 0; extra = 0 }; frames = [] })) zero_time zero_time (another (replicate 19200 9)) 8192 []
    ∷ []

-- or there is no place: 16 bytes of one message wait, and the second part, which comes first, finds none
abbrev sixteen : List Heard
sixteen =
    heard 0 4 (7 ∷ []) ∷ heard 0 6 (7 ∷ []) ∷ heard 0 8 (7 ∷ []) ∷ heard 0 10 (7 ∷ []) ∷ heard 0 12 (7 ∷ []) ∷ heard 0 14 (7 ∷ []) ∷ heard 0 16 (7 ∷ []) ∷ heard 0 18 (7 ∷ [])
    ∷ heard 0 20 (7 ∷ []) ∷ heard 0 22 (7 ∷ []) ∷ heard 0 24 (7 ∷ []) ∷ heard 0 26 (7 ∷ []) ∷ heard 0 28 (7 ∷ []) ∷ heard 0 30 (7 ∷ []) ∷ heard 0 32 (7 ∷ []) ∷ heard 0 34 (7 ∷ []) ∷ []

abbrev crowded : Net → Held
crowded n = cell_now (after (joins ∷ hears sixteen (replicate 16 0) ∷ []) n) 0

pub record PartsNeeded (n : Net) : Type 0 where
  pub other_byte : Differ (cell_now (after foreign n) 0)
  pub written : StoresOk foreign n
  pub other_store : Differ (cell_now (after rewritten n) 0)
  pub cut : AllCut (framed (104 ∷ 105 ∷ [])) (pieces rewritten n)
  pub no_place : SameJoined (accept_all (crowded n) (from 2 (7 ∷ 7 ∷ []) ∷ from 0 (60 ∷ 0 ∷ []) ∷ [])) (accept_all (crowded n) (from 0 (60 ∷ 0 ∷ 7 ∷ 7 ∷ []) ∷ [])) → ⊥

pub parts_needed : (g : Settings) → PartsNeeded (three_cells g)
unfolding step after result admit_of admit_refusal new_station seat_of find_call first lowest_free has_bit with_bit without_bit leads_to unpacked digit char trim_start trim_end receive_of receive_refusal parse head_ok frames_of item_at frame_of payload unpack payload_ok word_ok pack frames_words ncs_rx read_frames frame_step read_frame piece_frame reply_end is_member accept widened widened_at own_cell put_of cells.accept shows_of settle grow store await seek next stop went_all went_with in_cells StoresOk
parts_needed g =
    record {
      other_byte = λ h. let z : ◌≡◌ {A = ℕ} 9 105 = ap (λ (l : List ℕ). get_or l 3 0) h.bytes in omega arith;
      written = (tt, (tt, tt));
      other_store = λ h. let z : ◌≡◌ {A = ℕ} 9 105 = ap (λ (l : List ℕ). get_or l 3 0) h.bytes in omega arith;
      cut = (record { short = omega arith; fits = omega arith; same = refl }, (record { short = omega arith; fits = omega arith; same = refl }, tt));
      no_place = λ h. let z : ◌≡◌ {A = ℕ} 2 5 = h.end in omega arith;
    }

-- ---- a smoothed level

-- the least f32 above 0, 2 ^ -149, heard twice: each half rounds to 0, and the sum lies below both
abbrev least : Float
least = fin false 1 (negsuc 148)

pub too_small : le least (smoothed (Decibels least) least) ≡ false
unfolding le mul add sum round of_bits
too_small = refl
