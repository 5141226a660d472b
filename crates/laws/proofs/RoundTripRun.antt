-- There and back, run: in an empty net, and where a `hears` row names the slot, which the sign-off strikes, so that the premise is needed. By computation; assumes
-- nothing.
use mathlib.Core.Path.{◌≡◌, refl}
use mathlib.Core.List.{List, [], ◌∷◌}
use Prim.Native.Nat.{ℕ}
use Rattle.bits.specs.Loop.{first, fold}
use Rattle.bits.specs.Mask.{has_bit, with_bit, without_bit, lowest_free}
use Rattle.wire.specs.Call.{digit, char, trim_start, trim_end, unpacked, unpack_call, pack_call}
use Rattle.words.specs.Words.{heard, word_ok, payload_ok, unpack, payload, frame_of, item_at, frames_of, head_ok, parse}
use Rattle.out.specs.Encode.{pack, frames_words}
use Rattle.roster.specs.Members.{tally}
use Rattle.roster.specs.Relays.{heard_at}
use Rattle.net.specs.declared.Settings.{Settings}
use Rattle.net.specs.Net.{is_member, new_station}
use Rattle.admit.specs.declared.Seat.TheVariants.{Free}
use Rattle.admit.specs.Admission.{find_call, seat_of, leads_to}
use Rattle.frames.specs.Control.{each_entry, report_frame}
use Rattle.frames.specs.Frames.{control_by, read_frame, frame_step, read_frames}
use Rattle.rx.specs.Ending.{reply_end}
use Rattle.rx.specs.Reception.{ncs_rx}
use Rattle.station.specs.Entries.{admit_refusal, admit_of, receive_refusal, receive_of}
use Rattle.signoff.specs.SignOff.{bereave_at, bereave_all, clear_at, clear_all, unhear_at, unhear_all, sign_off}
use Rattle.station.specs.SignOff.{sign_off_refusal, sign_off_of}
use Rattle.promise.specs.Promise.{Call, admission, signing, result, outcome, step, after}
use Rattle.promise.proofs.Runs.{zero_time, joins, hears, one_cell}

-- boat B
abbrev packed_b : List ℕ
packed_b = pack_call (66 ∷ 32 ∷ 32 ∷ 32 ∷ 32 ∷ 32 ∷ 32 ∷ [])

abbrev joins_b : Call
joins_b = admission packed_b 63 zero_time 8192

-- A reports that it hears slot 1, which has no boat, at the level field 40
abbrev reports : Call
reports = hears (heard 128 0 (3 ∷ 0 ∷ 30 ∷ 0 ∷ 0 ∷ 0 ∷ 0 ∷ 0 ∷ 0 ∷ 0 ∷ 0 ∷ 0 ∷ 1 ∷ 40 ∷ []) ∷ []) (0 ∷ [])

pub record TripRun (g : Settings) : Type 0 where
  -- B takes slot 1 behind A, and is gone again
  pub takes : seat_of (after (joins ∷ []) (one_cell g)).station (unpack_call packed_b) ≡ Free 1
  pub allowed : (outcome joins_b (after (joins ∷ []) (one_cell g))).refusal ≡ 0
  pub here : (after (joins ∷ joins_b ∷ []) (one_cell g)).station.used ≡ 3
  pub gone : (after (joins ∷ joins_b ∷ signing 1 ∷ []) (one_cell g)).station.used ≡ 1
  -- where A hears slot 1 before, the row is struck
  pub named : heard_at (after (joins ∷ reports ∷ []) (one_cell g)).station.hears 0 1 ≡ 40
  pub struck : heard_at (after (joins ∷ reports ∷ joins_b ∷ signing 1 ∷ []) (one_cell g)).station.hears 0 1 ≡ 63

pub trip_run : (g : Settings) → TripRun g
unfolding step after result admit_of admit_refusal new_station seat_of find_call first fold lowest_free has_bit with_bit without_bit leads_to unpacked digit char trim_start trim_end receive_of receive_refusal parse head_ok frames_of item_at frame_of payload unpack payload_ok word_ok pack frames_words ncs_rx read_frames frame_step read_frame control_by report_frame each_entry reply_end is_member heard_at sign_off_of sign_off_refusal sign_off bereave_all bereave_at clear_all clear_at unhear_all unhear_at tally
trip_run g = record { takes = refl; allowed = refl; here = refl; gone = refl; named = refl; struck = refl }
