-- A run that meets the premises with a message of 2,047 bytes, of which item 3 speaks too: it is barred, and its boat's next message is handed over and read as promised
-- (U4). By computation; assumes nothing.
use mathlib.Core.Path.{◌≡◌, refl, subst}
use mathlib.Core.Bool.{true, false, cond}
use mathlib.Core.List.{List, [], ◌∷◌}
use Prim.Native.Nat.{ℕ, ◌≤◌}
use native.Mathlib.Omega.{arith}
use lib.Dec.{eqb}
use lib.ListN.{length, replicate}
use Rattle.bits.specs.Loop.{first}
use Rattle.bits.specs.Mask.{has_bit, with_bit, without_bit, lowest_free}
use Rattle.bits.specs.Stop.{stop}
use Rattle.bits.proofs.Lists.{cond_keeps}
use Rattle.wire.specs.Call.{digit, char, trim_start, trim_end, unpacked}
use Rattle.wire.specs.Numbers.{widened, widened_at}
use Rattle.words.specs.Words.{heard, word_ok, payload_ok, unpack, payload, frame_of, item_at, frames_of, head_ok, parse}
use Rattle.out.specs.Encode.{pack, frames_words}
use Rattle.inbox.specs.Cells.{seek, next, grow, settle, store, await}
use Rattle.inbox.specs.Cells as cells
use Rattle.inbox.specs.Messages.{shows_of}
use Rattle.stream.specs.Window.{slide_of, mark_of, bar_of, barred_of}
use Rattle.stream.specs.Table.{own_cell, put_of, accept}
use Rattle.net.specs.declared.Settings.{Settings}
use Rattle.net.specs.declared.Station.{Station}
use Rattle.net.specs.State.{member_at}
use Rattle.net.specs.Net.{is_member, new_station}
use Rattle.admit.specs.Admission.{find_call, seat_of, leads_to}
use Rattle.frames.specs.Pieces.{piece_frame}
use Rattle.frames.specs.Frames.{read_frame, frame_step, read_frames}
use Rattle.rx.specs.Ending.{reply_end}
use Rattle.rx.specs.Reception.{ncs_rx}
use Rattle.config.specs.declared.Given.{Given}
use Rattle.config.specs.Checks.{settings_of}
use Rattle.station.specs.Entries.{start_refusal, admit_refusal, admit_of, receive_refusal, receive_of, cell_refusal, read_refusal, reading_of}
use Rattle.promise.specs.Promise.{handed, Net, Call, reading, result, step, after, started, Stays, empty_book, cover, also_handed, all_below, book_frame, book_frames, events_in, answers_of, CallsOk, handed_in, Messages}
use Rattle.promise.proofs.Item3.{item_3}
use Rattle.promise.proofs.Runs.{one_cell, starts, joins, hears, apart, near}

-- message 0 has 2,047 bytes, one more than a cell has room for; every other is "hi"
abbrev pub claims_much : Stays
claims_much = record { watched = λ s t. true; text = λ s t k. cond (eqb k 0) (replicate 2047 0) (104 ∷ 105 ∷ []) }

-- byte 0 takes the only cell; byte 1 shows the length; a later piece of it; and number 1, whole
abbrev pub claims : Call
claims =
    hears (heard 0 0 (255 ∷ []) ∷ heard 0 1 (7 ∷ []) ∷ heard 0 2 (0 ∷ []) ∷ heard 0 65536 (2 ∷ 0 ∷ 104 ∷ 105 ∷ []) ∷ []) (0 ∷ 0 ∷ 0 ∷ 1 ∷ [])

abbrev pub claims_calls : List Call
claims_calls = joins ∷ claims ∷ reading 0 handed ∷ []

-- frames 1 and 2 are marked, the cell is free again for number 1, number 0 is barred, and the book hands number 1 over
pub record ClaimsRun (g : Settings) : Type 0 where
  pub answers : answers_of claims (step joins (one_cell g))
      ≡ record { refused = false; seen = 1 ∷ 1 ∷ 1 ∷ 1 ∷ []; mask = 6; events = record { slot = 0; cell = 0; number = 1 } ∷ [] }
  pub barred : barred_of (member_at (after (joins ∷ claims ∷ []) (one_cell g)).station 0).up 0 ≡ true
  pub book : handed_in claims_much claims_calls (one_cell g) empty_book ≡ record { slot = 0; stay = 0; number = 1 } ∷ []
  pub read : reading_of (after claims_calls (one_cell g)).station (after claims_calls (one_cell g)).store 0 ≡ 104 ∷ 105 ∷ []

pub claims_run : (g : Settings) → ClaimsRun g
unfolding step after result admit_of admit_refusal new_station seat_of find_call first lowest_free has_bit with_bit without_bit leads_to unpacked digit char trim_start trim_end receive_of receive_refusal parse head_ok frames_of item_at frame_of payload unpack payload_ok word_ok pack frames_words ncs_rx read_frames frame_step read_frame piece_frame reply_end is_member accept widened widened_at own_cell put_of cells.accept shows_of settle grow store await seek next slide_of mark_of bar_of stop events_in handed_in book_frames book_frame cover also_handed all_below read_refusal cell_refusal reading_of
claims_run g = record { answers = refl; barred = refl; book = refl; read = refl }

-- the premises hold of these calls
pub claims_ok : (g : Settings) → CallsOk claims_much claims_calls (one_cell g) empty_book
unfolding CallsOk step after result admit_of admit_refusal new_station seat_of find_call first lowest_free has_bit with_bit without_bit leads_to unpacked digit char trim_start trim_end receive_of receive_refusal parse head_ok frames_of item_at frame_of payload unpack payload_ok word_ok pack frames_words ncs_rx read_frames frame_step read_frame piece_frame reply_end is_member accept widened widened_at own_cell put_of cells.accept shows_of settle grow store await seek next slide_of mark_of bar_of stop events_in handed_in book_frames book_frame cover also_handed all_below read_refusal cell_refusal reading_of
claims_ok g = (
  tt,
  (
    (
      tt,
      (λ r. (
        (λ m. record { eight = refl; cut = record { short = omega arith; fits = omega arith; same = refl }; near = λ n w. near 0 n (omega arith) (λ b. apart (w.1 1 b)) }),
        (
          (λ m. record { eight = refl; cut = record { short = omega arith; fits = omega arith; same = refl }; near = λ n w. near 0 n (omega arith) (λ b. apart (w.1 1 b)) }),
          (
            (λ m. record { eight = refl; cut = record { short = omega arith; fits = omega arith; same = refl }; near = λ n w. near 0 n (omega arith) (λ b. apart (w.1 1 b)) }),
            (
              (λ m. record { eight = refl; cut = record { short = omega arith; fits = omega arith; same = refl }; near = λ n w. near 1 n (omega arith) (λ b. apart (w.1 1 b)) }),
              tt,
            ),
          ),
        ),
      )),
    ),
    (tt, tt),
  ),
)

-- and so does what item 3 promises, from any start that is not refused
pub claims_promised : (s : Station) (g : Given) → start_refusal g 6400 ≡ 0 → Messages claims_much (started s g (replicate 6400 7)) claims_calls
claims_promised s g e =
    (item_3 s g (replicate 6400 7) e claims_calls).messages claims_much
    (λ s t k on. cond_keeps (λ (l : List ℕ). length l ≤ 65535) (eqb k 0) (replicate 2047 0) (104 ∷ 105 ∷ []) (λ _. omega arith) (λ _. omega arith))
    (subst (λ (n : Net). CallsOk claims_much claims_calls n empty_book) (starts s g (replicate 6400 7) e) (claims_ok (settings_of g)))
