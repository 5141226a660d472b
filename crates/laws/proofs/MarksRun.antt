-- A message lands past a hole and is marked; the hole closes and the marks move. Run from a start on, by computation; assumes nothing.
use mathlib.Core.Path.{◌≡◌, refl}
use mathlib.Core.Bool.{false}
use mathlib.Core.List.{List, [], ◌∷◌}
use mathlib.Core.Logic.{⊎_elim}
use Prim.Native.Nat.{ℕ, ◌+◌, ◌≤◌, ◌<◌}
use native.Mathlib.Omega.{arith}
use Rattle.bits.specs.Loop.{first, fold}
use Rattle.bits.specs.Mask.{has_bit, with_bit, without_bit, lowest_free, either_of}
use Rattle.bits.specs.Stop.{stop}
use Rattle.bits.proofs.Lists.{le_or_lt}
use Rattle.wire.specs.Call.{digit, char, trim_start, trim_end, unpacked}
use Rattle.wire.specs.Numbers.{widened, widened_at}
use Rattle.words.specs.Words.{word_ok, payload_ok, unpack, payload, frame_of, item_at, frames_of, head_ok, parse}
use Rattle.out.specs.Encode.{pack, frames_words}
use Rattle.inbox.specs.Cells.{seek, next, grow, settle}
use Rattle.inbox.specs.Messages.{shows_of}
use Rattle.inbox.specs.Cells as cells
use Rattle.stream.specs.Window.{slide_of, mark_of}
use Rattle.stream.specs.Table.{own_cell, put_of, accept}
use Rattle.net.specs.declared.Settings.{Settings}
use Rattle.net.specs.Net.{is_member, new_station}
use Rattle.admit.specs.Admission.{find_call, seat_of, leads_to}
use Rattle.bursts.specs.Rows.{list_row}
use Rattle.frames.specs.Pieces.{piece_frame}
use Rattle.frames.specs.Frames.{read_frame, frame_step, read_frames}
use Rattle.rx.specs.Ending.{reply_end}
use Rattle.rx.specs.Reception.{ncs_rx}
use Rattle.station.specs.Entries.{admit_refusal, admit_of, receive_refusal, receive_of}
use Rattle.promise.specs.Promise.{Call, result, step, after, empty_book, cover, also_handed, all_below, book_frame, book_frames, events_in, CallsOk}
use Rattle.laws.specs.Marks.{rebuilt, landed_in, book_after}
use Rattle.promise.proofs.Runs.{joins, hears, all_empty, whole, apart, near}
use Rattle.promise.proofs.Alike.{three_cells}

-- numbers 1 and 3, past the missing 0
abbrev pub ahead : List Call
ahead = joins ∷ hears (whole 1 ∷ whole 3 ∷ []) (1 ∷ 3 ∷ []) ∷ []

-- then number 0: 2 is the lowest missing one
abbrev pub closed : List Call
closed = joins ∷ hears (whole 1 ∷ whole 3 ∷ []) (1 ∷ 3 ∷ []) ∷ hears (whole 0 ∷ []) (0 ∷ []) ∷ []

-- the rows of a received list, slot, lowest missing number and marks, before and after; and the marks that events and book give
pub record MarksRun (g : Settings) : Type 0 where
  pub marked : list_row (after ahead (three_cells g)).station 0 ≡ 0 ∷ 0 ∷ 5 ∷ []
  pub moved : list_row (after closed (three_cells g)).station 0 ≡ 0 ∷ 2 ∷ 1 ∷ []
  pub landed : rebuilt (landed_in ahead (three_cells g) (λ s k. false) 0) 0 ≡ 5
  pub landed_too : rebuilt (landed_in closed (three_cells g) (λ s k. false) 0) 2 ≡ 1
  pub book : rebuilt ((book_after all_empty ahead (three_cells g) empty_book).ledger.handed 0) 0 ≡ 5
  pub book_too : rebuilt ((book_after all_empty closed (three_cells g) empty_book).ledger.handed 0) 2 ≡ 1

pub marks_run : (g : Settings) → MarksRun g
unfolding step after result rebuilt landed_in book_after fold either_of admit_of admit_refusal new_station seat_of find_call first lowest_free has_bit with_bit without_bit leads_to unpacked digit char trim_start trim_end receive_of receive_refusal parse head_ok frames_of item_at frame_of payload unpack payload_ok word_ok pack frames_words ncs_rx read_frames frame_step read_frame piece_frame reply_end is_member accept widened widened_at own_cell put_of cells.accept shows_of settle grow seek next slide_of mark_of stop events_in book_frames book_frame cover also_handed all_below
marks_run g = record { marked = refl; moved = refl; landed = refl; landed_too = refl; book = refl; book_too = refl }

-- the premises hold of it

pub marks_ok_lem : (g : Settings) → CallsOk all_empty closed (three_cells g) empty_book
unfolding CallsOk step after result admit_of admit_refusal new_station seat_of find_call first lowest_free has_bit with_bit without_bit leads_to unpacked digit char trim_start trim_end receive_of receive_refusal parse head_ok frames_of item_at frame_of payload unpack payload_ok word_ok pack frames_words ncs_rx read_frames frame_step read_frame piece_frame reply_end is_member accept widened widened_at own_cell put_of cells.accept shows_of settle grow seek next slide_of mark_of stop events_in book_frames book_frame cover also_handed all_below
marks_ok_lem g = (
  tt,
  (
    (
      tt,
      (λ r. (
        (λ m. record { eight = refl; cut = record { short = omega arith; fits = omega arith; same = refl }; near = λ n w. near 1 n (omega arith) (λ b. apart (w.1 0 (omega arith))) }),
        (
          (λ m. record { eight = refl; cut = record { short = omega arith; fits = omega arith; same = refl }; near = λ n w. three n (λ b. apart (w.1 0 b)) }),
          tt,
        ),
      )),
    ),
    (
      (
        tt,
        (λ r. (
          (λ m. record { eight = refl; cut = record { short = omega arith; fits = omega arith; same = refl }; near = λ n w. near 0 n (omega arith) (λ b. apart (w.1 0 (omega arith))) }),
          tt,
        )),
      ),
      tt,
    ),
  ),
)
  where
    three : (n : ℕ) → (0 < n → ⊥) → (n ≤ 3 + 128) × (3 ≤ n + 127)
    three n z = ⊎_elim (λ b. (omega arith, omega arith)) (λ b. absurd (z b)) (le_or_lt n 0)
