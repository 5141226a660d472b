-- A long run from a start on, where 1 to 127 of one boat are handed over and 0 is not. Then two alike come in one reception, 0 and 256; or 0 and 128 come, and 0 once
-- more is too old (Needed). Assumes nothing.
use Rattle.std.specs.Prelude.{None}
use mathlib.Core.Path.{◌≡◌, refl, sym, ap, ◌∙◌}
use mathlib.Core.Bool.{Bool, true, false, ◌&&◌}
use mathlib.Core.List.{List, [], ◌∷◌, ◌++◌}
use mathlib.Core.Logic.{⊎_elim}
use Prim.Native.Nat.{ℕ, zero, suc, ◌+◌, ◌^◌, ◌-◌, ◌≤◌, ◌<◌}
use lib.Dec.{leb, ltb, eqb}
use Rattle.roster.specs.Members.{new_member, with_up}
use Rattle.net.specs.State.{with_traffic, with_toack}
use native.Mathlib.Omega.{arith}
use lib.ListN.{replicate, set}
use Rattle.bits.specs.Loop.{first}
use Rattle.bits.specs.Mask.{has_bit, with_bit, without_bit, lowest_free}
use Rattle.bits.specs.Stop.{stop}
use Rattle.bits.proofs.Lists.{le_or_lt}
use Rattle.wire.specs.Call.{digit, char, trim_start, trim_end, unpacked}
use Rattle.wire.specs.Numbers.{widened, widened_at}
use Rattle.words.specs.Words.{word_ok, payload_ok, unpack, payload, frame_of, item_at, frames_of, head_ok, parse}
use Rattle.out.specs.Encode.{pack, frames_words}
use Rattle.inbox.specs.Cells.{seek, next, grow, settle}
use Rattle.inbox.specs.Cells as cells
use Rattle.inbox.specs.Messages.{empty_cell, shows_of}
use Rattle.stream.specs.declared.window.Window.{Window}
use Rattle.stream.specs.Window.{slide_of, mark_of, window_of}
use Rattle.stream.specs.Table.{own_cell, put_of, accept}
use Rattle.net.specs.declared.Settings.{Settings}
use Rattle.net.specs.Net.{is_member, new_station}
use Rattle.admit.specs.Admission.{find_call, seat_of, leads_to}
use Rattle.frames.specs.Pieces.{piece_frame}
use Rattle.frames.specs.Frames.{read_frame, frame_step, read_frames}
use Rattle.rx.specs.Ending.{reply_end}
use Rattle.rx.specs.Reception.{ncs_rx}
use Rattle.station.specs.Entries.{admit_refusal, admit_of, receive_refusal, receive_of, cell_refusal, free_of}
use Rattle.promise.specs.Promise.{handed, Net, net, Call, freeing, result, in_book, step, after, sent_now, Book, cover, also_handed, all_below, book_frame, book_frames, events_in, answers_of, book_call, CallOk}
use Rattle.promise.proofs.Ledgers.{of_all}
use Rattle.promise.proofs.Runs.{zero_time, joins, hears, all_empty, whole, apart, near}

-- n numbers from k on, each handed over and its cell freed
unfoldable pub filled : ℕ → ℕ → List Call
filled zero k = []
filled (suc n) k = hears (whole k ∷ []) (k ∷ []) ∷ freeing 0 ∷ filled n (k + 1)

abbrev pub three_cells : Settings → Net
three_cells g = net (new_station g 3) (replicate 19200 7)

-- the net where the boat's window is w, and k was the last number in cell 0, which is free
unfoldable pub having : Settings → Window → ℕ → Net
having g w k =
    net
    (record {
      settings = g;
      wait = (new_station g 3).wait;
      round = with_traffic (with_toack (new_station g 3).round 1) true;
      totals = (new_station g 3).totals;
      used = 1;
      busy = 0;
      landed = 0;
      count = 3;
      members = set (new_station g 3).members 0 (with_up (new_member (65 ∷ 32 ∷ 32 ∷ 32 ∷ 32 ∷ 32 ∷ 32 ∷ []) 63 zero_time) w 0);
      recent = (new_station g 3).recent;
      queues = (new_station g 3).queues;
      hears = (new_station g 3).hears;
      owners = set (replicate 64 0) 0 k;
      cells = set (replicate 64 empty_cell) 0 (record { joined = 2; offsets = replicate 16 0; lengths = replicate 16 0 });
    })
    (0 ∷ 0 ∷ replicate 19198 7)

-- 1 to k handed over, and 0 not
abbrev pub up_to : ℕ → Window
up_to k = window_of 0 (2 ^ k - 1) 0

to_15 : (g : Settings) → after (joins ∷ filled 15 1) (three_cells g) ≡ having g (up_to 15) 15
unfolding having admit_of admit_refusal seat_of find_call leads_to unpacked digit char trim_start trim_end filled step after result new_station first lowest_free has_bit with_bit without_bit receive_of receive_refusal parse head_ok frames_of item_at frame_of payload unpack payload_ok word_ok pack frames_words ncs_rx read_frames frame_step read_frame piece_frame reply_end is_member accept widened widened_at own_cell put_of cells.accept shows_of settle grow seek next slide_of mark_of stop cell_refusal free_of
to_15 g = refl

to_43 : (g : Settings) → after (filled 28 16) (having g (up_to 15) 15) ≡ having g (up_to 43) 43
unfolding having filled step after result new_station first lowest_free has_bit with_bit without_bit receive_of receive_refusal parse head_ok frames_of item_at frame_of payload unpack payload_ok word_ok pack frames_words ncs_rx read_frames frame_step read_frame piece_frame reply_end is_member accept widened widened_at own_cell put_of cells.accept shows_of settle grow seek next slide_of mark_of stop cell_refusal free_of
to_43 g = refl

to_71 : (g : Settings) → after (filled 28 44) (having g (up_to 43) 43) ≡ having g (up_to 71) 71
unfolding having filled step after result new_station first lowest_free has_bit with_bit without_bit receive_of receive_refusal parse head_ok frames_of item_at frame_of payload unpack payload_ok word_ok pack frames_words ncs_rx read_frames frame_step read_frame piece_frame reply_end is_member accept widened widened_at own_cell put_of cells.accept shows_of settle grow seek next slide_of mark_of stop cell_refusal free_of
to_71 g = refl

to_99 : (g : Settings) → after (filled 28 72) (having g (up_to 71) 71) ≡ having g (up_to 99) 99
unfolding having filled step after result new_station first lowest_free has_bit with_bit without_bit receive_of receive_refusal parse head_ok frames_of item_at frame_of payload unpack payload_ok word_ok pack frames_words ncs_rx read_frames frame_step read_frame piece_frame reply_end is_member accept widened widened_at own_cell put_of cells.accept shows_of settle grow seek next slide_of mark_of stop cell_refusal free_of
to_99 g = refl

to_127 : (g : Settings) → after (filled 28 100) (having g (up_to 99) 99) ≡ having g (up_to 127) 127
unfolding having filled step after result new_station first lowest_free has_bit with_bit without_bit receive_of receive_refusal parse head_ok frames_of item_at frame_of payload unpack payload_ok word_ok pack frames_words ncs_rx read_frames frame_step read_frame piece_frame reply_end is_member accept widened widened_at own_cell put_of cells.accept shows_of settle grow seek next slide_of mark_of stop cell_refusal free_of
to_127 g = refl

after_both : (cs ds : List Call) (n : Net) → after (cs ++ ds) n ≡ after ds (after cs n)
unfolding after
after_both [] ds n = refl
after_both (c ∷ cs) ds n = after_both cs ds (step c n)

then : (cs ds : List Call) (n m : Net) → after cs n ≡ m → after (cs ++ ds) n ≡ after ds m
then cs ds n m e = after_both cs ds n ∙ ap (after ds) e

-- 1 to 127 handed over, in 255 calls
abbrev pub run : List Call
run = (joins ∷ filled 15 1) ++ (filled 28 16 ++ (filled 28 44 ++ (filled 28 72 ++ filled 28 100)))

pub reached : (g : Settings) → after run (three_cells g) ≡ having g (up_to 127) 127
reached g =
    then (joins ∷ filled 15 1) (filled 28 16 ++ (filled 28 44 ++ (filled 28 72 ++ filled 28 100))) (three_cells g) (having g (up_to 15) 15) (to_15 g)
    ∙ then (filled 28 16) (filled 28 44 ++ (filled 28 72 ++ filled 28 100)) (having g (up_to 15) 15) (having g (up_to 43) 43) (to_43 g)
    ∙ then (filled 28 44) (filled 28 72 ++ filled 28 100) (having g (up_to 43) 43) (having g (up_to 71) 71) (to_71 g)
    ∙ then (filled 28 72) (filled 28 100) (having g (up_to 71) 71) (having g (up_to 99) 99) (to_99 g)
    ∙ to_127 g

-- the book then, written down: 1 to 127 are handed over, and no cell has a message
abbrev pub late_book : Book
late_book =
    record {
      ledger =
          record { covered = λ s k i. eqb s 0 && leb 1 k && ltb k 128 && ltb i 2; handed = λ s k. eqb s 0 && leb 1 k && ltb k 128 };
      entry = λ c. None;
      stay = λ s. 0;
    }

abbrev pub alike : Call
alike = hears (whole 0 ∷ whole 128 ∷ whole 256 ∷ []) (0 ∷ 128 ∷ 256 ∷ [])

-- the lower number has the earlier event
pub record AlikeRun (g : Settings) : Type 0 where
  pub events : (answers_of alike (having g (up_to 127) 127)).events
      ≡ record { slot = 0; cell = 0; number = 0 } ∷ record { slot = 0; cell = 1; number = 128 } ∷ record { slot = 0; cell = 2; number = 0 } ∷ []
  pub book : (book_call (sent_now all_empty late_book) alike (having g (up_to 127) 127) late_book).out
      ≡ record { slot = 0; number = 0 } ∷ record { slot = 0; number = 128 } ∷ record { slot = 0; number = 256 } ∷ []

pub alike_run : (g : Settings) → AlikeRun g
unfolding having result new_station first lowest_free has_bit with_bit without_bit receive_of receive_refusal parse head_ok frames_of item_at frame_of payload unpack payload_ok word_ok pack frames_words ncs_rx read_frames frame_step read_frame piece_frame reply_end is_member accept widened widened_at own_cell put_of cells.accept shows_of settle grow seek next slide_of mark_of stop events_in book_frames book_frame cover also_handed all_below
alike_run g = record { events = refl; book = refl }

-- so it is after those calls
pub alike_events : (g : Settings)
    → (answers_of alike (after run (three_cells g))).events
    ≡ record { slot = 0; cell = 0; number = 0 } ∷ record { slot = 0; cell = 1; number = 128 } ∷ record { slot = 0; cell = 2; number = 0 } ∷ []
alike_events g = ap (λ (n : Net). (answers_of alike n).events) (reached g) ∙ (alike_run g).events

-- ---- number 0, and then 128: all below 129 are handed over

pub to_129 : (g : Settings) → after (freeing 0 ∷ filled 1 128) (step (hears (whole 0 ∷ []) (0 ∷ [])) (having g (up_to 127) 127)) ≡ having g (window_of 129 0 0) 128
unfolding having filled step after result new_station first lowest_free has_bit with_bit without_bit receive_of receive_refusal parse head_ok frames_of item_at frame_of payload unpack payload_ok word_ok pack frames_words ncs_rx read_frames frame_step read_frame piece_frame reply_end is_member accept widened widened_at own_cell put_of cells.accept shows_of settle grow seek next slide_of mark_of stop cell_refusal free_of
to_129 g = refl

-- ---- the premises hold of two alike

-- where a test holds below m, and not of n
below : (f : ℕ → Bool) (m n : ℕ) → all_below m f ≡ true → f n ≡ false → m ≤ n
below f m n a b = ⊎_elim (λ l. l) (λ l. absurd (apart (sym b ∙ of_all m f a n l))) (le_or_lt m n)

reach : (k n : ℕ) → (k < n → ⊥) → k ≤ n + 127 → (n ≤ k + 128) × (k ≤ n + 127)
reach k n z a = (⊎_elim (λ b. omega arith) (λ b. absurd (z b)) (le_or_lt n k), a)

pub alike_ok : (g : Settings) → CallOk (sent_now all_empty late_book) (in_book alike) (answers_of alike (having g (up_to 127) 127)) late_book
unfolding having result new_station first lowest_free has_bit with_bit without_bit receive_of receive_refusal parse head_ok frames_of item_at frame_of payload unpack payload_ok word_ok pack frames_words ncs_rx read_frames frame_step read_frame piece_frame reply_end is_member accept widened widened_at own_cell put_of cells.accept shows_of settle grow seek next slide_of mark_of stop events_in book_frames book_frame cover also_handed all_below
alike_ok g = (
  tt,
  (λ r. (
    (λ m. record { eight = refl; cut = record { short = omega arith; fits = omega arith; same = refl }; near = λ n w. near 0 n (omega arith) (λ b. apart (w.1 0 (omega arith))) }),
    (
      (λ m. record { eight = refl; cut = record { short = omega arith; fits = omega arith; same = refl }; near = λ n w. reach 128 n (λ b. apart (w.1 128 b)) (let z = below (also_handed 0 0 late_book.ledger.handed 0) 128 n refl w.0 in omega arith) }),
      (
        (λ m. record { eight = refl; cut = record { short = omega arith; fits = omega arith; same = refl }; near = λ n w. reach 256 n (λ b. apart (w.1 129 (omega arith))) (let z = below (also_handed 0 128 (also_handed 0 0 late_book.ledger.handed) 0) 129 n refl w.0 in omega arith) }),
        tt,
      ),
    ),
  )),
)
