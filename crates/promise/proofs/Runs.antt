-- The definitions run on calls that meet the premises: item 3 is not empty. Each by computation; assumes nothing.
use mathlib.Core.Path.{◌≡◌, refl, sym, ap, subst}
use mathlib.Core.Bool.{Bool, true, false, cond}
use mathlib.Core.List.{List, [], ◌∷◌}
use mathlib.Core.Logic.{⊎_elim}
use Prim.Native.Nat.{ℕ, ◌+◌, ◌*◌, ◌/◌, ◌%◌, ◌≤◌, ◌<◌}
use native.Mathlib.Omega.{arith}
use lib.ListN.{length, replicate}
use lib.IntN.{pos}
use lib.Ieee.{Float, fin}
use Rattle.bits.specs.Loop.{first, every}
use Rattle.bits.specs.Mask.{has_bit, with_bit, without_bit, lowest_free}
use Rattle.bits.specs.Stop.{stop}
use Rattle.bits.proofs.Lists.{le_or_lt}
use Rattle.wire.specs.Call.{digit, char, trim_start, trim_end, unpacked, pack_call}
use Rattle.wire.specs.Numbers.{widened, widened_at}
use Rattle.words.specs.Words.{Heard, lost, heard, word_ok, payload_ok, unpack, payload, frame_of, item_at, frames_of, head_ok, parse}
use Rattle.out.specs.Encode.{pack, frames_words, burst_words}
use Rattle.inbox.specs.Cells.{seek, next, grow, settle, store, await}
use Rattle.inbox.specs.Cells as cells
use Rattle.inbox.specs.Messages.{framed, shows_of}
use Rattle.stream.specs.Window.{slide_of, mark_of}
use Rattle.stream.specs.Table.{own_cell, put_of, accept, cell_count}
use Rattle.net.specs.declared.Settings.{Settings}
use Rattle.net.specs.declared.Station.{Station}
use Rattle.net.specs.Net.{is_member, new_station}
use Rattle.admit.specs.Admission.{find_call, seat_of, leads_to}
use Rattle.frames.specs.Pieces.{piece_frame}
use Rattle.frames.specs.Frames.{read_frame, frame_step, read_frames}
use Rattle.rx.specs.Ending.{reply_end}
use Rattle.rx.specs.Reception.{ncs_rx}
use Rattle.config.specs.declared.Given.{Given}
use Rattle.config.specs.Checks.{settings_ok, settings_of, thresholds_ok, payloads_ok}
use Rattle.station.specs.Entries.{unless, done, start_refusal, start_of, admit_refusal, admit_of, receive_refusal, receive_of, next_refusal, next_of, cell_refusal, read_refusal, reading_of, free_of}
use Rattle.promise.specs.Promise.{handed, Net, net, Call, admission, reception, decision, reading, freeing, result, outcome, step, after, started, Stays, empty_book, cover, also_handed, all_below, book_frame, book_frames, events_in, answers_of, CallsOk, handed_in, Messages}
use Rattle.promise.proofs.Item3.{item_3}
use Rattle.config.proofs.Laws.{data_alike}

-- ---- a start

-- a clock and a level at 0
abbrev pub zero_time : Float
zero_time = fin false 0 (pos 0)

-- settings that no start refuses
abbrev pub plain : Given
plain =
    record {
      settings = record { turnaround = zero_time; maxburst = zero_time; replyslack = zero_time; detect = zero_time; beaconevery = zero_time; quickbeacon = zero_time; idleroundgap = zero_time; durations = replicate 4 zero_time; thresholds = replicate 17 zero_time; margin = zero_time; relaysnr = zero_time; misslimit = 1; beaconlevel = 0; windowslots = 0; call = replicate 7 32; name = replicate 6 32; prime = false; lead = zero_time; latency = zero_time; rooms = replicate 17 1; payloads = replicate 17 1 };
      call = replicate 5 0;
      times = replicate 1088 zero_time;
      payloads = replicate 17 1;
    }

pub plain_starts : start_refusal plain 6400 ≡ 0
unfolding start_refusal settings_ok thresholds_ok payloads_ok every
plain_starts = rw (data_alike zero_time refl)

-- one cell
abbrev bytes : List ℕ
bytes = replicate 6400 7

abbrev pub one_cell : Settings → Net
one_cell g = net (new_station g 1) bytes

pub starts : (s : Station) (g : Given) (store : List ℕ) → start_refusal g (length store) ≡ 0
    → net (new_station (settings_of g) (cell_count (length store / 6400))) store ≡ started s g store
unfolding start_of
starts s g store e =
    sym
    (ap
    (λ (x : ℕ). net (unless x s store (done (new_station (settings_of g) (cell_count (length store / 6400))) store [])).station store)
    e)

-- ---- a message handed over, and read back

-- every message is "hi"
abbrev pub all_hi : Stays
all_hi = record { watched = λ s t. true; text = λ s t k. 104 ∷ 105 ∷ [] }

-- boat A is admitted
abbrev pub joins : Call
joins = admission (pack_call (65 ∷ 32 ∷ 32 ∷ 32 ∷ 32 ∷ 32 ∷ 32 ∷ [])) 63 zero_time 8192

-- a burst of these frames, with their numbers
abbrev pub hears : List Heard → List ℕ → Call
hears fs numbers = reception (burst_words (record { head = record { code = 0; hi = 0; extra = 0 }; frames = fs })) zero_time zero_time handed 8192 numbers

-- number 0 of slot 0, whole, in one frame
abbrev pub hi : Call
hi = hears (heard 0 0 (framed (104 ∷ 105 ∷ [])) ∷ []) (0 ∷ [])

-- no room for output
abbrev pub refused : Call
refused = decision zero_time [] 0

abbrev pub hi_calls : List Call
hi_calls = joins ∷ hi ∷ refused ∷ reading 0 handed ∷ freeing 0 ∷ reading 0 handed ∷ []

-- whatever the net, this call changes nothing
pub refused_same : (n : Net) → step refused n ≡ n
unfolding step result next_of next_refusal
refused_same n = refl

-- before the admission the piece is no boat's: neither marked nor taken by the book
pub record HiRun (g : Settings) : Type 0 where
  pub stranger : answers_of hi (one_cell g) ≡ record { refused = false; seen = 0 ∷ []; mask = 0; events = [] }
  pub unbooked : handed_in all_hi (hi ∷ []) (one_cell g) empty_book ≡ []
  pub member : (step joins (one_cell g)).station.used ≡ 1
  pub answers : answers_of hi (step joins (one_cell g)) ≡ record { refused = false; seen = 1 ∷ []; mask = 0; events = record { slot = 0; cell = 0; number = 0 } ∷ [] }
  pub book : handed_in all_hi hi_calls (one_cell g) empty_book ≡ record { slot = 0; stay = 0; number = 0 } ∷ []
  pub read : reading_of (after (joins ∷ hi ∷ refused ∷ []) (one_cell g)).station (after (joins ∷ hi ∷ refused ∷ []) (one_cell g)).store 0 ≡ 104 ∷ 105 ∷ []
  pub freed : (outcome (reading 0 handed) (after (joins ∷ hi ∷ freeing 0 ∷ []) (one_cell g))).refusal ≡ 22

pub hi_run : (g : Settings) → HiRun g
unfolding step after result admit_of admit_refusal new_station seat_of find_call first lowest_free has_bit with_bit without_bit leads_to unpacked digit char trim_start trim_end receive_of receive_refusal parse head_ok frames_of item_at frame_of payload unpack payload_ok word_ok pack frames_words ncs_rx read_frames frame_step read_frame piece_frame reply_end is_member accept widened widened_at own_cell put_of cells.accept shows_of settle grow seek next slide_of stop events_in handed_in book_frames book_frame cover also_handed all_below next_of next_refusal read_refusal cell_refusal reading_of free_of
hi_run g = record { stranger = refl; unbooked = refl; member = refl; answers = refl; book = refl; read = refl; freed = refl }

-- the premises hold of these calls

pub apart : false ≡ true → ⊥
apart q = let z : ◌≡◌ {A = ℕ} 0 1 = ap (λ (b : Bool). cond b 1 0) q in omega arith

pub near : (k n : ℕ) → k ≤ 1 → (1 < n → ⊥) → (n ≤ k + 128) × (k ≤ n + 127)
near k n a z = ⊎_elim (λ b. (omega arith, omega arith)) (λ b. absurd (z b)) (le_or_lt n 1)

pub hi_ok : (g : Settings) → CallsOk all_hi hi_calls (one_cell g) empty_book
unfolding CallsOk step after result admit_of admit_refusal new_station seat_of find_call first lowest_free has_bit with_bit without_bit leads_to unpacked digit char trim_start trim_end receive_of receive_refusal parse head_ok frames_of item_at frame_of payload unpack payload_ok word_ok pack frames_words ncs_rx read_frames frame_step read_frame piece_frame reply_end is_member accept widened widened_at own_cell put_of cells.accept shows_of settle grow seek next slide_of stop events_in handed_in book_frames book_frame cover also_handed all_below next_of next_refusal read_refusal cell_refusal reading_of free_of
hi_ok g = (
  tt,
  (
    (
      tt,
      (λ r. (
        (λ m. record { eight = refl; cut = record { short = omega arith; fits = omega arith; same = refl }; near = λ n w. near 0 n (omega arith) (λ b. apart (w.1 1 b)) }),
        tt,
      )),
    ),
    (tt, (tt, (tt, (tt, tt)))),
  ),
)

-- and so does what item 3 promises, from any start that is not refused
pub hi_promised : (s : Station) (g : Given) → start_refusal g 6400 ≡ 0 → Messages all_hi (started s g bytes) hi_calls
hi_promised s g e =
    (item_3 s g bytes e hi_calls).messages all_hi (λ s t k on. omega arith) (subst (λ (n : Net). CallsOk all_hi hi_calls n empty_book) (starts s g bytes e) (hi_ok (settings_of g)))

-- ---- the same in pieces

-- a lost frame; the end first; an overlapping piece, with which the message is whole; the same again; and number 1, which finds no cell
abbrev pub pieces : Call
pieces =
    hears
    (lost
    ∷ heard 0 2 (104 ∷ 105 ∷ [])
    ∷ heard 0 0 (2 ∷ 0 ∷ 104 ∷ [])
    ∷ heard 0 0 (2 ∷ 0 ∷ [])
    ∷ heard 0 65536 (2 ∷ 0 ∷ 104 ∷ 105 ∷ [])
    ∷ [])
    (0 ∷ 0 ∷ 0 ∷ 0 ∷ 1 ∷ [])

-- number 1 once more
abbrev pub again : Call
again = hears (heard 0 65536 (2 ∷ 0 ∷ 104 ∷ 105 ∷ []) ∷ []) (1 ∷ [])

abbrev pub piece_calls : List Call
piece_calls = joins ∷ pieces ∷ reading 0 handed ∷ freeing 0 ∷ again ∷ reading 0 handed ∷ []

-- the mask marks the piece without a cell, frame 4, so the book does not take it; freed, the cell takes it
pub record PieceRun (g : Settings) : Type 0 where
  pub full : answers_of pieces (step joins (one_cell g))
      ≡ record { refused = false; seen = 1 ∷ 1 ∷ 1 ∷ 1 ∷ 1 ∷ []; mask = 16; events = record { slot = 0; cell = 0; number = 0 } ∷ [] }
  pub freed : answers_of again (after (joins ∷ pieces ∷ freeing 0 ∷ []) (one_cell g))
      ≡ record { refused = false; seen = 1 ∷ []; mask = 0; events = record { slot = 0; cell = 0; number = 1 } ∷ [] }
  pub book : handed_in all_hi piece_calls (one_cell g) empty_book ≡ record { slot = 0; stay = 0; number = 0 } ∷ record { slot = 0; stay = 0; number = 1 } ∷ []
  pub read : reading_of (after piece_calls (one_cell g)).station (after piece_calls (one_cell g)).store 0 ≡ 104 ∷ 105 ∷ []

pub piece_run : (g : Settings) → PieceRun g
unfolding step after result admit_of admit_refusal new_station seat_of find_call first lowest_free has_bit with_bit without_bit leads_to unpacked digit char trim_start trim_end receive_of receive_refusal parse head_ok frames_of item_at frame_of payload unpack payload_ok word_ok pack frames_words ncs_rx read_frames frame_step read_frame piece_frame reply_end is_member accept widened widened_at own_cell put_of cells.accept shows_of settle grow store await seek next slide_of mark_of stop events_in handed_in book_frames book_frame cover also_handed all_below next_of next_refusal read_refusal cell_refusal reading_of free_of
piece_run g = record { full = refl; freed = refl; book = refl; read = refl }

pub piece_ok : (g : Settings) → CallsOk all_hi piece_calls (one_cell g) empty_book
unfolding CallsOk step after result admit_of admit_refusal new_station seat_of find_call first lowest_free has_bit with_bit without_bit leads_to unpacked digit char trim_start trim_end receive_of receive_refusal parse head_ok frames_of item_at frame_of payload unpack payload_ok word_ok pack frames_words ncs_rx read_frames frame_step read_frame piece_frame reply_end is_member accept widened widened_at own_cell put_of cells.accept shows_of settle grow store await seek next slide_of mark_of stop events_in handed_in book_frames book_frame cover also_handed all_below next_of next_refusal read_refusal cell_refusal reading_of free_of
piece_ok g = (
  tt,
  (
    (
      tt,
      (λ r. (
        tt,
        (
          (λ m. record { eight = refl; cut = record { short = omega arith; fits = omega arith; same = refl }; near = λ n w. near 0 n (omega arith) (λ b. apart (w.1 1 b)) }),
          (
            (λ m. record { eight = refl; cut = record { short = omega arith; fits = omega arith; same = refl }; near = λ n w. near 0 n (omega arith) (λ b. apart (w.1 1 b)) }),
            (
              (λ m. record { eight = refl; cut = record { short = omega arith; fits = omega arith; same = refl }; near = λ n w. near 0 n (omega arith) (λ b. apart (w.1 1 b)) }),
              (
                (λ m. record { eight = refl; cut = record { short = omega arith; fits = omega arith; same = refl }; near = λ n w. near 1 n (omega arith) (λ b. apart (w.1 1 b)) }),
                tt,
              ),
            ),
          ),
        ),
      )),
    ),
    (
      tt,
      (
        tt,
        (
          (
            tt,
            (λ r. (
              (λ m. record { eight = refl; cut = record { short = omega arith; fits = omega arith; same = refl }; near = λ n w. near 1 n (omega arith) (λ b. apart (w.1 1 b)) }),
              tt,
            )),
          ),
          (tt, tt),
        ),
      ),
    ),
  ),
)

pub piece_promised : (s : Station) (g : Given) → start_refusal g 6400 ≡ 0 → Messages all_hi (started s g bytes) piece_calls
piece_promised s g e =
    (item_3 s g bytes e piece_calls).messages all_hi (λ s t k on. omega arith) (subst (λ (n : Net). CallsOk all_hi piece_calls n empty_book) (starts s g bytes e) (piece_ok (settings_of g)))

-- ---- short messages, for longer runs

-- every message is empty
abbrev pub all_empty : Stays
all_empty = record { watched = λ s t. true; text = λ s t k. [] }

-- number k of slot 0, whole, in one frame
abbrev pub whole : ℕ → Heard
whole k = heard 0 (k % 256 * 65536) (framed [])
