-- The entry points, whole: document 01's checks in its order (4, 7, 1, 2, 3, 5, 6, 8, 9, then 21, 22, 23), and what a call that none of them refuses does.
-- A refusal is its number, and 0 is none; a refused call gives its number alone, and station, store and output keep every value.
use Rattle.std.specs.Prelude.{ℕ, ◌+◌, ◌/◌, Bool, true, cond, ◌||◌, List, [], eqb, ltb, leb, length, Float, Option, Some, None, Result, Ok, Err}
use Rattle.refusal.specs.declared.Refusal.{Refusal}
use Rattle.bits.specs.Mask.{has_bit}
use Rattle.level.specs.Spans.{up_to, within}
use Rattle.wire.specs.Call.{unpack_call}
use Rattle.words.specs.Words.{Burst, Parsed, malformed, parsed, parse}
use Rattle.inbox.specs.Messages.{framed}
use Rattle.inbox.specs.Stores.{message_of}
use Rattle.queue.specs.declared.Queue.{Queue}
use Rattle.queue.specs.Queues.{space_refusal, posted_to, put_bytes}
use Rattle.stream.specs.Table.{freed_table, cell_count}
use Rattle.net.specs.declared.Station.{Station}
use Rattle.net.specs.State.{queue_at, with_queue, with_round, with_closing, table_of, with_table}
use Rattle.net.specs.Net.{is_member, new_station, on_tx_done, Said}
use Rattle.out.specs.Encode.{after}
use Rattle.station.specs.declared.Answered.{Answered}
use Rattle.station.specs.declared.Heard.{Heard}
use Rattle.station.specs.Refusals.{refusal_of}
use Rattle.admit.specs.Admission.{seat_of, is_full, via_for, admit_by}
use Rattle.next.specs.Next.{ncs_next}
use Rattle.rx.specs.Reception.{Received, ncs_rx}
use Rattle.config.specs.declared.Given.{Given}
use Rattle.config.specs.Checks.{settings_ok, settings_of}

-- What a call leaves: its refusal, the station, the store or the directed queue that it was lent, the words that it wrote, and of a reception the pieces not kept.
pub record Outcome : Type 0 where
  pub refusal : ℕ
  pub station : Station
  pub store : List ℕ
  pub words : List ℕ
  pub mask : ℕ

abbrev pub refused : ℕ → Station → List ℕ → Outcome
refused n s store = record { refusal = n; station = s; store = store; words = []; mask = 0 }

abbrev pub done : Station → List ℕ → List ℕ → Outcome
done s store words = record { refusal = 0; station = s; store = store; words = words; mask = 0 }

-- How many words an answer says that were written.
abbrev pub words_in : Result ℕ Refusal → ℕ
words_in (Ok n) = n
words_in (Err r) = 0

-- how many words a call says that it wrote: all of them where they fit, and 8,192 are room for all (`AllFit` of laws)
abbrev pub answer_of : Outcome → ℕ → Result ℕ Refusal
answer_of x room = cond (eqb x.refusal 0) (Ok (after room 0 (length x.words))) (Err (refusal_of x.refusal))

abbrev pub answered : Outcome → ℕ → Answered
answered x room = record { station = x.station; answer = answer_of x room }

abbrev pub heard_of : Outcome → ℕ → Heard
heard_of x room = record { station = x.station; answer = answer_of x room; mask = x.mask }

-- refused by the number, unless it is 0
abbrev pub unless : ℕ → Station → List ℕ → Outcome → Outcome
unless n s store o = cond (eqb n 0) o (refused n s store)

-- ---- the checks, each passing on to the next

-- 4: output below 8,192 words
abbrev pub check4 : ℕ → ℕ → ℕ
check4 room rest = cond (ltb room 8192) 4 rest

-- 7: store shorter than the cells fixed at the start
abbrev pub check7 : ℕ → ℕ → ℕ → ℕ
check7 size count rest = cond (ltb (size / 6400) count) 7 rest

-- 1: clock not finite, negative or above 1,000,000,000
abbrev pub check1 : Float → ℕ → ℕ
check1 now rest = cond (up_to 1000000000 now) rest 1

-- 2: level not finite or outside -200 to 200
abbrev pub check2 : Float → ℕ → ℕ
check2 snr rest = cond (within 200 snr) rest 2

-- 3: words malformed
abbrev pub check3 : Parsed Burst → ℕ → ℕ
check3 malformed rest = 3
check3 (parsed b) rest = rest

-- 6: cell number not below the count; 22: no landed message in the cell
abbrev pub check6 : ℕ → ℕ → ℕ → ℕ
check6 count cell rest = cond (leb count cell || leb 64 cell) 6 rest

abbrev pub check22 : ℕ → ℕ → ℕ
check22 landed cell = cond (has_bit landed cell) 0 22

unfoldable pub cell_refusal : ℕ → ℕ → ℕ → ℕ
cell_refusal count landed cell = check6 count cell (check22 landed cell)

-- 8: slot above 61; 21: no member in the slot. A relay of 63 is none
abbrev pub check_relay : ℕ → ℕ → ℕ → ℕ
check_relay used relay rest =
    cond (eqb relay 63) rest (cond (ltb 61 relay) 8 (cond (is_member used relay) rest 21))

-- ---- start: 7 store below 6,400 bytes, then 5

unfoldable pub start_refusal : Given → ℕ → ℕ
start_refusal g size = cond (ltb size 6400) 7 (cond (settings_ok g) 0 5)

unfoldable pub start_of : Station → Given → List ℕ → Outcome
start_of s g store =
    unless (start_refusal g (length store)) s store (done (new_station (settings_of g) (cell_count (length store / 6400))) store [])

-- ---- direct admission: 4, 1, 8, 21, 23 (unknown call with 62 members)

unfoldable pub admit_refusal : ℕ → Float → ℕ → ℕ → Bool → ℕ
admit_refusal room now used relay full = check4 room (check1 now (check_relay used relay (cond full 23 0)))

abbrev pub admitted : Station → List ℕ → ℕ → Float → Said
admitted s call relay now = admit_by (seat_of s call) s call (via_for s (seat_of s call) relay) now

unfoldable pub admit_of : Station → List ℕ → ℕ → Float → ℕ → Outcome
admit_of s packed relay now room =
    unless (admit_refusal room now s.used relay (is_full (seat_of s (unpack_call packed)))) s []
    (done (admitted s (unpack_call packed) relay now).station [] (admitted s (unpack_call packed) relay now).words)

-- ---- reception: 4, 7, 1, 2, 3

abbrev pub received_as : Received → Outcome
received_as r = record { refusal = 0; station = r.station; store = r.store; words = r.words; mask = r.unkept }

abbrev pub receive_by : Parsed Burst → Station → Float → Float → List ℕ → Outcome
receive_by malformed s snr now store = refused 3 s store
receive_by (parsed b) s snr now store = received_as (ncs_rx s b snr now store)

unfoldable pub receive_refusal : ℕ → ℕ → ℕ → Float → Float → Parsed Burst → ℕ
receive_refusal room size count now snr burst =
    check4 room (check7 size count (check1 now (check2 snr (check3 burst 0))))

-- the same checks by a flag, as the code has it: malformed words
abbrev pub receive_check : ℕ → ℕ → ℕ → Float → Float → Bool → ℕ
receive_check room size count now snr bad = check4 room (check7 size count (check1 now (check2 snr (cond bad 3 0))))

abbrev pub frames_or65 : Option ℕ → ℕ
frames_or65 None = 65
frames_or65 (Some n) = n

unfoldable pub receive_of : Station → List ℕ → Float → Float → List ℕ → ℕ → Outcome
receive_of s words snr now store room =
    unless (receive_refusal room (length store) s.count now snr (parse words)) s store (receive_by (parse words) s snr now store)

-- ---- next decision: 4, 7 (directed queue below 126,976 bytes), 1; end of a sending: 1; closing: 9 count above 15

-- 2,048 bytes for each of the 62 slots (U1)
abbrev pub queue_size : ℕ
queue_size = 126976

abbrev pub check_queue : ℕ → ℕ → ℕ
check_queue size rest = cond (ltb size queue_size) 7 rest

unfoldable pub next_refusal : Float → ℕ → ℕ → ℕ
next_refusal now size room = check4 room (check_queue size (check1 now 0))

-- the directed queue is read, not written
unfoldable pub next_of : Station → Float → List ℕ → ℕ → Outcome
next_of s now queue room =
    unless (next_refusal now (length queue) room) s [] (done (ncs_next s now queue).station [] (ncs_next s now queue).words)

-- ---- posting a message to a boat (U1): 7, 8 slot above 61, 21 no member in the slot, 24 kept plus new bytes pass 2,048, 25 total posted passes 16,777,215

unfoldable pub post_refusal : ℕ → ℕ → ℕ → Queue → ℕ → ℕ
post_refusal size used slot q n =
    check_queue size (cond (ltb 61 slot) 8 (cond (is_member used slot) (space_refusal q n) 21))

-- what it was lent is the directed queue: the message stands in it behind what was posted before
unfoldable pub post_of : Station → ℕ → List ℕ → List ℕ → Outcome
post_of s slot message queue =
    unless (post_refusal (length queue) s.used slot (queue_at s slot) (length message)) s queue
    (done (with_queue s slot (posted_to (queue_at s slot) (length message + 2))) (put_bytes queue slot (queue_at s slot).posted (framed message)) [])

unfoldable pub sent_of : Station → Float → Outcome
sent_of s now = unless (check1 now 0) s [] (done (on_tx_done s now) [] [])

abbrev pub close_refusal : ℕ → ℕ
close_refusal count = cond (ltb 15 count) 9 0

unfoldable pub close_of : Station → ℕ → Outcome
close_of s count =
    unless (close_refusal count) s [] (done (with_round s (with_closing s.round true count)) [] [])

-- ---- reading a landed message: 7, 6, 22; freeing its cell: 6, 22

unfoldable pub read_refusal : ℕ → ℕ → ℕ → ℕ → ℕ
read_refusal size count landed cell = check7 size count (cell_refusal count landed cell)

-- the message's bytes, none where it is refused
unfoldable pub reading_of : Station → List ℕ → ℕ → List ℕ
reading_of s store cell = cond (eqb (read_refusal (length store) s.count s.landed cell) 0) (message_of store cell) []

unfoldable pub free_of : Station → ℕ → Outcome
free_of s cell = unless (cell_refusal s.count s.landed cell) s [] (done (with_table s (freed_table (table_of s) cell)) [] [])
