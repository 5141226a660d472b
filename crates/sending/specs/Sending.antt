-- Request U11 of document 02, the sending end and the station joined by a channel: `SendingEnd`, the last definition, is one statement over every list of steps.
-- A step is a call of this end (`Outbox` of stream.rs), or a call of the station as item 3 has it, of any boats, refused ones too. The channel 'makes frames
-- lost ones and loses, repeats and reorders bursts': a reception may bring any frames, in any order, and of this boat's pieces any that were sent so far.
use Rattle.std.specs.Prelude.{ℕ, suc, ◌+◌, ◌/◌, ◌%◌, ◌≤◌, ◌<◌, ◌≡◌, Bool, true, false, cond, ◌&&◌, ◌||◌, List, [], ◌∷◌, ◌++◌, ◌⊎◌, eqb, ltb, length, get_or, Option, Some, None}
use Rattle.bits.specs.Mask.{has_bit}
use Rattle.wire.specs.Kinds.{tiny, k_pollack, k_ack}
use Rattle.words.specs.Words.{Heard, lost, heard, parse, head_of}
use Rattle.net.specs.declared.Station.{Station}
use Rattle.config.specs.declared.Given.{Given}
use Rattle.station.specs.Entries.{start_refusal, reading_of}
use Rattle.outbox.specs.Outbox.{Sent}
use Rattle.outbox.specs.Bursts.{msg_field}
use Rattle.outbox.specs.Senders.{post_refusal, take_refusal, memory_refusal, both_refusal}
use Rattle.promise.specs.Promise as item3
use Rattle.promise.specs.Promise.{Call, Net, InBook, brings, reads, frees, ends, changes_nothing, in_book, outcome, Answers, answers_of, Stays, sent_now, Ledger, Book, empty_book, Message, Event2, book_frame, book_call, named, frames_by, is_boats, Lowest, LentOk, started}
use Rattle.sending.specs.Runs.{Event, Post, Take, Ack, Stale, Held, Run, piece, Is, start, All}
use Rattle.sending.specs.Runs as runs

-- ---- the steps

-- A call of this end with its arguments, or one of the station. `memory`, `bytes`, `marks` and `out` are the lengths of what is lent.
-- `answer`: this end takes an acknowledgement, a word that the station returned, as the answer to its burst `sent`, of which frame i carried piece
-- `frames i`, if any (`last_sent` of net.rs). `reception` is no argument: which reception it answers.
pub data Step : Type 0 where
  post : (body : List ℕ) (memory : ℕ) → Step
  take : (max room out bytes marks : ℕ) → Step
  stale : (marks : ℕ) → Step
  held : (next : ℕ) (also : List ℕ) (bytes marks : ℕ) → Step
  asks : Step
  answer : (word sent : ℕ) (frames : List (Option ℕ)) (reception bytes marks : ℕ) → Step
  shore : Call → Step

-- ---- acknowledgements: slot + 64 burst + 256 bitmap, which covers the first six frames

abbrev pub bits_of : ℕ → ℕ
bits_of word = (head_of word).extra / 256

-- K_ACK and K_POLLACK to this slot
abbrev pub is_ack_to : ℕ → ℕ → Bool
is_ack_to slot word =
    eqb (word / 268435456) 8
    && (eqb (head_of word).code tiny && (eqb (head_of word).hi k_pollack || eqb (head_of word).hi k_ack))
    && eqb ((head_of word).extra % 64) slot

-- what it acknowledges of a burst: each of the first six frames that carried a piece and whose bit is set
unfoldable pub acks_from : ℕ → ℕ → ℕ → List (Option ℕ) → List Event
acks_from bits sent i [] = []
acks_from bits sent i (None ∷ fs) = acks_from bits sent (suc i) fs
acks_from bits sent i (Some j ∷ fs) =
    cond (ltb i 6 && has_bit bits i) (Ack sent j ∷ acks_from bits sent (suc i) fs) (acks_from bits sent (suc i) fs)

-- ---- this end

abbrev pub done : ℕ → List Event → List Event
done refusal es = cond (eqb refusal 0) es []

-- what a step does to the outbox; a refused one nothing, and neither do `pending` and `has_new`
unfoldable pub done_by : Step → Run → List Event
done_by (post body memory) r = done (post_refusal (length r.box.msgs) memory (length body)) (Post body ∷ [])
done_by (take max room out bytes marks) r = done (take_refusal out bytes marks max room) (Take max room ∷ [])
done_by (stale marks) r = done (memory_refusal marks) (Stale ∷ [])
done_by (held next also bytes marks) r = done (both_refusal bytes marks) (Held next also ∷ [])
done_by asks r = []
done_by (answer word sent frames reception bytes marks) r = done (both_refusal bytes marks) (acks_from (bits_of word) sent 0 frames)
done_by (shore c) r = []

unfoldable pub run_after : List Event → Run → Run
run_after [] r = r
run_after (e ∷ es) r = run_after es (runs.step r e)

abbrev pub sender : Step → Run → Run
sender e r = run_after (done_by e r) r

-- the messages posted and not refused, in order: message k is the k-th
abbrev pub body_in : Event → List (List ℕ)
body_in (Post body) = body ∷ []
body_in (Take max room) = []
body_in (Ack b j) = []
body_in Stale = []
body_in (Held next also) = []

unfoldable pub bodies_in : List Event → List (List ℕ)
bodies_in [] = []
bodies_in (e ∷ es) = body_in e ++ bodies_in es

unfoldable pub posted : List Step → Run → List (List ℕ)
posted [] r = []
posted (e ∷ es) r = bodies_in (done_by e r) ++ posted es (sender e r)

-- item 3 of this boat alone: it is the one watched, and sends what was posted; nothing is said of what the other boats send
abbrev pub sent_by : ℕ → List (List ℕ) → Stays
sent_by slot bodies = record { watched = λ s t. eqb s slot; text = λ s t k. get_or bodies k [] }

-- ---- both ends

-- a reception that was not refused: its frames, their full numbers, and the words that the station returned
pub record Reception : Type 0 where
  pub frames : List Heard
  pub numbers : List ℕ
  pub words : List ℕ

-- a message that the book hands over, the event 2 that the station wrote for it, and the bytes that the cell it names then reads
pub record Landing : Type 0 where
  pub message : Message
  pub event : Event2
  pub bytes : List ℕ

pub record Ends : Type 0 where
  pub run : Run
  pub net : Net
  pub book : Book
  pub receptions : List Reception
  pub landings : List Landing

-- 'both ends start fresh'
abbrev pub fresh : Net → Ends
fresh n = record { run = start; net = n; book = empty_book; receptions = []; landings = [] }

abbrev pub reception_by : InBook → List ℕ → List Reception
reception_by (brings words numbers lent) ws = record { frames = frames_by (parse words); numbers = numbers; words = ws } ∷ []
reception_by (reads cell lent) ws = []
reception_by (frees cell) ws = []
reception_by (ends slot) ws = []
reception_by changes_nothing ws = []

-- events 2 and the messages that they name pair off in order (item 3)
abbrev pub landings_of : List Event2 → List Message → Net → List Landing
landings_of [] ms n = []
landings_of (e ∷ es) [] n = []
landings_of (e ∷ es) (m ∷ ms) n =
    record { message = m; event = e; bytes = reading_of n.station n.store e.cell } ∷ landings_of es ms n

-- a call of the station, with item 3's book
abbrev pub shore_after : Stays → Call → Ends → Ends
shore_after M c x =
    let n = item3.step c x.net in
    let b = book_call (sent_now M x.book) c x.net x.book in
    record {
      run = x.run;
      net = n;
      book = b.left;
      receptions = x.receptions ++ reception_by (in_book c) (outcome c x.net).words;
      landings = x.landings ++ landings_of (answers_of c x.net).events (named (sent_now M x.book).watched (answers_of c x.net).events b.out) n;
    }

abbrev pub own_after : Step → Ends → Ends
own_after e x =
    record { run = sender e x.run; net = x.net; book = x.book; receptions = x.receptions; landings = x.landings }

unfoldable pub stepped : Stays → Step → Ends → Ends
stepped M (post body memory) x = own_after (post body memory) x
stepped M (take max room out bytes marks) x = own_after (take max room out bytes marks) x
stepped M (stale marks) x = own_after (stale marks) x
stepped M (held next also bytes marks) x = own_after (held next also bytes marks) x
stepped M asks x = own_after asks x
stepped M (answer word sent frames reception bytes marks) x = own_after (answer word sent frames reception bytes marks) x
stepped M (shore c) x = shore_after M c x

-- ---- the premises

-- a frame of this boat is piece j of burst b: 'its pieces all come from this end'; `number` is the piece's full number, of which eight bits are on air
pub record IsPiece (p : Sent) (number field : ℕ) (bytes : List ℕ) : Type 0 where
  pub number_is : number ≡ p.seq
  pub field_is : field ≡ msg_field p.seq p.off
  pub bytes_are : bytes ≡ p.bytes

-- a frame of this boat: one of the pieces sent so far, with 'numbers within the window', at most 128 below and 127 above the lowest number not handed over
pub record Ours (slot : ℕ) (bursts : List (List Sent)) (l : Ledger) (number field : ℕ) (bytes : List ℕ) : Type 0 where
  pub b : ℕ
  pub j : ℕ
  pub sent : Is bursts b j
  pub same : IsPiece (piece bursts b j) number field bytes
  pub near : (n : ℕ) → Lowest l slot n → (n ≤ number + 128) × (number ≤ n + 127)

-- of a frame, if it is this boat's piece; nothing is asked of another's
abbrev pub FrameFrom : ℕ → List (List Sent) → Ledger → Heard → ℕ → ℕ → Type 0
FrameFrom slot bursts l lost k seen = Unit {0}
FrameFrom slot bursts l (heard flags field p) k seen = is_boats flags seen ≡ true → flags % 64 ≡ slot → Ours slot bursts l k field p

abbrev pub FramesFrom : ℕ → List (List Sent) → item3.Sent → List Heard → ℕ → List ℕ → List ℕ → ℕ → Ledger → Type 0
FramesFrom slot bursts M [] i numbers seen mask l = Unit {0}
FramesFrom slot bursts M (f ∷ fs) i numbers seen mask l =
    FrameFrom slot bursts l f (get_or numbers i 0) (get_or seen i 0)
    × FramesFrom slot bursts M fs (i + 1) numbers seen mask (book_frame M f (get_or numbers i 0) (get_or seen i 0) (has_bit mask i) l).left

-- 'neither store nor sender's memory is touched by others': only a refused call may be lent another; 'the boat is not signed off'
abbrev pub CallFrom : ℕ → List (List Sent) → item3.Sent → InBook → Answers → Book → Type 0
CallFrom slot bursts M (brings words numbers lent) a b =
    LentOk lent a.refused
    × (a.refused ≡ false → FramesFrom slot bursts M (frames_by (parse words)) 0 numbers a.seen a.mask b.ledger)
CallFrom slot bursts M (reads cell lent) a b = LentOk lent a.refused
CallFrom slot bursts M (frees cell) a b = Unit {0}
CallFrom slot bursts M (ends s) a b = a.refused ≡ false → s ≡ slot → ⊥
CallFrom slot bursts M changes_nothing a b = Unit {0}

-- the frame was lost, or it is the piece
abbrev pub Carried : ℕ → Heard → ℕ → Sent → Type 0
Carried slot lost number p = Unit {0}
Carried slot (heard flags field bytes) number p = (flags ≡ slot) × IsPiece p number field bytes

abbrev pub no_reception : Reception
no_reception = record { frames = []; numbers = []; words = [] }

-- x is among them
abbrev pub Among : {A : Type 0} → A → List A → Type 0
Among x [] = ⊥
Among x (y ∷ l) = (x ≡ y) ⊎ Among x l

-- 'each acknowledgement the sender takes was made for the burst it is applied to': the station returned the word for a reception in which each frame that
-- carried a piece of the burst came as that piece, or lost
pub record MadeFor (slot : ℕ) (x : Ends) (word sent : ℕ) (frames : List (Option ℕ)) (r : Reception) : Type 0 where
  pub came : Among r x.receptions
  pub returned : Among word r.words
  pub ack : is_ack_to slot word ≡ true
  pub carried : (i j : ℕ) → get_or frames i None ≡ Some j
      → Is x.run.bursts sent j × Carried slot (get_or r.frames i lost) (get_or r.numbers i 0) (piece x.run.bursts sent j)

-- of a step; 'numbers stay within the window' here: a posting that is not refused finds a number that no other message has
abbrev pub StepOk : ℕ → Stays → Step → Ends → Type 0
StepOk slot M (post body memory) x =
    post_refusal (length x.run.box.msgs) memory (length body) ≡ 0 → x.run.box.next_seq < 4294967295
StepOk slot M (take max room out bytes marks) x = Unit {0}
StepOk slot M (stale marks) x = Unit {0}
StepOk slot M (held next also bytes marks) x = Unit {0}
StepOk slot M asks x = Unit {0}
StepOk slot M (answer word sent frames reception bytes marks) x = MadeFor slot x word sent frames (get_or x.receptions reception no_reception)
StepOk slot M (shore c) x = CallFrom slot x.run.bursts (sent_now M x.book) (in_book c) (answers_of c x.net) x.book

unfoldable pub StepsOk : ℕ → Stays → List Step → Ends → Type 0
StepsOk slot M [] x = Unit {0}
StepsOk slot M (e ∷ es) x = StepOk slot M e x × StepsOk slot M es (stepped M e x)

-- ---- the promise

-- message k has landed, unchanged: the book has it handed over; its event 2 was written; and the cell that the event names then read the bytes that were posted
pub record Landed (slot k : ℕ) (body : List ℕ) (x : Ends) : Type 0 where
  pub handed : x.book.ledger.handed slot k ≡ true
  pub landing : Landing
  pub written : Among landing x.landings
  pub message : (landing.message.slot ≡ slot) × (landing.message.number ≡ k)
  pub event : (landing.event.slot ≡ slot) × (landing.event.number ≡ k % 256)
  pub bytes : landing.bytes ≡ body

-- 'every message the sender has dropped by acknowledgement of kept pieces has landed, unchanged': each that it held before an acknowledgement and does not
-- hold after it
abbrev pub AtStep : ℕ → List (List ℕ) → Step → Ends → Type 0
AtStep slot bodies (post body memory) x = Unit {0}
AtStep slot bodies (take max room out bytes marks) x = Unit {0}
AtStep slot bodies (stale marks) x = Unit {0}
AtStep slot bodies (held next also bytes marks) x = Unit {0}
AtStep slot bodies asks x = Unit {0}
AtStep slot bodies (answer word sent frames reception bytes marks) x =
    All
    (λ m. runs.Stays m.seq (sender (answer word sent frames reception bytes marks) x.run).box.msgs
    ⊎ Landed slot m.seq (get_or bodies m.seq []) x)
    x.run.box.msgs
AtStep slot bodies (shore c) x = Unit {0}

unfoldable pub Holds : ℕ → List (List ℕ) → Stays → List Step → Ends → Type 0
Holds slot bodies M [] x = Unit {0}
Holds slot bodies M (e ∷ es) x = AtStep slot bodies e x × Holds slot bodies M es (stepped M e x)

-- from a start of the station that is not refused and a fresh sending end, of any steps that meet the premises
abbrev pub SendingEnd : Type 0
SendingEnd =
    (s : Station) (g : Given) (store : List ℕ) → start_refusal g (length store) ≡ 0
    → (slot : ℕ) → slot < 62
    → (es : List Step)
    → StepsOk slot (sent_by slot (posted es start)) es (fresh (started s g store))
    → Holds slot (posted es start) (sent_by slot (posted es start)) es (fresh (started s g store))
