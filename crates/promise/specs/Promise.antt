-- Item 3 of document 01, 'Item 3 in full', whole: `Item3`, the last definition, is one statement over every list of calls from a start that is not refused.
-- In order: turn events, the calls, relay links, lists and turns, the book, the premises, what is promised of messages, and the promise. With U3 of document 02
-- a boat may sign off: 'what is promised about messages and turns is per stay'.
-- A later request adds its call to `Call`, and a line for it to `result` and `in_book`, which stand next to it.
use Rattle.std.specs.Prelude.{ℕ, zero, suc, ◌+◌, ◌/◌, ◌%◌, ◌≤◌, ◌<◌, ◌≡◌, Bool, true, false, not, cond, ◌&&◌, ◌||◌, List, [], ◌∷◌, ◌++◌, T, leb, ltb, eqb, length, get_or, Float, Option, Some, None}
use Rattle.bits.specs.Mask.{has_bit, slots_of}
use Rattle.wire.specs.Kinds.{tiny, k_poll, k_pollack, k_ack, k_relay, t_up}
use Rattle.words.specs.Words.{Heard, lost, heard, Burst, Parsed, malformed, parsed, parse, head_of}
use Rattle.words.specs.declared.Head.{Head}
use Rattle.inbox.specs.Messages.{framed, Cut}
use Rattle.net.specs.declared.Station.{Station}
use Rattle.net.specs.State.{member_at}
use Rattle.net.specs.Net.{is_member}
use Rattle.next.specs.Next.{ncs_next}
use Rattle.rx.specs.Reception.{Received, ncs_rx}
use Rattle.config.specs.declared.Given.{Given}
use Rattle.station.specs.Entries.{Outcome, done, unless, start_refusal, start_of, admit_of, receive_of, next_of, post_of, sent_of, close_of, free_of, read_refusal, reading_of}
use Rattle.station.specs.SignOff.{sign_off_of}
use Rattle.station.specs.Worst.{worst_of, refusal_in}
use Rattle.dues.specs.Dues.{dues_refusal}

-- ---- what happens to lists and turns (document 01: 'those of item 2's definitions run over the same calls, never the station's record')

-- a next decision draws up a list of slots; the waiting for a slot's reply ends; a burst K_POLL or K_RELAY; a burst K_ACK or K_POLLACK; a slot signs off
pub data TurnEvent : Type 0 where
  drew : List ℕ → TurnEvent
  over : ℕ → TurnEvent
  poll : ℕ → TurnEvent
  ack : ℕ → TurnEvent
  struck : ℕ → TurnEvent

-- the waiting that a decision or a reception says has ended, if one has
abbrev pub over_if : Option ℕ → List TurnEvent
over_if None = []
over_if (Some s) = over s ∷ []

-- the list that a decision says is drawn up, a mask of slots, if one is
abbrev pub drew_if : Option ℕ → List TurnEvent
drew_if None = []
drew_if (Some list) = drew (slots_of list 62 0) ∷ []

-- ---- the calls, and the definitions of the entry points run over a list of them

-- the store that a call is lent: the one handed on, or any other ('a refused one may have been lent any other store, which is not handed on')
pub data Lent : Type 0 where
  handed : Lent
  another : List ℕ → Lent

-- its bytes
abbrev pub lent_to : Lent → List ℕ → List ℕ
lent_to handed store = store
lent_to (another other) store = other

-- what is handed on: 'Each gets the station the last one returned and the store that the last one not refused left'
pub record Net : Type 0 where
  pub station : Station
  pub store : List ℕ

-- the two together
abbrev pub net : Station → List ℕ → Net
net s store = record { station = s; store = store }

-- what the definitions answer to a call: its outcome; the store that it leaves; the members as each frame is read; and what happens to lists and turns before
-- the burst returned ('that call's burst included') and behind it, as a turn has 'its K_ACK included'
pub record Result : Type 0 where
  pub outcome : Outcome
  pub store : List ℕ
  pub seen : List ℕ
  pub before : List TurnEvent
  pub behind : List TurnEvent

-- of a call that leaves the store alone, reads no frame and leaves lists and turns alone
abbrev pub plain : Net → Outcome → Result
plain n o = record { outcome = o; store = n.store; seen = []; before = []; behind = [] }

-- what f says of a burst, and x of malformed words
abbrev pub of_burst : {A : Type 0} → Parsed Burst → A → (Burst → A) → A
of_burst malformed x f = x
of_burst (parsed b) x f = f b

-- what a call is in the book: a reception brings pieces, a reading reads a cell, a freeing empties a cell's entry, a sign-off ends a slot's stay, and the other
-- calls change nothing
pub data InBook : Type 0 where
  brings : (words numbers : List ℕ) (lent : Lent) → InBook
  reads : (cell : ℕ) (lent : Lent) → InBook
  frees : (cell : ℕ) → InBook
  ends : (slot : ℕ) → InBook
  changes_nothing : InBook

-- A call with its arguments, as the entry points take them. `room` is the length of the output lent.
-- `queue` is the directed queue lent to a decision or a posting (U1): item 3 holds whatever its bytes are, as nothing it speaks of comes from them.
-- `numbers` are no argument: the full numbers of a reception's pieces, frame by frame, of which eight bits are on air.
pub data Call : Type 0 where
  admission : (packed : List ℕ) (relay : ℕ) (now : Float) (room : ℕ) → Call
  reception : (words : List ℕ) (snr now : Float) (lent : Lent) (room : ℕ) (numbers : List ℕ) → Call
  decision : (now : Float) (queue : List ℕ) (room : ℕ) → Call
  posting : (slot : ℕ) (message queue : List ℕ) → Call
  sending : (now : Float) → Call
  closing : (count : ℕ) → Call
  reading : (cell : ℕ) (lent : Lent) → Call
  freeing : (cell : ℕ) → Call
  charging : (figures : List ℕ) → Call
  signing : (slot : ℕ) → Call
  asking : (slot : ℕ) → Call

-- the definitions that the entry points' contracts name
unfoldable pub result : Call → Net → Result
result (admission packed relay now room) n = plain n (admit_of n.station packed relay now room)
result (reception words snr now lent room numbers) n =
    let o = receive_of n.station words snr now (lent_to lent n.store) room in
    let r : Burst → Received = λ b. ncs_rx n.station b snr now (lent_to lent n.store) in
    record { outcome = o; store = o.store; seen = of_burst (parse words) [] (λ b. (r b).seen); before = []; behind = over_if (of_burst (parse words) None (λ b. (r b).over)) }
result (decision now queue room) n =
    let d = ncs_next n.station now queue in
    record { outcome = next_of n.station now queue room; store = n.store; seen = []; before = over_if d.over ++ drew_if d.drew; behind = [] }
result (posting slot message queue) n = plain n (post_of n.station slot message queue)
result (sending now) n = plain n (sent_of n.station now)
result (closing count) n = plain n (close_of n.station count)
result (reading cell lent) n =
    plain n
    (unless (read_refusal (length (lent_to lent n.store)) n.station.count n.station.landed cell) n.station n.store
    (done n.station n.store []))
result (freeing cell) n = plain n (free_of n.station cell)
result (charging figures) n =
    plain n (unless (dues_refusal figures) n.station n.store (done n.station n.store []))
result (signing slot) n =
    record { outcome = sign_off_of n.station slot; store = n.store; seen = []; before = struck slot ∷ []; behind = [] }
result (asking slot) n =
    plain n (unless (refusal_in (worst_of n.station slot)) n.station n.store (done n.station n.store []))

-- and the calls as they are in the book
abbrev pub in_book : Call → InBook
in_book (admission packed relay now room) = changes_nothing
in_book (reception words snr now lent room numbers) = brings words numbers lent
in_book (decision now queue room) = changes_nothing
in_book (posting slot message queue) = changes_nothing
in_book (sending now) = changes_nothing
in_book (closing count) = changes_nothing
in_book (reading cell lent) = reads cell lent
in_book (freeing cell) = frees cell
in_book (charging figures) = changes_nothing
in_book (signing slot) = ends slot
in_book (asking slot) = changes_nothing

-- refusal, station, words and mask
abbrev pub outcome : Call → Net → Outcome
outcome c n = (result c n).outcome

-- a refusal of 0 is none
abbrev pub is_refused : Call → Net → Bool
is_refused c n = cond (eqb (outcome c n).refusal 0) false true

-- each call gets the station that the last one returned, and the store that the last one not refused left
unfoldable pub step : Call → Net → Net
step c n = net (outcome c n).station (cond (is_refused c n) n.store (result c n).store)

-- 'any number, in any order, of direct admission, reception, .. refused ones included, clocks in any order'
unfoldable pub after : List Call → Net → Net
after [] n = n
after (c ∷ cs) n = after cs (step c n)

-- 'First a start that is not refused, any bytes in the store.'
abbrev pub started : Station → Given → List ℕ → Net
started s g store = net (start_of s g store).station store

-- ---- relay links

-- relay slots lead from slot i to a member without a relay, whose relay is 63, in at most k steps
unfoldable pub leads : Station → ℕ → ℕ → Bool
leads s zero i = is_member s.used i && eqb (member_at s i).via 63
leads s (suc k) i = is_member s.used i && (eqb (member_at s i).via 63 || leads s k (member_at s i).via)

-- 'In the roster last returned, relay slots lead from any member to one without a relay in at most 61 steps.'
abbrev pub LinksHold : Station → Type 0
LinksHold s = (i : ℕ) → is_member s.used i ≡ true → leads s 61 i ≡ true

-- ---- lists and turns, read off what the calls return, never the station's record

-- a burst by its head
abbrev pub burst_by : Head → List TurnEvent
burst_by h =
    cond (eqb h.code tiny && (eqb h.hi k_poll || eqb h.hi k_relay)) (poll (h.extra % 64) ∷ [])
    (cond (eqb h.code tiny && (eqb h.hi k_pollack || eqb h.hi k_ack)) (ack (h.extra % 64) ∷ []) [])

-- the bursts in the words returned: each has one head, a word of kind 8
unfoldable pub bursts_in : List ℕ → List TurnEvent
bursts_in [] = []
bursts_in (w ∷ ws) = cond (eqb (w / 268435456) 8) (burst_by (head_of w) ++ bursts_in ws) (bursts_in ws)

-- of one call, in order; a refused one has none. 'Polls and acknowledgements are counted in the bursts returned'
unfoldable pub turn_events : Call → Net → List TurnEvent
turn_events c n =
    let r = result c n in
    cond (is_refused c n) [] (r.before ++ (bursts_in r.outcome.words ++ r.behind))

-- of all the calls
unfoldable pub trace : List Call → Net → List TurnEvent
trace [] n = []
trace (c ∷ cs) n = turn_events c n ++ trace cs (step c n)

-- x is on the list
abbrev pub has : ℕ → List ℕ → Bool
has x [] = false
has x (y ∷ l) = cond (eqb x y) true (has x l)

-- x taken off it
abbrev pub without : ℕ → List ℕ → List ℕ
without x [] = []
without x (y ∷ l) = cond (eqb x y) (without x l) (y ∷ without x l)

-- the list that stands, and the slots whose turns run
pub record View : Type 0 where
  pub list : List ℕ
  pub run : List ℕ

-- as at a start
abbrev pub empty_view : View
empty_view = record { list = []; run = [] }

-- 'A turn runs from any poll of a listed slot that has no turn running,
abbrev pub begins : View → ℕ → Bool
begins v s = has s v.list && not (has s v.run)

-- until the waiting for its reply ends, its K_ACK included'; 'A list stands from the next-decision call that draws it up'; signing off 'strikes it from .. the
-- round .. and ends its turn if one runs' (U3)
abbrev pub view : View → TurnEvent → View
view v (drew l) = record { list = l; run = v.run }
view v (over s) = record { list = v.list; run = without s v.run }
view v (poll s) = record { list = v.list; run = cond (begins v s) (s ∷ v.run) v.run }
view v (ack s) = v
view v (struck s) = record { list = without s v.list; run = without s v.run }

-- 'From then on no slot begins a second turn until each other slot on it has had one': l is the list, `had` the slots that have begun turns since, in a stay that
-- goes on, and v the view; 'a list counts without the slots struck from it' (U3)
abbrev pub Spread : List ℕ → List ℕ → View → List TurnEvent → Type 0
Spread l had v [] = Unit {0}
Spread l had v (drew m ∷ es) = Spread l had (view v (drew m)) es
Spread l had v (over s ∷ es) = Spread l had (view v (over s)) es
Spread l had v (poll s ∷ es) =
    (T (begins v s) → T (has s had) → (t : ℕ) → T (has t l) → (t ≡ s → ⊥) → T (has t had)) × Spread l (cond (begins v s) (s ∷ had) had) (view v (poll s)) es
Spread l had v (ack s ∷ es) = Spread l had v es
Spread l had v (struck s ∷ es) = Spread (without s l) (without s had) (view v (struck s)) es

-- until the waiting for the reply of s ends, or s signs off, or to the last call: p for each poll of s, and a for each acknowledgement to it
abbrev pub till : (p a s : ℕ) → List TurnEvent → ℕ
till p a s [] = 0
till p a s (drew l ∷ es) = till p a s es
till p a s (over x ∷ es) = cond (eqb x s) 0 (till p a s es)
till p a s (poll x ∷ es) = cond (eqb x s) p 0 + till p a s es
till p a s (ack x ∷ es) = cond (eqb x s) a 0 + till p a s es
till p a s (struck x ∷ es) = cond (eqb x s) 0 (till p a s es)

-- where a turn begins no other runs, and with the poll that begins it 'at most five and four in each turn, a running one too'
pub record OneTurn (v : View) (s : ℕ) (es : List TurnEvent) : Type 0 where
  pub alone : v.run ≡ []
  pub polls : suc (till 1 0 s es) ≤ 5
  pub acks : till 0 1 s es ≤ 4

-- at an event, where v is the view before it and es is what follows it: what a list drawn up promises, what the poll that begins a turn promises, and that
-- no poll is of a slot not listed, and no acknowledgement or end of a waiting falls outside the turns
abbrev pub AtEvent : View → TurnEvent → List TurnEvent → Type 0
AtEvent v (drew l) es = Spread l [] (view v (drew l)) es
AtEvent v (over s) es = T (has s v.run)
AtEvent v (poll s) es = T (has s v.list) × (T (begins v s) → OneTurn v s es)
AtEvent v (ack s) es = T (has s v.run)
AtEvent v (struck s) es = Unit {0}

-- at every event
abbrev pub TurnsHold : View → List TurnEvent → Type 0
TurnsHold v [] = Unit {0}
TurnsHold v (e ∷ es) = AtEvent v e es × TurnsHold (view v e) es

-- ---- the book

-- the boats that are watched, by slot and stay, and the messages that they send: of a slot, its stay and a number, the n bytes after the two of the length. The
-- premises are asked of the watched boats alone, and the messages promised are theirs; any other boat may send what it likes. A stay is the time from an
-- admission to the sign-off; a slot's stays are counted from 0 on ('A slot's next holder begins at number 0', U3)
pub record Stays : Type 0 where
  pub watched : ℕ → ℕ → Bool
  pub text : ℕ → ℕ → ℕ → List ℕ

-- the same in the stays that run: by slot, and of a slot and a number
pub record Sent : Type 0 where
  pub watched : ℕ → Bool
  pub text : ℕ → ℕ → List ℕ

-- one of these
pub record Message : Type 0 where
  pub slot : ℕ
  pub number : ℕ

-- 'per boat and number the bytes covered and whether the message is handed over;
pub record Ledger : Type 0 where
  pub covered : ℕ → ℕ → ℕ → Bool
  pub handed : ℕ → ℕ → Bool

-- per cell a message or none'; all is of the stays that run, and per slot it has how many ended before
pub record Book : Type 0 where
  pub ledger : Ledger
  pub entry : ℕ → Option Message
  pub stay : ℕ → ℕ

-- as the book has the stays
abbrev pub sent_now : Stays → Book → Sent
sent_now M b = record { watched = λ s. M.watched s (b.stay s); text = λ s k. M.text s (b.stay s) k }

-- 'All is empty at the start.'
abbrev pub empty_book : Book
empty_book = record { ledger = record { covered = λ s k i. false; handed = λ s k. false }; entry = λ c. None; stay = λ s. 0 }

-- what a piece or a call comes to: the ledger or the book that is left, and the messages handed over with it, in order
pub record Entered (A : Type 0) : Type 0 where
  pub left : A
  pub out : List Message

-- nothing covered, entered or handed over
abbrev pub unchanged : {A : Type 0} → A → Entered A
unchanged x = record { left = x; out = [] }

-- the same slot and number
abbrev pub same : ℕ → ℕ → ℕ → ℕ → Bool
same s k s' k' = eqb s s' && eqb k k'

-- byte i is one of the n from o on
abbrev pub inside : ℕ → ℕ → ℕ → Bool
inside o n i = leb o i && ltb i (o + n)

-- the n bytes from o on of message k of slot s covered too
unfoldable pub cover : ℕ → ℕ → ℕ → ℕ → (ℕ → ℕ → ℕ → Bool) → ℕ → ℕ → ℕ → Bool
cover s k o n f s' k' i = cond (same s k s' k' && inside o n i) true (f s' k' i)

-- message k of slot s handed over too
unfoldable pub also_handed : ℕ → ℕ → (ℕ → ℕ → Bool) → ℕ → ℕ → Bool
also_handed s k f s' k' = cond (same s k s' k') true (f s' k')

-- the test holds of every number below n
unfoldable pub all_below : ℕ → (ℕ → Bool) → Bool
all_below zero p = true
all_below (suc n) p = p n && all_below n p

-- 'When the last of the 2 + n is first covered, the message is handed over': of message k of slot s
abbrev pub completes : Sent → ℕ → ℕ → Ledger → (ℕ → ℕ → ℕ → Bool) → Bool
completes M s k l f = not (l.handed s k) && all_below (2 + length (M.text s k)) (f s k)

-- a piece of n bytes from o on: with it the message may be handed over
abbrev pub book_piece : Sent → ℕ → ℕ → ℕ → ℕ → Ledger → Entered Ledger
book_piece M s k o n l =
    let f = cover s k o n l.covered in
    cond (completes M s k l f)
    (record { left = record { covered = f; handed = also_handed s k l.handed }; out = record { slot = s; number = k } ∷ [] })
    (unchanged (record { covered = f; handed = l.handed }))

-- a boat's piece: an up frame whose slot has a member as the frame is read ('A boat is a slot with a member')
abbrev pub is_boats : ℕ → ℕ → Bool
is_boats flags seen = eqb (flags / 64) t_up && is_member seen (flags % 64)

-- and a watched boat's: only these are in the book
abbrev pub is_watched : (ℕ → Bool) → ℕ → ℕ → Bool
is_watched watched flags seen = watched (flags % 64) && is_boats flags seen

-- 'One that the mask leaves unmarked covers its bytes in the message of its number.'
unfoldable pub book_frame : Sent → Heard → ℕ → ℕ → Bool → Ledger → Entered Ledger
book_frame M lost k seen marked l = unchanged l
book_frame M (heard flags field p) k seen marked l =
    cond (is_watched M.watched flags seen && not marked) (book_piece M (flags % 64) k (field % 65536) (length p) l) (unchanged l)

-- 'in the order the source reads them', from frame i on, with their numbers, the members as each is read and the mask
unfoldable pub book_frames : Sent → List Heard → ℕ → List ℕ → List ℕ → ℕ → Ledger → Entered Ledger
book_frames M [] i numbers seen mask l = unchanged l
book_frames M (f ∷ fs) i numbers seen mask l =
    let e = book_frame M f (get_or numbers i 0) (get_or seen i 0) (has_bit mask i) l in
    let r = book_frames M fs (i + 1) numbers seen mask e.left in
    record { left = r.left; out = e.out ++ r.out }

-- the frames read for content: a tiny burst has none
abbrev pub frames_by : Parsed Burst → List Heard
frames_by w = of_burst w [] (λ b. cond (eqb b.head.code tiny) [] b.frames)

-- event 2, as its word has it
pub record Event2 : Type 0 where
  pub slot : ℕ
  pub cell : ℕ
  pub number : ℕ

-- slot in bits 5-0, cell in 12-6, number mod 256 in 20-13
abbrev pub event_of : ℕ → Event2
event_of w = record { slot = w % 64; cell = w / 64 % 128; number = w / 8192 % 256 }

-- the events 2 among the words returned
unfoldable pub events_in : List ℕ → List Event2
events_in [] = []
events_in (w ∷ ws) = cond (eqb (w / 268435456) 2) (event_of w ∷ events_in ws) (events_in ws)

-- a cell's entry written
abbrev pub enter : ℕ → Option Message → (ℕ → Option Message) → ℕ → Option Message
enter c m f d = cond (eqb c d) m (f d)

-- each message into the cell that its event names
abbrev pub enter_all : List Event2 → List Message → (ℕ → Option Message) → ℕ → Option Message
enter_all [] [] f = f
enter_all [] (m ∷ ms) f = f
enter_all (e ∷ es) [] f = f
enter_all (e ∷ es) (m ∷ ms) f = enter_all es ms (enter e.cell (Some m) f)

-- the messages that events 2 name, in order: an event of a watched boat the next one that is handed over, and any other what it says itself, so that the book has
-- its cell in use
abbrev pub named : (ℕ → Bool) → List Event2 → List Message → List Message
named watched [] ms = ms
named watched (e ∷ es) [] = cond (watched e.slot) [] (record { slot = e.slot; number = e.number } ∷ named watched es [])
named watched (e ∷ es) (m ∷ ms) =
    cond (watched e.slot) (m ∷ named watched es ms) (record { slot = e.slot; number = e.number } ∷ named watched es (m ∷ ms))

-- the 'four answers of the definitions run over the same calls: the members as each piece is read, the calls refused, the masks, the cells in events 2'
pub record Answers : Type 0 where
  pub refused : Bool
  pub seen : List ℕ
  pub mask : ℕ
  pub events : List Event2

-- from the definitions run over the same calls
abbrev pub answers_of : Call → Net → Answers
answers_of c n =
    record { refused = is_refused c n; seen = (result c n).seen; mask = (outcome c n).mask; events = events_in (outcome c n).words }

-- 'signing off empties what item 3's book holds for the slot and for the cells freed' (U3): the entries of the slot's messages, and what is noted of them
abbrev pub strike_entry : ℕ → Option Message → Option Message
strike_entry slot None = None
strike_entry slot (Some m) = cond (eqb slot m.slot) None (Some m)

unfoldable pub book_ends : ℕ → Book → Book
book_ends slot b =
    record {
      ledger = record { covered = λ s k i. cond (eqb slot s) false (b.ledger.covered s k i); handed = λ s k. cond (eqb slot s) false (b.ledger.handed s k) };
      entry = λ c. strike_entry slot (b.entry c);
      stay = λ s. cond (eqb slot s) (suc (b.stay s)) (b.stay s);
    }

-- a call that is not refused, as it is in the book
abbrev pub book_done : Sent → InBook → Answers → Book → Entered Book
book_done M (brings words numbers lent) a b =
    let r = book_frames M (frames_by (parse words)) 0 numbers a.seen a.mask b.ledger in
    record { left = record { ledger = r.left; entry = enter_all a.events (named M.watched a.events r.out) b.entry; stay = b.stay }; out = r.out }
book_done M (reads cell lent) a b = unchanged b
book_done M (frees cell) a b = unchanged (record { ledger = b.ledger; entry = enter cell None b.entry; stay = b.stay })
book_done M (ends slot) a b = unchanged (book_ends slot b)
book_done M changes_nothing a b = unchanged b

-- 'The other calls, and refused ones, change nothing.'
abbrev pub book_call : Sent → Call → Net → Book → Entered Book
book_call M c n b = cond (answers_of c n).refused (unchanged b) (book_done M (in_book c) (answers_of c n) b)

-- ---- the premises on pieces, and on the store lent

-- n is the slot's lowest number not handed over in the book
abbrev pub Lowest : Ledger → ℕ → ℕ → Type 0
Lowest l s n = (l.handed s n ≡ false) × ((j : ℕ) → j < n → l.handed s j ≡ true)

-- a piece has eight bits of its number k on air, and is cut from the boat's message of that number, which is at most 128 below and 127 above the lowest number
-- not handed over as the piece is read
pub record PieceOk (M : Sent) (l : Ledger) (s k field : ℕ) (p : List ℕ) : Type 0 where
  pub eight : field / 65536 % 256 ≡ k % 256
  pub cut : Cut (framed (M.text s k)) (field % 65536) p
  pub near : (n : ℕ) → Lowest l s n → (n ≤ k + 128) × (k ≤ n + 127)

-- of a frame, if it is a watched boat's piece
abbrev pub FrameOk : Sent → Ledger → Heard → ℕ → ℕ → Type 0
FrameOk M l lost k seen = Unit {0}
FrameOk M l (heard flags field p) k seen = is_watched M.watched flags seen ≡ true → PieceOk M l (flags % 64) k field p

-- of frames in order, each with the ledger as it is read
abbrev pub FramesOk : Sent → List Heard → ℕ → List ℕ → List ℕ → ℕ → Ledger → Type 0
FramesOk M [] i numbers seen mask l = Unit {0}
FramesOk M (f ∷ fs) i numbers seen mask l =
    FrameOk M l f (get_or numbers i 0) (get_or seen i 0)
    × FramesOk M fs (i + 1) numbers seen mask (book_frame M f (get_or numbers i 0) (get_or seen i 0) (has_bit mask i) l).left

-- only a refused call may be lent another store: nobody else writes it
abbrev pub LentOk : Lent → Bool → Type 0
LentOk handed refused = Unit {0}
LentOk (another store) refused = refused ≡ true

-- of a call: the premises on pieces bind receptions not refused
abbrev pub CallOk : Sent → InBook → Answers → Book → Type 0
CallOk M (brings words numbers lent) a b =
    LentOk lent a.refused × (a.refused ≡ false → FramesOk M (frames_by (parse words)) 0 numbers a.seen a.mask b.ledger)
CallOk M (reads cell lent) a b = LentOk lent a.refused
CallOk M (frees cell) a b = Unit {0}
CallOk M (ends slot) a b = Unit {0}
CallOk M changes_nothing a b = Unit {0}

-- of all the calls, each with what is sent in the stays that run then: 'provided no piece of a former stay arrives' (U3)
unfoldable pub CallsOk : Stays → List Call → Net → Book → Type 0
CallsOk M [] n b = Unit {0}
CallsOk M (c ∷ cs) n b = CallOk (sent_now M b) (in_book c) (answers_of c n) b × CallsOk M cs (step c n) (book_call (sent_now M b) c n b).left

-- ---- what is promised of messages

-- events 2 and messages pair off one to one, in order: same slot, same number mod 256; each enters the cell that its event names, one of `count`,
-- empty in the book till then
abbrev pub Pairs : ℕ → List Event2 → List Message → (ℕ → Option Message) → Type 0
Pairs count [] [] f = Unit {0}
Pairs count [] (m ∷ ms) f = ⊥
Pairs count (e ∷ es) [] f = ⊥
Pairs count (e ∷ es) (m ∷ ms) f =
    (e.slot ≡ m.slot) × (e.number ≡ m.number % 256) × (e.cell < count) × (f e.cell ≡ None) × Pairs count es ms (enter e.cell (Some m) f)

-- 'of two alike the lower number with the earlier event': of one slot and equal mod 256, it comes first
abbrev pub Later : Message → List Message → Type 0
Later m [] = Unit {0}
Later m (x ∷ xs) = (m.slot ≡ x.slot → m.number % 256 ≡ x.number % 256 → m.number < x.number) × Later m xs

-- so it is of all that a reception hands over
abbrev pub Rising : List Message → Type 0
Rising [] = Unit {0}
Rising (m ∷ ms) = Later m ms × Rising ms

-- none of the messages was handed over before, f, nor is it twice among them. It follows from the book alone, of any station, since the book hands a message over
-- only where it has not (`book_once` in proofs/Refuted.antt); what the station promises is `Pairs`: an event for each of them, and no other
abbrev pub Once : List Message → (ℕ → ℕ → Bool) → Type 0
Once [] f = Unit {0}
Once (m ∷ ms) f = (f m.slot m.number ≡ false) × Once ms (also_handed m.slot m.number f)

-- a reception's events 2 and the messages that the book hands over in it: those of the watched boats pair off, of two alike the lower number first, and all events
-- name cells that were empty
pub record Paired (watched : ℕ → Bool) (count : ℕ) (es : List Event2) (ms : List Message) (b : Book) : Type 0 where
  pub pairs : Pairs count es (named watched es ms) b.entry
  pub rising : Rising ms
  pub once : Once ms b.ledger.handed

-- 'A reading of the store handed on .. gives exactly the n bytes of the message entered there, or 22 if none is.' Of a boat that is not watched it gives some bytes
abbrev pub ReadsAs : Sent → Option Message → Net → ℕ → Type 0
ReadsAs M None n cell = read_refusal (length n.store) n.station.count n.station.landed cell ≡ 22
ReadsAs M (Some m) n cell =
    (read_refusal (length n.store) n.station.count n.station.landed cell ≡ 0)
    × (M.watched m.slot ≡ true → reading_of n.station n.store cell ≡ M.text m.slot m.number)

-- at a call, of a station with `count` cells: what is promised of a reception, refused or not, and of a reading that no earlier check refuses, its cell below
-- the count; and no call but a reception returns an event 2
abbrev pub AtCall : Sent → ℕ → InBook → List Event2 → List Message → Net → Book → Type 0
AtCall M count (brings words numbers lent) es out n b = Paired M.watched count es out b
AtCall M count (reads cell lent) es out n b = (es ≡ []) × (cell < count → ReadsAs M (b.entry cell) n cell)
AtCall M count (frees cell) es out n b = es ≡ []
AtCall M count (ends slot) es out n b = es ≡ []
AtCall M count changes_nothing es out n b = es ≡ []

-- at every call, with the net and the book as they are then
unfoldable pub Holds : Stays → ℕ → List Call → Net → Book → Type 0
Holds M count [] n b = Unit {0}
Holds M count (c ∷ cs) n b =
    let N = sent_now M b in
    AtCall N count (in_book c) (answers_of c n).events (book_call N c n b).out n b × Holds M count cs (step c n) (book_call N c n b).left

-- a message with its stay
pub record Stayed : Type 0 where
  pub slot : ℕ
  pub stay : ℕ
  pub number : ℕ

-- messages with the stays that run
abbrev pub stayed : (ℕ → ℕ) → List Message → List Stayed
stayed stay [] = []
stayed stay (m ∷ ms) = record { slot = m.slot; stay = stay m.slot; number = m.number } ∷ stayed stay ms

-- the messages handed over in all the calls, in order
unfoldable pub handed_in : Stays → List Call → Net → Book → List Stayed
handed_in M [] n b = []
handed_in M (c ∷ cs) n b = stayed b.stay (book_call (sent_now M b) c n b).out ++ handed_in M cs (step c n) (book_call (sent_now M b) c n b).left

-- a message handed over too
unfoldable pub also_stayed : Stayed → (ℕ → ℕ → ℕ → Bool) → ℕ → ℕ → ℕ → Bool
also_stayed m f s t k = cond (same m.slot m.number s k && eqb m.stay t) true (f s t k)

-- none of them was handed over before in its stay, f, nor is it twice among them; as `Once`, it follows from the book
abbrev pub OnceInStay : List Stayed → (ℕ → ℕ → ℕ → Bool) → Type 0
OnceInStay [] f = Unit {0}
OnceInStay (m ∷ ms) f = (f m.slot m.stay m.number ≡ false) × OnceInStay ms (also_stayed m f)

-- at every call what is promised of it, with the cells that the start fixed, and in all of them no message of a stay handed over twice
pub record Messages (M : Stays) (n : Net) (cs : List Call) : Type 0 where
  pub calls : Holds M n.station.count cs n empty_book
  pub once : OnceInStay (handed_in M cs n empty_book) (λ s t k. false)

-- ---- the promise

-- of the calls cs from n on: relay links end, in the roster last returned; turns are fair and bounded; and whichever boats are watched, where their messages are at
-- most 65,535 bytes long, as two bytes of length can say, and their pieces meet the premises, each is handed over exactly as sent, once, when its kept pieces cover it.
-- No kept piece ends above 2,048: so one of more than 2,046 bytes, which claims too much (U4), is never covered whole: it is neither handed over nor landed
pub record Promise (n : Net) (cs : List Call) : Type 0 where
  pub links : LinksHold (after cs n).station
  pub turns : TurnsHold empty_view (trace cs n)
  pub messages : (M : Stays) → ((s t k : ℕ) → M.watched s t ≡ true → length (M.text s t k) ≤ 65535) → CallsOk M cs n empty_book → Messages M n cs

-- item 3: from a start that is not refused, of any calls
abbrev pub Item3 : Type 0
Item3 = (s : Station) (g : Given) (store : List ℕ) → start_refusal g (length store) ≡ 0 → (cs : List Call) → Promise (started s g store) cs
