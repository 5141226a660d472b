-- Word back to a boat (U1 of document 02), what a dispatcher may lean on: `Directed`, the last definition, is a statement over every list of calls from a start
-- that is not refused, nobody else writing the directed queue. Each frame of word back among the words that any call returns carries exactly the bytes posted to
-- its boat at the offset that it names, none of them reported before; and what was posted to a boat and not reported is still kept. What was posted and what was
-- reported are made from the calls and the definitions' own answers, never from the station's record.
use Rattle.std.specs.Prelude.{ℕ, ◌+◌, ◌/◌, ◌%◌, ◌≤◌, ◌<◌, ◌≡◌, Bool, true, false, cond, ◌&&◌, List, [], ◌∷◌, ◌++◌, eqb, leb, length, take, drop, get_or}
use Rattle.wire.specs.Kinds.{t_down, t_ctrl, c_report}
use Rattle.words.specs.Words.{Heard, lost, heard, parse, item_at, payload}
use Rattle.words.specs.declared.Item.TheVariants.{Frame}
use Rattle.words.specs.Fine.{Bytes}
use Rattle.inbox.specs.Messages.{framed}
use Rattle.queue.specs.Queues.{most_of, place_of}
use Rattle.net.specs.declared.Station.{Station}
use Rattle.net.specs.Net.{is_member}
use Rattle.frames.specs.Control.{u24}
use Rattle.config.specs.declared.Given.{Given}
use Rattle.station.specs.Entries.{start_refusal}
use Rattle.promise.specs.Promise.{Net, Call, admission, reception, decision, posting, sending, closing, reading, freeing, charging, signing, asking, result, outcome, is_refused, frames_by, step, started}

-- what is handed on: the net; the directed queue that the last posting not refused left; and of each slot, in the stay that runs, all bytes posted to its boat,
-- of each message the two of its length and then its own, and the most bytes of them that the boat reported
pub record Desk : Type 0 where
  pub net : Net
  pub queue : List ℕ
  pub posted : ℕ → List ℕ
  pub told : ℕ → ℕ

-- at a start nothing was posted and nothing reported; the queue may have any bytes
abbrev pub opened : Net → List ℕ → Desk
opened n queue = record { net = n; queue = queue; posted = λ i. []; told = λ i. 0 }

-- ---- what was reported: the reports in the receptions

-- a control frame of 12 bytes or more, the first of them C_REPORT
abbrev pub is_report : ℕ → List ℕ → Bool
is_report flags p = eqb (flags / 64) t_ctrl && eqb (get_or p 0 0) c_report && leb 12 (length p)

-- it reports for the boat in the slot that its byte 1 names, if there is one as the frame is read; bytes 9 to 11, lowest first, are how many bytes that boat holds
unfoldable pub also_told : Heard → ℕ → (ℕ → ℕ) → ℕ → ℕ
also_told lost seen told i = told i
also_told (heard flags field p) seen told i =
    cond (is_report flags p && is_member seen i && eqb (get_or p 1 0) i) (most_of (told i) (u24 p 9)) (told i)

-- the frames of a reception from frame k on, with the members as each is read
unfoldable pub told_by : List Heard → ℕ → List ℕ → (ℕ → ℕ) → ℕ → ℕ
told_by [] k seen told i = told i
told_by (f ∷ fs) k seen told i = told_by fs (k + 1) seen (also_told f (get_or seen k 0) told) i

-- ---- what was posted

-- a posting adds its bytes to those of its slot; a sign-off empties the slot's
abbrev pub also_posted : ℕ → List ℕ → (ℕ → List ℕ) → ℕ → List ℕ
also_posted slot bs posted i = cond (eqb slot i) (posted i ++ bs) (posted i)

abbrev pub emptied_at : {A : Type 0} → A → ℕ → (ℕ → A) → ℕ → A
emptied_at none slot f i = cond (eqb slot i) none (f i)

-- ---- the calls

-- a call that is not refused
abbrev pub desk_by : Call → Desk → Desk
desk_by (admission packed relay now room) d = record { net = step (admission packed relay now room) d.net; queue = d.queue; posted = d.posted; told = d.told }
desk_by (reception words snr now lent room numbers) d =
    let c = reception words snr now lent room numbers in
    record { net = step c d.net; queue = d.queue; posted = d.posted; told = told_by (frames_by (parse words)) 0 (result c d.net).seen d.told }
desk_by (decision now queue room) d = record { net = step (decision now queue room) d.net; queue = d.queue; posted = d.posted; told = d.told }
desk_by (posting slot message queue) d =
    record { net = step (posting slot message queue) d.net; queue = (outcome (posting slot message queue) d.net).store; posted = also_posted slot (framed message) d.posted; told = d.told }
desk_by (sending now) d = record { net = step (sending now) d.net; queue = d.queue; posted = d.posted; told = d.told }
desk_by (closing count) d = record { net = step (closing count) d.net; queue = d.queue; posted = d.posted; told = d.told }
desk_by (reading cell lent) d = record { net = step (reading cell lent) d.net; queue = d.queue; posted = d.posted; told = d.told }
desk_by (freeing cell) d = record { net = step (freeing cell) d.net; queue = d.queue; posted = d.posted; told = d.told }
desk_by (charging figures) d = record { net = step (charging figures) d.net; queue = d.queue; posted = d.posted; told = d.told }
desk_by (signing slot) d = record { net = step (signing slot) d.net; queue = d.queue; posted = emptied_at [] slot d.posted; told = emptied_at 0 slot d.told }
desk_by (asking slot) d = record { net = step (asking slot) d.net; queue = d.queue; posted = d.posted; told = d.told }

-- a refused one changes nothing
unfoldable pub desk_after : Call → Desk → Desk
desk_after c d = cond (is_refused c d.net) (record { net = step c d.net; queue = d.queue; posted = d.posted; told = d.told }) (desk_by c d)

-- What a call is lent. 'Nobody else writes the queue': one that is not refused is lent the queue handed on. And a message is lent memory, so its numbers are bytes
-- (document 01), as the type of the entry point has it
abbrev pub QueueLent : Call → Desk → Type 0
QueueLent (admission packed relay now room) d = Unit {0}
QueueLent (reception words snr now lent room numbers) d = Unit {0}
QueueLent (decision now queue room) d = is_refused (decision now queue room) d.net ≡ false → queue ≡ d.queue
QueueLent (posting slot message queue) d = (is_refused (posting slot message queue) d.net ≡ false → queue ≡ d.queue) × Bytes message
QueueLent (sending now) d = Unit {0}
QueueLent (closing count) d = Unit {0}
QueueLent (reading cell lent) d = Unit {0}
QueueLent (freeing cell) d = Unit {0}
QueueLent (charging figures) d = Unit {0}
QueueLent (signing slot) d = Unit {0}
QueueLent (asking slot) d = Unit {0}

-- over all the calls
unfoldable pub QueuesLent : List Call → Desk → Type 0
QueuesLent [] d = Unit {0}
QueuesLent (c ∷ cs) d = QueueLent c d × QueuesLent cs (desk_after c d)

-- ---- what is promised

-- the word begins a frame of the type T_DOWN: its kind, the top four bits, is 10, and bits 15-14 are the type. By its kind no other word is taken for one
abbrev pub begins_down : ℕ → Bool
begins_down w = eqb (w / 268435456) 10 && eqb (w / 16384 % 4) t_down

-- the words from it on read as a frame, for the boat in the slot that its flags name: `len` bytes of those posted to that boat, from byte `field` on, exactly these,
-- and none of them reported before
pub record Carries (posted : ℕ → List ℕ) (told : ℕ → ℕ) (ws : List ℕ) : Type 0 where
  pub flags : ℕ
  pub field : ℕ
  pub len : ℕ
  pub frame : item_at ws ≡ Frame flags field len
  pub slot : flags % 64 < 62
  pub within : field + len ≤ length (posted (flags % 64))
  pub exact : payload (drop 2 ws) len ≡ take len (drop field (posted (flags % 64)))
  pub new : told (flags % 64) ≤ field

-- wherever among the words returned such a word stands
unfoldable pub DownFrames : (ℕ → List ℕ) → (ℕ → ℕ) → List ℕ → Type 0
DownFrames posted told [] = Unit {0}
DownFrames posted told (w ∷ ws) = (begins_down w ≡ true → Carries posted told (w ∷ ws)) × DownFrames posted told ws

-- what was posted to a boat and not reported stands in the queue, each byte in its place
abbrev pub StillKept : Desk → Type 0
StillKept d = (slot o : ℕ) → d.told slot ≤ o → o < length (d.posted slot) → get_or d.queue (place_of slot o) 0 ≡ get_or (d.posted slot) o 0

-- at every call, with the desk as it is then, and at the end
unfoldable pub WordHolds : List Call → Desk → Type 0
WordHolds [] d = StillKept d
WordHolds (c ∷ cs) d = StillKept d × DownFrames d.posted d.told (outcome c d.net).words × WordHolds cs (desk_after c d)

-- from a start that is not refused, any station before it and any bytes in the queue, of any calls
abbrev pub Directed : Type 0
Directed =
    (s : Station) (g : Given) (store queue : List ℕ) → start_refusal g (length store) ≡ 0 → (cs : List Call)
    → QueuesLent cs (opened (started s g store) queue) → WordHolds cs (opened (started s g store) queue)
