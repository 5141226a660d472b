-- The words of a log: sendings as a station returns them, words 8 to 12, between marks. A mark is a word 6 with a count, then so many words 6 with a slot each.
use Rattle.std.specs.Prelude.{Bool, true, false, not, cond, ◌&&◌, ◌||◌, List, [], ◌∷◌, ◌++◌, ℕ, zero, suc, ◌+◌, ◌-◌, ◌/◌, ◌%◌, eqb, ltb, leb, Option, Some, None}
use Rattle.wire.specs.Kinds.{tiny, k_poll, k_pollack, k_ack, k_relay}
use Rattle.words.specs.Words.{words_for, item_at, head_ok, head_of}
use Rattle.words.specs.declared.Item.{Item}
use Rattle.words.specs.declared.Item.TheVariants.{End, Bad, Lost, Frame}
use Rattle.words.specs.declared.Head.{Head}
use Rattle.logs.specs.declared.Part.{Part}

-- ---- check 3: the words of sendings

-- kind 6
abbrev pub is_mark : ℕ → Bool
is_mark w = eqb (w / 268435456) 6

-- kind 9, level 4-0
abbrev pub wave_ok : ℕ → Bool
wave_ok w = eqb (w / 32) 75497472

-- a part of a log takes `size` words, and after it so many frames may follow; words that are no part of a log are none
abbrev pub part : ℕ → ℕ → Part
part size room = record { size = size; room = room }

-- after a head stands its wave, and then up to 64 frames
abbrev pub head_part : List ℕ → Option Part
head_part [] = None
head_part (w ∷ ws) = cond (wave_ok w) (Some (part 2 64)) None

-- a frame, where one may follow; a lost frame is none of a sending
abbrev pub frame_part : ℕ → Item → Option Part
frame_part room End = None
frame_part room Bad = None
frame_part room Lost = None
frame_part room (Frame flags field len) = cond (eqb room 0) None (Some (part (2 + words_for len) (room - 1)))

-- what stands at the head of the words: a word of a mark, which ends the burst before it, a head with its wave, or a frame
unfoldable pub part_of : ℕ → List ℕ → Option Part
part_of room [] = None
part_of room (w ∷ ws) = cond (is_mark w) (Some (part 1 0)) (cond (head_ok w) (head_part ws) (frame_part room (item_at (w ∷ ws))))

-- a test of a part; where there is none it fails
abbrev pub part_and : Option Part → (Part → Bool) → Bool
part_and None f = false
part_and (Some p) f = f p

-- part after part to the end, where the first `skip` words belong to a part already read
unfoldable pub parts_from : ℕ → ℕ → List ℕ → Bool
parts_from skip room [] = true
parts_from (suc skip) room (w ∷ ws) = parts_from skip room ws
parts_from zero room (w ∷ ws) = part_and (part_of room (w ∷ ws)) (λ p. parts_from (p.size - 1) p.room ws)

-- nothing but words 6 and sendings: a head, its wave, and 0 to 64 frames
abbrev pub sendings_ok : List ℕ → Bool
sendings_ok ws = parts_from 0 0 ws

-- ---- check 27: the words of marks

-- kind 6 with a number in 5-0
abbrev pub mark_ok : ℕ → Bool
mark_ok w = eqb (w / 64) 25165824

-- x is on the list
abbrev pub has : ℕ → List ℕ → Bool
has x [] = false
has x (y ∷ l) = cond (eqb x y) true (has x l)

-- a word 6 with a slot that is none of those before it
abbrev pub slot_ok : List ℕ → ℕ → Bool
slot_ok before w = mark_ok w && (ltb (w % 64) 62 && not (has (w % 64) before))

-- at the head of the words stand n such words
unfoldable pub list_ok : List ℕ → ℕ → List ℕ → Bool
list_ok before zero ws = true
list_ok before (suc n) [] = false
list_ok before (suc n) (w ∷ ws) = slot_ok before w && list_ok (w % 64 ∷ before) n ws

-- each count has its list behind it, where the first `skip` words belong to a list already read
unfoldable pub marks_from : ℕ → List ℕ → Bool
marks_from skip [] = true
marks_from (suc skip) (w ∷ ws) = marks_from skip ws
marks_from zero (w ∷ ws) =
    cond (is_mark w) (mark_ok w && (list_ok [] (w % 64) ws && marks_from (w % 64) ws)) (marks_from 0 ws)

-- no fault in the words of kind 6
abbrev pub marks_ok : List ℕ → Bool
marks_ok ws = marks_from 0 ws

-- ---- what the words say

-- a mark with the round's list; K_POLL or K_RELAY; K_POLLACK; K_ACK
pub data Entry : Type 0 where
  mark : (list : List ℕ) → Entry
  poll : (slot : ℕ) → Entry
  pollack : (slot : ℕ) → Entry
  ack : (slot : ℕ) → Entry

-- of a sending, by its head: slot in bits 5-0 of extra; other sendings are passed over
abbrev pub sending_by : Head → List Entry
sending_by h =
    cond (eqb h.code tiny)
    (cond (eqb h.hi k_poll || eqb h.hi k_relay) (poll (h.extra % 64) ∷ [])
    (cond (eqb h.hi k_pollack) (pollack (h.extra % 64) ∷ [])
    (cond (eqb h.hi k_ack) (ack (h.extra % 64) ∷ []) [])))
    []

-- the slots of n words
unfoldable pub slots_in : ℕ → List ℕ → List ℕ
slots_in zero ws = []
slots_in (suc n) [] = []
slots_in (suc n) (w ∷ ws) = w % 64 ∷ slots_in n ws

-- in order; the first `skip` words belong to a list already read. Each sending has one word of kind 8.
unfoldable pub entries_from : ℕ → List ℕ → List Entry
entries_from skip [] = []
entries_from (suc skip) (w ∷ ws) = entries_from skip ws
entries_from zero (w ∷ ws) =
    cond (is_mark w) (mark (slots_in (w % 64) ws) ∷ entries_from (w % 64) ws)
    (cond (eqb (w / 268435456) 8) (sending_by (head_of w) ++ entries_from 0 ws) (entries_from 0 ws))

-- the marks and the sendings of turns in a log
abbrev pub entries_of : List ℕ → List Entry
entries_of ws = entries_from 0 ws

-- ---- a log from words that a station returns

-- a word of a sending: kinds 8 to 12
abbrev pub is_sent : ℕ → Bool
is_sent w = leb 8 (w / 268435456) && leb (w / 268435456) 12

-- the words of sendings among those returned; events are left out
unfoldable pub sent_in : List ℕ → List ℕ
sent_in [] = []
sent_in (w ∷ ws) = cond (is_sent w) (w ∷ sent_in ws) (sent_in ws)
