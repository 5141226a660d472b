-- `direct_burst` and `down_burst` of ncs.rs (request U1): word back to a boat, from the directed queue that is lent.
use Rattle.std.specs.Prelude.{ℕ, zero, suc, ◌+◌, ◌-◌, ◌*◌, ◌%◌, Bool, true, not, cond, ◌&&◌, List, [], ◌++◌, eqb, ltb, get_or, Option, Some, None}
use Rattle.bits.specs.Loop.{first}
use Rattle.wire.specs.Kinds.{t_down}
use Rattle.words.specs.Words.{least}
use Rattle.out.specs.Encode.{frame_words}
use Rattle.queue.specs.declared.Queue.{Queue}
use Rattle.queue.specs.Queues.{first_of, is_due, sent_in, bytes_from}
use Rattle.net.specs.declared.Station.{Station}
use Rattle.net.specs.declared.Settings.{Settings}
use Rattle.net.specs.State.{queue_at, with_queue, with_round, with_traffic}
use Rattle.net.specs.Net.{is_member, Said, said}
use Rattle.bursts.specs.Rows.{member_in, reach_level}
use Rattle.bursts.specs.Bursts.{head_words, sends}

-- ---- to whom: before the poll of a slot the slot itself, then the boats relayed by it in slot order; the first with something to send, not sent to in this round

abbrev pub has_word : Station → ℕ → Bool
has_word s slot = is_member s.used slot && is_due (queue_at s slot) s.round.number

-- the boat in slot i has `slot` for its relay; 63 is none
abbrev pub leaf_of : Station → ℕ → ℕ → Bool
leaf_of s slot i = eqb (member_in s i).via slot && not (eqb slot 63)

-- of the boats relayed by the slot
abbrev pub leaf_word : Station → ℕ → ℕ → Bool
leaf_word s slot i = has_word s i && leaf_of s slot i

unfoldable pub directed_to : Station → ℕ → Option ℕ
directed_to s slot = cond (has_word s slot) (Some slot) (first (leaf_word s slot) 62 0)

-- ---- down_burst

-- how many frames a burst of this level may have, 64 at most, and the largest payload of one
abbrev pub room_at : Settings → ℕ → ℕ
room_at g level = least (get_or g.rooms level 0) 64

abbrev pub payload_at : Settings → ℕ → ℕ
payload_at g level = least (get_or g.payloads level 0) 255

-- T_DOWN and the slot, the offset of the first byte (24 bits), the bytes
abbrev pub down_frame : List ℕ → ℕ → ℕ → ℕ → List ℕ
down_frame queue slot o n = frame_words (64 * t_down + slot % 64) (o % 16777216) (bytes_from queue slot o n)

-- the bytes from o on up to `last`, in k frames at most of `max` bytes each
unfoldable pub down_frames : ℕ → List ℕ → ℕ → ℕ → ℕ → ℕ → List ℕ
down_frames zero queue slot max last o = []
down_frames (suc k) queue slot max last o =
    cond (ltb o last) (down_frame queue slot o (least max (last - o)) ++ down_frames k queue slot max last (o + max)) []

-- the level is the burst's code
unfoldable pub down_burst : Settings → List ℕ → ℕ → Queue → ℕ → List ℕ
down_burst g queue slot q level =
    head_words level 0 0 level ++ down_frames (room_at g level) queue slot (payload_at g level) q.posted (first_of q)

-- ---- direct_burst: the boat is sent to in this round; `round_had_traffic`; the turn waits for the end of the sending

abbrev pub directed : Station → ℕ → Station
directed s slot =
    with_queue (with_round (sends s) (with_traffic s.round true)) slot (sent_in (queue_at s slot) s.round.number)

unfoldable pub direct_burst : Station → List ℕ → ℕ → Said
direct_burst s queue slot = said (directed s slot) (down_burst s.settings queue slot (queue_at s slot) (reach_level s slot))

-- ---- as the code has it: 255 for none

abbrev pub slot_or255 : Option ℕ → ℕ
slot_or255 (Some i) = i % 256
slot_or255 None = 255
