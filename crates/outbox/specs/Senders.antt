-- The `Outbox` that a sender's numbers and its two memories hold: message i has the 2,048 bytes from 2,048 i on of each, its bytes in the one and their
-- marks in the other. Every value of all three holds one.
use Rattle.std.specs.Prelude.{cond, List, [], ◌∷◌, ◌++◌, ◌≡◌, ℕ, zero, suc, ◌+◌, ◌-◌, ◌*◌, ◌≤◌, ◌<◌, length, get_or, set, take, drop, leb, ltb, eqb, Result, Ok, Err}
use Rattle.bits.specs.Stop.{stop}
use Rattle.refusal.specs.declared.Refusal.{Refusal}
use Rattle.refusal.specs.declared.Refusal.TheVariants.{SmallMemory}
use Rattle.std.proofs.Math.Seq.{paste}
use Rattle.words.specs.Words.{least}
use Rattle.outbox.specs.declared.sender.Message.{Message}
use Rattle.outbox.specs.declared.sender.Sender.{Sender}
use Rattle.outbox.specs.Outbox.{Piece, OutMsg, Outbox, pending}
use Rattle.outbox.specs.Marks.{pieces}

-- how many bytes a message has at most, how many messages there are at most, and what each memory needs
abbrev pub message_room : ℕ
message_room = 2048

abbrev pub most : ℕ
most = 8

abbrev pub memory : ℕ
memory = 16384

abbrev pub count_of : Sender → ℕ
count_of s = least s.count most

-- message i's numbers
abbrev pub no_message : Message
no_message = record { seq = 0; total = 0; cut = 0 }

abbrev pub message_at : Sender → ℕ → Message
message_at s i = get_or s.messages i no_message

abbrev pub total_in : Message → ℕ
total_in m = least m.total message_room

abbrev pub cut_in : Message → ℕ
cut_in m = least m.cut (total_in m)

abbrev pub total_of : Sender → ℕ → ℕ
total_of s i = total_in (message_at s i)

abbrev pub cut_of : Sender → ℕ → ℕ
cut_of s i = cut_in (message_at s i)

-- the first n bytes that message i has of a memory
abbrev pub part : List ℕ → ℕ → ℕ → List ℕ
part mem i n = take n (drop (message_room * i) mem)

-- a memory with x at the front of what message i has
abbrev pub put : List ℕ → ℕ → List ℕ → List ℕ
put mem i x = paste mem (message_room * i) x (length x)

unfoldable pub msg_at : Sender → List ℕ → List ℕ → ℕ → OutMsg
msg_at s bytes marks i =
    record {
      seq = (message_at s i).seq;
      bytes = part bytes i (total_of s i);
      cut = cut_of s i;
      inflight = pieces 0 (part marks i (cut_of s i));
    }

-- n messages, from message i on
unfoldable pub msgs : Sender → List ℕ → List ℕ → ℕ → ℕ → List OutMsg
msgs s bytes marks zero i = []
msgs s bytes marks (suc n) i = msg_at s bytes marks i ∷ msgs s bytes marks n (i + 1)

abbrev pub outbox : Sender → List ℕ → List ℕ → Outbox
outbox s bytes marks = record { msgs = msgs s bytes marks (count_of s) 0; next_seq = s.next }

-- a fresh start
abbrev pub none : Outbox
none = record { msgs = []; next_seq = 0 }

-- ### refusals, in document 01's order
-- posting n bytes where so many messages are held, lent so much memory
abbrev pub post_refusal : ℕ → ℕ → ℕ → ℕ
post_refusal messages room n = cond (ltb room memory) 7 (cond (ltb 2046 n) 29 (cond (leb most messages) 28 0))

-- lent one memory, or two
abbrev pub memory_refusal : ℕ → ℕ
memory_refusal a = cond (ltb a memory) 7 0

abbrev pub both_refusal : ℕ → ℕ → ℕ
both_refusal a b = cond (ltb a memory) 7 (memory_refusal b)

-- a burst: the output, the two memories, the size of a piece and how many
abbrev pub take_refusal : ℕ → ℕ → ℕ → ℕ → ℕ → ℕ
take_refusal out a b max room =
    cond (ltb out 8192) 4
    (cond (ltb a memory) 7 (cond (ltb b memory) 7 (cond (ltb 64 room) 5 (cond (eqb max 0) 5 (cond (ltb 255 max) 5 0)))))

-- what is left: what was, where the call is refused
abbrev pub unless : ℕ → Outbox → Outbox → Outbox
unless x old new = cond (eqb x 0) new old

-- how many bytes are to be sent or in flight
abbrev pub pending_of : Sender → List ℕ → List ℕ → Result ℕ Refusal
pending_of s bytes marks = cond (ltb (length marks) memory) (Err SmallMemory) (Ok (pending (outbox s bytes marks)))

-- how many words a burst's answer says, none where it is refused
abbrev pub words_in : Result ℕ Refusal → ℕ
words_in (Ok n) = n
words_in (Err r) = 0

-- the numbers after posting n bytes
abbrev pub posted_of : Sender → ℕ → Sender
posted_of s n =
    record {
      next = stop (s.next + 1);
      count = s.count + 1;
      messages = set s.messages s.count (record { seq = s.next; total = n + 2; cut = 0 });
    }

-- what the type of a sender says of its messages
pub record Eights (s : Sender) : Type 0 where
  pub eight : length s.messages ≡ 8

-- message i has left, and those behind it moved down
pub record Dropped (s : Sender) (bytes marks : List ℕ) (i : ℕ) (r : Sender) (bytes' marks' : List ℕ) : Type 0 where
  pub front : (k : ℕ) → k < i → msg_at r bytes' marks' k ≡ msg_at s bytes marks k
  pub behind : (k : ℕ) → i ≤ k → k + 1 < count_of s → msg_at r bytes' marks' k ≡ msg_at s bytes marks (k + 1)
  pub next : r.next ≡ s.next
  pub count : r.count ≡ count_of s - 1

abbrev pub with_cut : Sender → ℕ → ℕ → Sender
with_cut s i n =
    record {
      next = s.next;
      count = s.count;
      messages = set s.messages i (record { seq = (message_at s i).seq; total = (message_at s i).total; cut = n });
    }

-- the pieces ps begun in message i, whose marks then reach to `now`; the other messages' marks are as they were
pub record Begun (marks : List ℕ) (i cut : ℕ) (ps : List Piece) (marks' : List ℕ) (now : ℕ) : Type 0 where
  pub here : pieces 0 (part marks' i now) ≡ pieces 0 (part marks i cut) ++ ps
  pub others : (j n : ℕ) → j < 8 → (j ≡ i → ⊥) → n ≤ 2048 → part marks' j n ≡ part marks j n
