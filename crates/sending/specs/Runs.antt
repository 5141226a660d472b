-- What the sending end promises by itself: a message that leaves by acknowledgement of kept pieces has every byte in a kept piece that was cut from it.
-- Definitions only, over the `Outbox` of lists; the far end is said by K, which holds of piece j of burst b where it was kept.
use Rattle.std.specs.Prelude.{List, [], ◌∷◌, ◌++◌, ◌⊎◌, ◌≡◌, ℕ, ◌+◌, ◌≤◌, ◌<◌, length, get_or, take, drop}
use Rattle.outbox.specs.Outbox.{OutMsg, Outbox, Sent, push_msg, with_msgs, take_out, stale, ack, held}

-- a call of the sender; an acknowledgement is of piece j of burst b, bursts counted from 0
pub data Event : Type 0 where
  Post : List ℕ → Event
  Take : ℕ → ℕ → Event
  Ack : ℕ → ℕ → Event
  Stale : Event
  Held : ℕ → List ℕ → Event

-- the sender, and its bursts so far
pub record Run : Type 0 where
  pub box : Outbox
  pub bursts : List (List Sent)

abbrev pub none : Sent
none = record { seq = 0; off = 0; bytes = [] }

-- burst b, and its piece j
abbrev pub burst : List (List Sent) → ℕ → List Sent
burst bs b = get_or bs b []

abbrev pub piece : List (List Sent) → ℕ → ℕ → Sent
piece bs b j = get_or (burst bs b) j none

-- there is such a piece
abbrev pub Is : List (List Sent) → ℕ → ℕ → Type 0
Is bs b j = (b < length bs) × (j < length (burst bs b))

abbrev pub start : Run
start = record { box = record { msgs = []; next_seq = 0 }; bursts = [] }

abbrev pub with_box : Run → Outbox → Run
with_box r o = record { box = o; bursts = r.bursts }

unfoldable pub step : Run → Event → Run
step r (Post d) = with_box r (push_msg r.box d)
step r (Take max room) =
    record {
      box = with_msgs r.box (take_out max room r.box).msgs;
      bursts = r.bursts ++ ((take_out max room r.box).out ∷ []);
    }
step r (Ack b j) = with_box r (ack r.box (piece r.bursts b j).seq (piece r.bursts b j).off)
step r Stale = with_box r (stale r.box)
step r (Held next also) = with_box r (held r.box next also)

-- what the run may ask: numbers left for a message, a piece of a byte at least, and acknowledgements of pieces that were sent and kept
unfoldable pub Fair : (ℕ → ℕ → Type 0) → Run → Event → Type 0
Fair K r (Post d) = r.box.next_seq < 4294967295
Fair K r (Take max room) = 0 < max
Fair K r (Ack b j) = Is r.bursts b j × K b j
Fair K r Stale = Unit {0}
Fair K r (Held next also) = Unit {0}

-- byte i of message q, whose bytes are M, is in a kept piece that was cut from it
pub record Covered (K : ℕ → ℕ → Type 0) (bs : List (List Sent)) (q : ℕ) (M : List ℕ) (i : ℕ) : Type 0 where
  pub b : ℕ
  pub j : ℕ
  pub sent : Is bs b j
  pub kept : K b j
  pub of : (piece bs b j).seq ≡ q
  pub from : (piece bs b j).off ≤ i
  pub to : i < (piece bs b j).off + length (piece bs b j).bytes
  pub cut : (piece bs b j).bytes ≡ take (length (piece bs b j).bytes) (drop (piece bs b j).off M)

abbrev pub All : (OutMsg → Type 0) → List OutMsg → Type 0
All P [] = Unit {0}
All P (m ∷ ms) = P m × All P ms

-- a message with this number is still there
abbrev pub Stays : ℕ → List OutMsg → Type 0
Stays q [] = ⊥
Stays q (m ∷ ms) = (m.seq ≡ q) ⊎ Stays q ms

-- each message that an acknowledgement lets go is covered
unfoldable pub Leaves : (ℕ → ℕ → Type 0) → Run → Event → Type 0
Leaves K r (Post d) = Unit {0}
Leaves K r (Take max room) = Unit {0}
Leaves K r (Ack b j) =
    All
    (λ m. Stays m.seq (step r (Ack b j)).box.msgs ⊎ ((i : ℕ) → i < length m.bytes → Covered K r.bursts m.seq m.bytes i))
    r.box.msgs
Leaves K r Stale = Unit {0}
Leaves K r (Held next also) = Unit {0}

unfoldable pub AllFair : (ℕ → ℕ → Type 0) → Run → List Event → Type 0
AllFair K r [] = Unit {0}
AllFair K r (e ∷ es) = Fair K r e × AllFair K (step r e) es

unfoldable pub AllLeave : (ℕ → ℕ → Type 0) → Run → List Event → Type 0
AllLeave K r [] = Unit {0}
AllLeave K r (e ∷ es) = Leaves K r e × AllLeave K (step r e) es

-- the promise, of every list of calls from a fresh start
abbrev pub Promise : Type 1
Promise = (K : ℕ → ℕ → Type 0) (es : List Event) → AllFair K start es → AllLeave K start es
