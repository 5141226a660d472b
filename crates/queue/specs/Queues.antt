-- Request U1 of document 02, the directed queue: the numbers of one boat (`dir`, `dir_delivered`, `dir_sent_round` of ncs.rs; `send_to` of net.rs), and where the
-- bytes of its stream stand in the lent queue, 2,048 for each of the 62 slots.
use Rattle.std.specs.Prelude.{ℕ, zero, suc, ◌+◌, ◌*◌, ◌%◌, Bool, true, false, not, cond, ◌&&◌, List, [], ◌∷◌, eqb, ltb, get_or, set}
use Rattle.queue.specs.declared.Queue.{Queue}

abbrev pub least_of : ℕ → ℕ → ℕ
least_of a b = cond (ltb a b) a b

abbrev pub most_of : ℕ → ℕ → ℕ
most_of a b = cond (ltb a b) b a

-- nothing was posted
abbrev pub empty_queue : Queue
empty_queue = record { posted = 0; kept = 0; reported = 0; round = 0; sent = false }

-- ---- sending: in `direct_burst` of ncs.rs

-- from `dir_delivered` on; where bytes from there on were given back, from the first byte kept on
abbrev pub first_of : Queue → ℕ
first_of q = most_of q.reported q.kept

-- something is to be sent, and `dir_sent_round` is not this round
unfoldable pub is_due : Queue → ℕ → Bool
is_due q round = not (q.sent && eqb q.round round) && ltb (first_of q) q.posted

abbrev pub sent_in : Queue → ℕ → Queue
sent_in q round = record { posted = q.posted; kept = q.kept; reported = q.reported; round = round; sent = true }

-- ---- the report: 'Reported bytes give their space back for good; a report above the total posted by then counts as that total for space only'

abbrev pub reported_to : Queue → ℕ → Queue
reported_to q n =
    record { posted = q.posted; kept = most_of q.kept (least_of n q.posted); reported = most_of q.reported n; round = q.round; sent = q.sent }

-- ---- posting: `send_to` of net.rs, with 24 when kept plus new bytes pass 2,048, then 25 when the total posted would pass 16,777,215

-- n is the message's length, to which the two bytes of the length are added. A message above 2,046 bytes passes 2,048 whatever is kept
unfoldable pub space_refusal : Queue → ℕ → ℕ
space_refusal q n =
    cond (ltb 2046 n) 24 (cond (ltb (q.kept + 2048) (q.posted + n + 2)) 24 (cond (ltb 16777215 (q.posted + n + 2)) 25 0))

abbrev pub posted_to : Queue → ℕ → Queue
posted_to q n = record { posted = q.posted + n; kept = q.kept; reported = q.reported; round = q.round; sent = q.sent }

-- ---- bytes

-- byte o of a slot's stream stands at o mod 2,048 of the slot's 2,048
abbrev pub place_of : ℕ → ℕ → ℕ
place_of slot o = 2048 * slot + o % 2048

-- what is sent is a byte, whatever number is lent
abbrev pub byte_at : List ℕ → ℕ → ℕ → ℕ
byte_at queue slot o = get_or queue (place_of slot o) 0 % 256

-- n bytes of it from o on
unfoldable pub bytes_from : List ℕ → ℕ → ℕ → ℕ → List ℕ
bytes_from queue slot o zero = []
bytes_from queue slot o (suc n) = byte_at queue slot o ∷ bytes_from queue slot (o + 1) n

-- bytes written from o on
unfoldable pub put_bytes : List ℕ → ℕ → ℕ → List ℕ → List ℕ
put_bytes queue slot o [] = queue
put_bytes queue slot o (b ∷ bs) = put_bytes (set queue (place_of slot o) b) slot (o + 1) bs
