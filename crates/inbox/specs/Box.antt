-- `Inbox::accept` of stream.rs over lists alone, for readers who compare the two: `joined` is the Rust's `hist`, its length `delivered`, and the
-- places are `pending`, 16 of them. `proofs/Boxes.antt` shows that a cell's numbers and bytes do what this says (`box_accept`).
use Rattle.std.specs.Prelude.{Bool, cond, ◌&&◌, List, [], ◌∷◌, ◌++◌, ℕ, zero, suc, ◌+◌, ◌-◌, length, get_or, set, take, drop, leb, ltb, eqb}
use Rattle.inbox.specs.Sizes.{message_room}
use Rattle.inbox.specs.Cells.{Held, seek, offset, size, place}
use Rattle.inbox.specs.Messages.{Piece}

pub record Box : Type 0 where
  pub joined : List ℕ
  pub places : List Piece

-- what a place past the last would hold
abbrev pub none : Piece
none = record { off = 0; bytes = [] }

-- the piece at place k, where it starts, and how long it is; the joined end
abbrev pub piece : Box → ℕ → Piece
piece b k = get_or b.places k none

abbrev pub off : Box → ℕ → ℕ
off b k = (piece b k).off

abbrev pub len : Box → ℕ → ℕ
len b k = length (piece b k).bytes

abbrev pub end : Box → ℕ
end b = length b.joined

-- the place whose piece starts at o, the first whose piece is joined, and the one that goes next; 16 if there is none
abbrev pub at_off : Box → ℕ → ℕ
at_off b o = seek (λ k. eqb (off b k) o) 16 0

abbrev pub done : Box → ℕ
done b = seek (λ k. leb (off b k + len b k) (end b)) 16 0

abbrev pub nearer : Box → ℕ → ℕ → Bool
nearer b k o = leb (off b k) (end b) && ltb (end b) (off b k + len b k) && leb o (off b k)

unfoldable pub following : ℕ → Box → ℕ → ℕ → ℕ → ℕ
following zero b k x o = x
following (suc n) b k x o = following n b (k + 1) (cond (nearer b k o) k x) (cond (nearer b k o) (off b k) o)

-- s joined; a piece put at place k to wait
abbrev pub more : Box → List ℕ → Box
more b s = record { joined = b.joined ++ s; places = b.places }

abbrev pub put : Box → ℕ → ℕ → List ℕ → Box
put b k o p = record { joined = b.joined; places = set b.places k (record { off = o; bytes = p }) }

-- the waiting pieces that have come into reach joined, at most n of them
unfoldable pub drain : ℕ → Box → Box
drain zero b = b
drain (suc n) b =
    cond (ltb (following 16 b 0 16 0) 16)
    (drain n (more b (drop (end b - off b (following 16 b 0 16 0)) (piece b (following 16 b 0 16 0)).bytes))) b

-- a piece that starts past the joined end: at one offset the longer stays; else it takes the first free place, if there is one
unfoldable pub keep : Box → ℕ → List ℕ → Box
keep b o p =
    cond (ltb (at_off b o) 16) (cond (ltb (len b (at_off b o)) (length p)) (put b (at_off b o) o p) b)
    (cond (ltb (done b) 16) (put b (done b) o p) b)

-- one piece taken
unfoldable pub take_in : Box → ℕ → List ℕ → Box
take_in b o p =
    cond (leb (o + length p) (end b)) b
    (cond (eqb (length p) 0) b (cond (leb o (end b)) (drain message_room (more b (drop (end b - o) p))) (keep b o p)))

-- ---- the box that a cell holds
abbrev pub piece_of : Held → ℕ → Piece
piece_of h k = record { off = offset h.cell k; bytes = take (size h.cell k) (drop (place k) h.bytes) }

unfoldable pub pieces_of : Held → ℕ → ℕ → List Piece
pieces_of h zero k = []
pieces_of h (suc n) k = piece_of h k ∷ pieces_of h n (k + 1)

abbrev pub box_of : Held → Box
box_of h = record { joined = take h.cell.joined h.bytes; places = pieces_of h 16 0 }
