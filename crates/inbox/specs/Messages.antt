-- What a cell is to do over a list of pieces of one message: the book of document 01, "Item 3 in full", for one number; `whole` of stream.rs is `landed`.
use Rattle.std.specs.Prelude.{◌≡◌, Bool, true, ◌&&◌, List, [], ◌∷◌, ◌⊎◌, ℕ, ◌+◌, ◌*◌, ◌/◌, ◌%◌, ◌≤◌, ◌<◌, length, get_or, take, drop, replicate, leb, ltb}
use Rattle.inbox.specs.declared.cell.Cell.{Cell}
use Rattle.inbox.specs.declared.keep.Kept.TheVariants.{Needless, Yes}
use Rattle.inbox.specs.Sizes.{message_room, body_room}
use Rattle.inbox.specs.Cells.{Held, held, size, end_at, accept}
use Rattle.inbox.specs.Keeping.{kept_of}

-- a piece as it comes: where it starts in its message, and its bytes
pub record Piece : Type 0 where
  pub off : ℕ
  pub bytes : List ℕ

-- a cell that has just been taken, in any bytes
abbrev pub empty_cell : Cell
empty_cell = record { joined = 0; offsets = replicate 16 0; lengths = replicate 16 0 }

abbrev pub empty : List ℕ → Held
empty bs = held empty_cell bs

-- what holds of the empty cell, and of each cell that pieces lead to from it: all of a message stands in 2,048 bytes. No function asks it
pub record Fits (c : Cell) : Type 0 where
  pub offs : length c.offsets ≡ 16
  pub lens : length c.lengths ≡ 16
  pub joined : c.joined ≤ message_room
  pub ends : (k : ℕ) → k < 16 → end_at c k ≤ message_room
  pub short : (k : ℕ) → k < 16 → size c k ≤ 255

-- the pieces accepted one after the other
abbrev pub accept_all : Held → List Piece → Held
accept_all h [] = h
accept_all h (p ∷ ps) = accept_all (accept h p.off p.bytes) ps

-- byte i is one of some piece's
abbrev pub Covered : List Piece → ℕ → Type 0
Covered [] i = ⊥
Covered (p ∷ ps) i = ((p.off ≤ i) × (i < p.off + length p.bytes)) ⊎ Covered ps i

-- bs is cut from M at o
pub record Cut (M : List ℕ) (o : ℕ) (bs : List ℕ) : Type 0 where
  pub short : length bs ≤ 255
  pub fits : o + length bs ≤ length M
  pub same : bs ≡ take (length bs) (drop o M)

-- the length that a message's first two bytes say, lowest first
abbrev pub announced : List ℕ → ℕ
announced bs = get_or bs 0 0 + 256 * get_or bs 1 0

-- the two bytes of the length are joined, and as many more as they say
abbrev pub landed : Held → Bool
landed h = leb 2 h.cell.joined && leb (2 + announced h.bytes) h.cell.joined

-- both bytes of the length are joined and say more than a cell can join: such a message can never land (document 02, U4)
abbrev pub claims : Held → Bool
claims h = leb 2 h.cell.joined && ltb body_room (announced h.bytes)

-- a piece at o would show such a length: asked of what would be joined with it, waiting pieces that come into reach included
unfoldable pub shows_of : Held → ℕ → List ℕ → Bool
shows_of h o p = claims (accept h o p)

-- each piece is cut from M, and the kept rule keeps it, or finds that it changes nothing, when its turn comes
abbrev pub KeptBy : ℕ → List ℕ → Held → List Piece → Type 0
KeptBy number M h [] = Unit {0}
KeptBy number M h (p ∷ ps) =
    Cut M p.off p.bytes
    × (((kept_of number p.off (length p.bytes) (shows_of h p.off p.bytes) true h.cell ≡ Yes)
    ⊎ (kept_of number p.off (length p.bytes) (shows_of h p.off p.bytes) true h.cell ≡ Needless))
    × KeptBy number M (accept h p.off p.bytes) ps)

-- a message as it is sent: its length in two bytes, lowest first, and its bytes
abbrev pub framed : List ℕ → List ℕ
framed body = length body % 256 ∷ length body / 256 % 256 ∷ body
