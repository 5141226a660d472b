-- Document 01, "Message cell", and document 02, U4: which pieces are kept, and what refuses one. A message with no cell yet is asked of the empty cell.
use Rattle.std.specs.Prelude.{Bool, cond, ◌&&◌, not, ℕ, ◌+◌, leb, ltb, eqb}
use Rattle.inbox.specs.declared.cell.Cell.{Cell}
use Rattle.inbox.specs.declared.keep.Kept.{Kept}
use Rattle.inbox.specs.declared.keep.Kept.TheVariants.{Needless, Yes, Late, Overlong, Long, NoCell, NoPlace}
use Rattle.inbox.specs.Sizes.{message_room, number_limit}
use Rattle.inbox.specs.Cells.{size, place_at, free_place}

-- a piece of at least n bytes waits at o already
abbrev pub shorter_of : Cell → ℕ → ℕ → Bool
shorter_of c o n = ltb c.joined o && ltb (place_at c o) 16 && leb n (size c (place_at c o))

-- 16 wait, a piece at o starts past the joined end, and none waits there
abbrev pub full_of : Cell → ℕ → Bool
full_of c o = ltb c.joined o && leb 16 (place_at c o) && leb 16 (free_place c)

-- What becomes of a piece of n bytes at o whose message is not handed over. `over`: its message claims too much (document 02, U4); `room`: its
-- message has a cell, or one is free. The pieces that change nothing come first, since they need no place; then the tests, in the documents' order
abbrev pub kept_of : ℕ → ℕ → ℕ → Bool → Bool → Cell → Kept
kept_of number o n over room c =
    cond (eqb n 0) Needless
    (cond (leb (o + n) c.joined) Needless
    (cond (shorter_of c o n) Needless
    (cond (leb number_limit number) Late
    (cond over Overlong
    (cond (ltb message_room (o + n)) Long
    (cond (not room) NoCell
    (cond (full_of c o) NoPlace Yes)))))))

-- which of the documents' tests refused the piece, counted from 1 in their order; 0 where none did: it is kept, or needs no place
abbrev pub test_of : Kept → ℕ
test_of Needless = 0
test_of Yes = 0
test_of Late = 1
test_of Overlong = 2
test_of Long = 3
test_of NoCell = 4
test_of NoPlace = 5
