-- Document 01, "Message cell": its numbers, named once.
use Rattle.std.specs.Prelude.{ℕ}

-- the bytes of the store that one cell has
abbrev pub cell_size : ℕ
cell_size = 6400

-- the bytes of a message that a cell can join, the two of its length among them
abbrev pub message_room : ℕ
message_room = 2048

-- the bytes of a message that follow the two of its length
abbrev pub body_room : ℕ
body_room = 2046

-- a piece of a message whose number is this or above is not kept
abbrev pub number_limit : ℕ
number_limit = 4294967040
