-- Document 01, "Message cell": the cells of the store that the caller lends, each 6,400 bytes of it; landing, and what the host reads.
use Rattle.std.specs.Prelude.{cond, List, ◌++◌, ℕ, ◌*◌, take, drop, leb, Option, Some, None}
use Rattle.inbox.specs.Sizes.{cell_size, body_room}
use Rattle.inbox.specs.Cells.{Held}
use Rattle.inbox.specs.Messages.{landed, announced}

-- the bytes of cell c
abbrev pub cell_of : List ℕ → ℕ → List ℕ
cell_of store c = take cell_size (drop (cell_size * c) store)

-- the store with bs for the bytes of cell c
abbrev pub in_cell : List ℕ → ℕ → List ℕ → List ℕ
in_cell store c bs = take (cell_size * c) store ++ (bs ++ drop cell_size (drop (cell_size * c) store))

-- how many bytes the message in a cell has, once it has landed
abbrev pub landed_of : Held → Option ℕ
landed_of h = cond (landed h) (Some (announced h.bytes)) None

-- the bytes that follow the two of the length: as many as these say, and no more than a cell can join
abbrev pub body_size : List ℕ → ℕ
body_size bs = cond (leb (announced bs) body_room) (announced bs) body_room

abbrev pub body_of : List ℕ → List ℕ
body_of bs = take (body_size bs) (drop 2 bs)

-- what is read as the landed message of cell c
abbrev pub message_of : List ℕ → ℕ → List ℕ
message_of store c = body_of (cell_of store c)
