-- `Inbox::accept` of stream.rs, for one message in its cell (document 01, "Message cell"): what a piece does to the cell's numbers and to its bytes.
-- A cell's bytes: the joined ones stand at 0 .. joined, the piece at place k from 2,048 + 256 k on.
-- A place whose piece ends at or before the joined end waits for nothing: it is free.
use Rattle.std.specs.Prelude.{Bool, cond, ◌&&◌, List, ℕ, zero, suc, ◌+◌, ◌-◌, ◌*◌, length, get_or, set, take, drop, leb, ltb, eqb}
use Rattle.std.specs.declared.option.Option.{Option}
use Rattle.std.specs.declared.option.Option.TheVariants.{None, Some}
use Rattle.std.proofs.Math.Seq.{paste}
use Rattle.inbox.specs.declared.cell.Cell.{Cell}
use Rattle.inbox.specs.Sizes.{message_room}

-- a cell: its numbers, and its bytes
pub record Held : Type 0 where
  pub cell : Cell
  pub bytes : List ℕ

abbrev pub held : Cell → List ℕ → Held
held c bs = record { cell = c; bytes = bs }

-- where the piece at place k starts in the message, how long it is, where it ends, and where its bytes stand in the cell
abbrev pub offset : Cell → ℕ → ℕ
offset c k = get_or c.offsets k 0

abbrev pub size : Cell → ℕ → ℕ
size c k = get_or c.lengths k 0

abbrev pub end_at : Cell → ℕ → ℕ
end_at c k = offset c k + size c k

abbrev pub place : ℕ → ℕ
place k = message_room + 256 * k

-- the first of n numbers from k on at which the test holds; else k + n
unfoldable pub seek : (ℕ → Bool) → ℕ → ℕ → ℕ
seek t zero k = k
seek t (suc n) k = cond (t k) k (seek t n (k + 1))

-- the place whose piece starts at o; 16 if there is none
abbrev pub place_at : Cell → ℕ → ℕ
place_at c o = seek (λ k. eqb (offset c k) o) 16 0

-- the first free place; 16 if there is none
abbrev pub free_place : Cell → ℕ
free_place c = seek (λ k. leb (end_at c k) c.joined) 16 0

-- the place itself, or none
abbrev pub found : ℕ → Option ℕ
found k = cond (ltb k 16) (Some k) None

-- the piece at k starts at or before the joined end, reaches past it, and starts no earlier than o.
-- A piece that ends above 2,048 never goes; no start reaches a cell with one
abbrev pub better : Cell → ℕ → ℕ → Bool
better c k o =
    leb (offset c k) c.joined && ltb c.joined (end_at c k) && leb (end_at c k) message_room && leb o (offset c k)

-- of n places from k on, the one that goes next, which is the one with the greatest offset; b, which starts at o, if there is none
unfoldable pub next : ℕ → Cell → ℕ → ℕ → ℕ → ℕ
next zero c k b o = b
next (suc n) c k b o = next n c (k + 1) (cond (better c k o) k b) (cond (better c k o) (offset c k) o)

-- the place that goes next; 16 if there is none
abbrev pub next_place : Cell → ℕ
next_place c = next 16 c 0 16 0

-- bs joined at the joined end
unfoldable pub grow : Held → List ℕ → Held
grow h bs =
    record {
      cell = record { joined = h.cell.joined + length bs; offsets = h.cell.offsets; lengths = h.cell.lengths };
      bytes = paste h.bytes h.cell.joined bs (length bs);
    }

-- what the piece at k has from the joined end on
abbrev pub rest : Held → ℕ → List ℕ
rest h k =
    take (end_at h.cell k - h.cell.joined) (drop (place k + (h.cell.joined - offset h.cell k)) h.bytes)

-- the waiting pieces that have come into reach joined, at most n of them. Each joins a byte at least, so 2,048 are all
unfoldable pub settle : ℕ → Held → Held
settle zero h = h
settle (suc n) h =
    cond (ltb (next_place h.cell) 16) (settle n (grow h (rest h (next_place h.cell)))) h

-- bs, which starts at o, put at place k to wait
unfoldable pub store : Held → ℕ → ℕ → List ℕ → Held
store h k o bs =
    record {
      cell = record { joined = h.cell.joined; offsets = set h.cell.offsets k o; lengths = set h.cell.lengths k (length bs) };
      bytes = paste h.bytes (place k) bs (length bs);
    }

-- a piece that starts past the joined end: at one offset the longer stays; else it takes the first free place, if there is one
unfoldable pub await : Held → ℕ → List ℕ → Held
await h o bs =
    cond (ltb (place_at h.cell o) 16)
    (cond (ltb (size h.cell (place_at h.cell o)) (length bs)) (store h (place_at h.cell o) o bs) h)
    (cond (ltb (free_place h.cell) 16) (store h (free_place h.cell) o bs) h)

-- one piece taken: nothing if it ends at or before the joined end or is empty; joined from the joined end on, with all that comes into reach;
-- or put to wait
unfoldable pub accept : Held → ℕ → List ℕ → Held
accept h o bs =
    cond (leb (o + length bs) h.cell.joined) h
    (cond (eqb (length bs) 0) h
    (cond (leb o h.cell.joined) (settle message_room (grow h (drop (h.cell.joined - o) bs))) (await h o bs)))
