-- Small logs, and what the definition says of each. Assumes nothing.
use mathlib.Core.Path.{◌≡◌, refl}
use mathlib.Core.Bool.{true, false}
use mathlib.Core.List.{List, [], ◌∷◌, ◌++◌}
use Prim.Native.Nat.{ℕ, zero, suc, ◌+◌, ◌*◌}
use Rattle.words.specs.Words.{word_ok, payload_ok, frame_of, item_at, head_ok}
use Rattle.std.specs.Prelude.{Ok, Err}
use Rattle.refusal.specs.declared.Refusal.TheVariants.{Words, Marks}
use Rattle.logs.specs.Reading.{part_of, parts_from, list_ok, marks_from, slots_in, entries_from}
use Rattle.logs.specs.Turns.{turns_from, inside_from, rounds_ok, verdict_of}

-- a count, and a slot of a list
abbrev six : ℕ → ℕ
six n = 0x60000000 + n

-- a header-only sending: high nibble, slot
abbrev tiny : ℕ → ℕ → List ℕ
tiny hi slot = (0x80000000 + 62 * 2097152 + hi * 131072 + slot) ∷ 0x90000000 ∷ []

abbrev polls : ℕ → List ℕ
polls slot = tiny 1 slot

abbrev relays : ℕ → List ℕ
relays slot = tiny 5 slot

abbrev pollacks : ℕ → List ℕ
pollacks slot = tiny 2 slot

abbrev acks : ℕ → List ℕ
acks slot = tiny 3 slot

-- slots 4 and 9 are listed
abbrev two : List ℕ
two = six 2 ∷ six 4 ∷ six 9 ∷ []

-- a beacon of one frame of one byte
abbrev beacon : List ℕ
beacon = 0x80000000 ∷ 0x90000010 ∷ 0xa000bf01 ∷ 0xb0000000 ∷ 0xc0010000 ∷ []

-- five polls, four acknowledgements, the last of them K_ACK
abbrev full : List ℕ
full = polls 4 ++ (relays 4 ++ (pollacks 4 ++ (polls 4 ++ (pollacks 4 ++ (polls 4 ++ (pollacks 4 ++ (polls 4 ++ acks 4)))))))

-- nothing; sendings of no turn; both in any order, one unanswered; the last list unfinished; five polls and four acknowledgements; an empty list
pub accepts : (verdict_of [] ≡ Ok true) × (verdict_of beacon ≡ Ok true)
    × (verdict_of (beacon ++ (two ++ (polls 9 ++ (beacon ++ (polls 4 ++ (acks 4 ++ (two ++ polls 4))))))) ≡ Ok true)
    × (verdict_of (two ++ full) ≡ Ok true) × (verdict_of (six 0 ∷ six 0 ∷ beacon) ≡ Ok true)
unfolding verdict_of parts_from part_of head_ok item_at frame_of payload_ok word_ok marks_from list_ok slots_in entries_from turns_from inside_from rounds_ok
accepts = (refl, refl, refl, refl, refl)

-- before a mark; of a slot not listed; twice, with K_ACK between; twice, with another between; a listed slot without a turn before the next mark
pub rejects : (verdict_of (polls 4) ≡ Ok false) × (verdict_of (two ++ polls 5) ≡ Ok false) × (verdict_of (two ++ (polls 4 ++ (acks 4 ++ polls 4))) ≡ Ok false)
    × (verdict_of (two ++ (polls 4 ++ (polls 9 ++ polls 4))) ≡ Ok false) × (verdict_of (two ++ (polls 4 ++ two)) ≡ Ok false)
unfolding verdict_of parts_from part_of head_ok item_at frame_of payload_ok word_ok marks_from list_ok slots_in entries_from turns_from inside_from rounds_ok
rejects = (refl, refl, refl, refl, refl)

-- an acknowledgement without a turn, of another slot, behind K_ACK, behind a mark; a sixth poll; a fifth acknowledgement
pub rejects_acks : (verdict_of (two ++ acks 4) ≡ Ok false) × (verdict_of (two ++ (polls 4 ++ acks 9)) ≡ Ok false)
    × (verdict_of (two ++ (polls 4 ++ (acks 4 ++ pollacks 4))) ≡ Ok false) × (verdict_of (two ++ (polls 9 ++ (polls 4 ++ (two ++ acks 4)))) ≡ Ok false)
    × (verdict_of (two ++ (polls 4 ++ (polls 4 ++ (polls 4 ++ (polls 4 ++ (polls 4 ++ polls 4)))))) ≡ Ok false)
    × (verdict_of (two ++ (polls 4 ++ (pollacks 4 ++ (pollacks 4 ++ (pollacks 4 ++ (pollacks 4 ++ acks 4)))))) ≡ Ok false)
unfolding verdict_of parts_from part_of head_ok item_at frame_of payload_ok word_ok marks_from list_ok slots_in entries_from turns_from inside_from rounds_ok
rejects_acks = (refl, refl, refl, refl, refl, refl)

-- an event; a head without its wave, and one cut by a mark; a wave alone; a lost frame; a frame before a head; a frame cut by a mark; an unnamed bit
-- of a wave; a malformed word before a faulty mark
pub refuses_3 : (verdict_of (0x30000004 ∷ []) ≡ Err Words) × (verdict_of (0x80000000 ∷ []) ≡ Err Words) × (verdict_of (0x80000000 ∷ six 0 ∷ 0x90000000 ∷ []) ≡ Err Words)
    × (verdict_of (0x90000000 ∷ []) ≡ Err Words) × (verdict_of (polls 4 ++ (0xd0000000 ∷ [])) ≡ Err Words) × (verdict_of (0xa0000000 ∷ 0xb0000000 ∷ []) ≡ Err Words)
    × (verdict_of (0x80000000 ∷ 0x90000000 ∷ 0xa0000000 ∷ six 0 ∷ 0xb0000000 ∷ []) ≡ Err Words) × (verdict_of (0x80000000 ∷ 0x90000020 ∷ []) ≡ Err Words)
    × (verdict_of (six 63 ∷ 0x70000000 ∷ []) ≡ Err Words)
unfolding verdict_of parts_from part_of head_ok item_at frame_of payload_ok word_ok marks_from list_ok slots_in entries_from turns_from inside_from rounds_ok
refuses_3 = (refl, refl, refl, refl, refl, refl, refl, refl, refl)

-- an unnamed bit; a list cut short by the end and by a sending; slot 62; a slot twice
pub refuses_27 : (verdict_of (six 64 ∷ []) ≡ Err Marks) × (verdict_of (six 2 ∷ six 4 ∷ []) ≡ Err Marks) × (verdict_of (six 1 ∷ polls 4) ≡ Err Marks)
    × (verdict_of (six 1 ∷ six 62 ∷ []) ≡ Err Marks) × (verdict_of (six 2 ∷ six 4 ∷ six 4 ∷ []) ≡ Err Marks)
unfolding verdict_of parts_from part_of head_ok item_at frame_of payload_ok word_ok marks_from list_ok slots_in entries_from turns_from inside_from rounds_ok
refuses_27 = (refl, refl, refl, refl, refl)

-- so many frames without payload
abbrev frames : ℕ → List ℕ
frames zero = []
frames (suc n) = 0xa0000000 ∷ 0xb0000000 ∷ frames n

pub frames_64 : (verdict_of (0x80000000 ∷ 0x90000000 ∷ frames 64) ≡ Ok true) × (verdict_of (0x80000000 ∷ 0x90000000 ∷ frames 65) ≡ Err Words)
unfolding verdict_of parts_from part_of head_ok item_at frame_of payload_ok word_ok marks_from list_ok slots_in entries_from turns_from inside_from rounds_ok
frames_64 = (refl, refl)
