-- Document 01's example frame, behind a head and with a lost frame after it, parses. A spare byte that is not zero is malformed.
-- Assumes nothing.
use mathlib.Core.Path.{◌≡◌, refl}
use mathlib.Core.List.{[], ◌∷◌}
use Rattle.words.specs.Words.{word_ok, payload_ok, unpack, payload, frame_of, item_at, heard, lost, parsed, malformed, frames_of, head_ok, parse}

pub sample : parse (0x80000000 ∷ 0xa000bf0e ∷ 0xb0000000 ∷ 0xc001403e ∷ 0xc077b300 ∷ 0xc0504f52 ∷ 0xc0542020 ∷ 0xc0010400 ∷ 0xd0000000 ∷ [])
    ≡ parsed (record {
      head = record { code = 0; hi = 0; extra = 0 };
      frames = heard 0xbf 0 (1 ∷ 0x40 ∷ 0x3e ∷ 0x77 ∷ 0xb3 ∷ 0 ∷ 0x50 ∷ 0x4f ∷ 0x52 ∷ 0x54 ∷ 0x20 ∷ 0x20 ∷ 1 ∷ 4 ∷ []) ∷ lost ∷ [];
    })
unfolding parse head_ok frames_of item_at frame_of payload_ok word_ok payload unpack
sample = refl

-- a spare byte that is not zero
pub spare : parse (0x80000000 ∷ 0xa000bf01 ∷ 0xb0000000 ∷ 0xc0010001 ∷ []) ≡ malformed
unfolding parse head_ok frames_of item_at frame_of payload_ok word_ok payload unpack
spare = refl
