-- Document 01's example: the nine words of a beacon with no members, at level 0.
-- Assumes nothing.
use mathlib.Core.Path.{◌≡◌, refl}
use mathlib.Core.List.{[], ◌∷◌}
use Rattle.out.specs.Encode.{head_word, wave_word, pack, ctrl_words}

pub sample : head_word 0 0 0 ∷ wave_word 0 ∷ ctrl_words (1 ∷ 0x40 ∷ 0x3e ∷ 0x77 ∷ 0xb3 ∷ 0 ∷ 0x50 ∷ 0x4f ∷ 0x52 ∷ 0x54 ∷ 0x20 ∷ 0x20 ∷ 1 ∷ 4 ∷ [])
    ≡ 0x80000000 ∷ 0x90000000 ∷ 0xa000bf0e ∷ 0xb0000000 ∷ 0xc001403e ∷ 0xc077b300 ∷ 0xc0504f52 ∷ 0xc0542020 ∷ 0xc0010400 ∷ []
unfolding pack
sample = refl
