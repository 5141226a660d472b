-- Document 01, section "Words": the ranges of a burst's fields.
use Rattle.std.specs.Prelude.{List, [], ◌∷◌, ℕ, ◌≤◌, ◌<◌, length}
use Rattle.words.specs.Words.{Heard, heard, lost, Burst}

-- each is a byte
pub data Bytes : List ℕ → Type 0 where
  none : Bytes []
  more : {b : ℕ} {l : List ℕ} → b < 256 → Bytes l → Bytes (b ∷ l)

-- flags of 8 bits, a field of 24, at most 255 payload bytes
abbrev pub Fine : Heard → Type 0
Fine lost = Unit {0}
Fine (heard flags field p) = (flags < 256) × (field < 16777216) × (length p < 256) × Bytes p

pub data AllFine : List Heard → Type 0 where
  none : AllFine []
  more : {f : Heard} {fs : List Heard} → Fine f → AllFine fs → AllFine (f ∷ fs)

-- a code of 7 bits, a nibble, an extra of 16 bits, at most 64 frames
pub record FineBurst (b : Burst) : Type 0 where
  pub code : b.head.code < 128
  pub hi : b.head.hi < 16
  pub extra : b.head.extra < 65536
  pub frames : AllFine b.frames
  pub count : length b.frames ≤ 64
