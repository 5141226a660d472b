-- What one `take` gives: at most as many pieces as were wanted, each of at most `max` bytes, so that the 8,192 words asked for are room for all.
use Rattle.std.specs.Prelude.{List, [], ◌∷◌, ◌++◌, ◌≡◌, ℕ, ◌*◌, ◌≤◌, length}
use Rattle.out.specs.Encode.{frame_words}
use Rattle.outbox.specs.Outbox.{Outbox, Sent, take_out}
use Rattle.outbox.specs.Bursts.{msg_field, sent_words}

-- each piece has at most max bytes
abbrev pub EachShort : ℕ → List Sent → Type 0
EachShort max [] = Unit {0}
EachShort max (p ∷ ps) = (length p.bytes ≤ max) × EachShort max ps

-- the words with every byte of every piece
unfoldable pub whole_words : List Sent → List ℕ
whole_words [] = []
whole_words (p ∷ ps) = frame_words 0 (msg_field p.seq p.off) p.bytes ++ whole_words ps

pub record Fits (max room : ℕ) (ps : List Sent) : Type 0 where
  pub few : length ps ≤ room
  pub short : EachShort max ps
  pub words : length (sent_words ps) ≤ 87 * 64
  pub whole : sent_words ps ≡ whole_words ps

-- of every outbox, whatever it holds
abbrev pub TakeFits : Type 0
TakeFits = (max room : ℕ) (o : Outbox) → max ≤ 255 → room ≤ 64 → Fits max room (take_out max room o).out
