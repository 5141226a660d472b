-- The invariant of one message: its pieces in flight lie apart and in order below `cut`, and every byte below `cut` is in one of them or covered; and no
-- piece ever sent starts inside one of them but at its start, where it was at least as long. C says of a byte that it is covered, W of an offset and a
-- length that such a piece was sent.
use Rattle.std.specs.Prelude.{List, [], ◌∷◌, ◌≡◌, ℕ, ◌+◌, ◌≤◌, ◌<◌, length}
use Rattle.outbox.specs.Outbox.{Piece, OutMsg}

-- the bytes from x to end
abbrev pub Tiled : (ℕ → Type 0) → ℕ → ℕ → List Piece → Type 0
Tiled C x end [] = (x ≤ end) × ((k : ℕ) → x ≤ k → k < end → C k)
Tiled C x end (p ∷ ps) = (x ≤ p.off) × (0 < p.len) × ((k : ℕ) → x ≤ k → k < p.off → C k) × Tiled C (p.off + p.len) end ps

pub record Tight (W : ℕ → ℕ → Type 0) (p : Piece) : Type 0 where
  pub only : (off len : ℕ) → W off len → p.off ≤ off → off < p.off + p.len → (off ≡ p.off) × (p.len ≤ len)

abbrev pub AllTight : (ℕ → ℕ → Type 0) → List Piece → Type 0
AllTight W [] = Unit {0}
AllTight W (p ∷ ps) = Tight W p × AllTight W ps

pub record Sound (C : ℕ → Type 0) (W : ℕ → ℕ → Type 0) (m : OutMsg) : Type 0 where
  pub fits : m.cut ≤ length m.bytes
  pub tiled : Tiled C 0 m.cut m.inflight
  pub tight : AllTight W m.inflight
  pub below : (off len : ℕ) → W off len → off < m.cut
