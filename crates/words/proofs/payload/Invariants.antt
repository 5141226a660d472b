-- `words::payload` meets its contract. The first loop's invariant: the bytes of the first k words are read, and zeros stand behind them; the
-- second's: the first j bytes are. Assumes nothing.
use mathlib.Core.Path.{◌≡◌}
use mathlib.Core.List.{◌++◌}
use Prim.Native.Nat.{◌-◌, ◌*◌, ◌≤◌}
use lib.ListN.{drop, replicate}
use Rattle.words.specs.Words.{bytes_at}
use Rattle.words.proofs.payload.Given as goal

abbrev pub invariant-loop-k : goal.invariant-loop-k
invariant-loop-k l = (l.m ≤ 255) × (l.out ≡ bytes_at (drop l.at l.words) (3 * l.k) ++ replicate (255 - 3 * l.k) 0)

abbrev pub invariant-loop-j : goal.invariant-loop-j
invariant-loop-j l = (l.m ≤ 255) × (l.out ≡ bytes_at (drop l.at l.words) l.j ++ replicate (255 - l.j) 0)
