-- Each P case of document 01 gives what the document says. Assumes nothing.
use mathlib.Core.Path.{◌≡◌, refl}
use mathlib.Core.List.{List, [], ◌∷◌}
use Prim.Native.Nat.{ℕ}
use Rattle.wire.specs.Call.{digit, char, unpacked, trim_start, trim_end}
use Rattle.wire.specs.Numbers.{widened, widened_at}
use Rattle.cases.specs.Table.{Case, cases}

abbrev given : List Case → List (List ℕ)
given [] = []
given (c ∷ cs) = c.gives ∷ given cs

abbrev said : List Case → List (List ℕ)
said [] = []
said (c ∷ cs) = c.says ∷ said cs

pub p_cases : given cases ≡ said cases
unfolding cases digit char unpacked trim_start trim_end widened widened_at
p_cases = refl
