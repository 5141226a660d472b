-- How far an output that was all 0 has been written.
use Rattle.std.specs.Prelude.{cond, List, [], ◌∷◌, ℕ, suc, eqb}

-- the bytes before the first 0
unfoldable pub filled : List ℕ → ℕ
filled [] = 0
filled (b ∷ l) = cond (eqb b 0) 0 (suc (filled l))
