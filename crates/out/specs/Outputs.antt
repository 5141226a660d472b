-- What a call leaves in an output that it was lent.
use Rattle.std.specs.Prelude.{◌≡◌, List, ℕ}
use Rattle.out.specs.declared.Output.{Output}
use Rattle.out.specs.Encode.{Wrote}

-- The words ws written behind what the output o had, as far as they fit, leave m: the same output is written to.
pub record Writes (o : Output) (ws : List ℕ) (m : Output) : Type 0 where
  pub same : m.words.ghost_name ≡ o.words.ghost_name
  pub wrote : Wrote o.words.now o.at ws m.words.now m.at
