-- The words that are kept of the open command.
use Rattle.std.specs.Prelude.{ℕ, List, take}
use Rattle.driver.specs.declared.memory.Words.{Words}

abbrev pub kept : Words → List ℕ
kept w = take w.len w.words
