-- What the commands leave of the program's values.
use Rattle.std.specs.Prelude.{ℕ, cond, List, ◌==◌, Result, Ok, Err}
use Rattle.words.specs.Words.{payload_at}
use Rattle.script.specs.declared.action.Control.{Control}
use Rattle.script.specs.Actions.{number}
use Rattle.script.specs.Settings.{lent_cells}
use Rattle.refusal.specs.declared.Refusal.{Refusal}

abbrev pub with_cells : Control → ℕ → Control
with_cells c n = record c { cells = n }

-- a start that was not refused: so many cells are lent from here on
abbrev pub kept_by : Control → List ℕ → Control
kept_by c words = cond (number c.command == 8) (with_cells c (lent_cells (payload_at words 255))) c

abbrev pub settled_by : Control → List ℕ → Result ℕ Refusal → Control
settled_by c words (Ok n) = kept_by c words
settled_by c words (Err r) = c
