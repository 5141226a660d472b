-- The lines of the words from the next on are still to be printed.
use Rattle.std.proofs.Common.{◌≡◌, drop}
use Rattle.driver.specs.Lines.{word_lines, lines_on}
use Rattle.driver.proofs.page.Page.words.Given as goal

abbrev pub invariant-loop-w : goal.invariant-loop-w
invariant-loop-w l = lines_on l.self (word_lines (drop l.w-index l.ws)) ≡ lines_on l.initial.self (word_lines l.ws)
