-- `words::five` meets its contract. Assumes nothing.
use mathlib.Core.Path.{sym}
use Rattle.words.proofs.Read.{five_none}
use Rattle.words.proofs.five.Goals as goal

pub returns-then-words-j : goal.returns-then-words-j
returns-then-words-j c = let a = c.args in sym (five_none a.words.now 0 a.j c.if-words-j.true)
