--

use Rattle.out.proofs.Laws.{word_in, word_past}
use Rattle.text.proofs.put_in.Goals as goal

pub returns-then-at-t : goal.returns-then-at-t
returns-then-at-t c = let a = c.args in word_in a.t.now a.at a.b c.if-at-t.true

pub returns : goal.returns
returns c = let a = c.args in word_past a.t.now a.at a.b c.if-at-t.false
