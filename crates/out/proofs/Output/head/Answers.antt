-- `out::Output::head` meets its contract: two words. Assumes nothing.
use Rattle.out.proofs.Laws.{writes_then}
use Rattle.out.proofs.Output.head.Goals as goal

pub returns : goal.returns
returns c = writes_then c.word.ensures c.word-2.ensures
