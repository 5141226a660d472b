-- Assumes nothing.
use Rattle.out.proofs.Laws.{writes_none}
use Rattle.rx.proofs.ending.put_end.Goals as goal

pub returns-then-not-is_answer : goal.returns-then-not-is_answer
returns-then-not-is_answer c = rw (← c.is_answer.ensures, c.if-not-is_answer.true) (writes_none _)
