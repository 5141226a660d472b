-- Assumes nothing.
use borrow.Author.Tests.{le-leb}
use Rattle.out.proofs.Laws.{writes_none}
use Rattle.frames.proofs.control.kid_event.Goals as goal

pub returns-else-b-lt128 : goal.returns-else-b-lt128
returns-else-b-lt128 c = rw (le-leb _ _ c.if-b-lt128.false) (writes_none _)
