-- Assumes nothing.
use Rattle.std.proofs.Common.{⊎_elim, eq-eqb}
use Rattle.out.proofs.Laws.{writes_none}
use Rattle.next.proofs.put_late.Goals as goal

pub returns-else-left-ne0 : goal.returns-else-left-ne0
returns-else-left-ne0 c = rw (c.in-Close.is, eq-eqb _ _ c.if-left-ne0.false) (writes_none _)

pub returns-else-here : goal.returns-else-here
returns-else-here c = rw (c.in-Missed.is, c.if-here.false) (writes_none _)

pub returns-in-Free : goal.returns-in-Free
returns-in-Free c = ⊎_elim (λ e. rw e (writes_none _)) (λ e. rw e (writes_none _)) c.in-Free.is
