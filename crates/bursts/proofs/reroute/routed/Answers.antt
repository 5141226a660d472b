-- Assumes nothing.
use Rattle.out.proofs.Laws.{writes_none}
use Rattle.bursts.proofs.reroute.routed.Goals as goal

pub returns-else-moved : goal.returns-else-moved
returns-else-moved c = rw c.if-moved.false (writes_none _)
