-- Assumes nothing.
use Rattle.queue.specs.Queues.{is_due}
use Rattle.queue.proofs.is_due.Goals as goal

pub returns : goal.returns
unfolding is_due
returns c = rw c.first.ensures
