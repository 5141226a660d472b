-- Assumes nothing.
use Rattle.std.proofs.Common.{arith}
use Rattle.next.proofs.Looks.{ends_at}
use Rattle.next.proofs.end_of.Goals as goal

pub returns : goal.returns
returns c = ends_at c.args.used c.least.result (omega arith) c.least.ensures
