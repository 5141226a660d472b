-- Assumes nothing.
use Rattle.out.proofs.Laws.{writes_then, writes_as}
use Rattle.bursts.specs.Direct.{down_burst}
use Rattle.bursts.proofs.direct.down_burst.Goals as goal

pub returns : goal.returns
unfolding down_burst
returns c =
    writes_as (writes_then c.head.ensures c.put_downs.ensures) (rw (c.payload_at.ensures, c.room_at.ensures, c.first-first.ensures))
