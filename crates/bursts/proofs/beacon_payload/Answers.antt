-- Assumes nothing.
use Rattle.bursts.specs.Bursts.{beacon_payload}
use Rattle.bursts.proofs.beacon_payload.Goals as goal

pub returns-then-g : goal.returns-then-g
unfolding beacon_payload
returns-then-g c =
    rw (c.with_timing.ensures, c.len_ms.ensures, c.first_ms.ensures, c.name_payload-p.ensures, c.if-g.true)

pub returns : goal.returns
unfolding beacon_payload
returns c = rw (c.name_payload-p.ensures, c.if-g.false)
