-- Assumes nothing.
use Rattle.bursts.specs.Bursts.{acks_burst}
use Rattle.bursts.proofs.acks_burst.Goals as goal

pub returns : goal.returns
unfolding acks_burst
returns c =
    let a = c.acks_round-r.ensures in
    record { station = rw (c.sending-v.ensures, a.0); wrote = a.1 }
