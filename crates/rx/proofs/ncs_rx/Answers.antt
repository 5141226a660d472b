-- Assumes nothing.
use Rattle.rx.proofs.Whole.{rx_is}
use Rattle.rx.proofs.ncs_rx.Goals as goal

pub returns : goal.returns
returns c =
    let s = c.args in
    rw (rx_is s.words.now s.n s.s s.level s.time s.lent.now s.ok c.head_or-h.ensures c.air_of-a.ensures c.busy_wait-v.ensures c.many_of.ensures (λ q. (c.requires q).0)) at c.read_burst.ensures
