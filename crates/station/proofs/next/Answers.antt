-- Assumes nothing.
use borrow.Author.Rules.{rules}
use Rattle.out.proofs.Laws.{writes_back}
use Rattle.refusal.specs.Numbers.{number_in}
use Rattle.net.specs.Net.{said}
use Rattle.next.specs.Next.{ncs_next}
use Rattle.station.specs.Entries.{next_of}
use Rattle.station.proofs.Laws.{next_with}
use Rattle.station.proofs.Numbers.{answer_is, passed_is}
use Rattle.station.proofs.next.Goals as goal

pub returns : goal.returns
unfolding next_of
returns c =
    let n = c.next_refusal-no in
    let a = c.args in
    let did = rw (c.is_ok.ensures.value, passed_is n.result) at c.ncs_next-t.ensures in
    rw (c.and.ensures, answer_is n.result _, ← n.ensures)
    (next_with (number_in n.result) a.s (said (ncs_next a.s a.time a.lent.now).station (ncs_next a.s a.time a.lent.now).words)
    (record { station = did.station; wrote = writes_back did.wrote (search rules) }))
