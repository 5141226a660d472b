-- Assumes nothing.
use borrow.Author.Rules.{rules}
use Rattle.out.proofs.Laws.{writes_back}
use Rattle.refusal.specs.Numbers.{number_in}
use Rattle.station.proofs.Laws.{receive_all}
use Rattle.station.proofs.Numbers.{answer_is, passed_is}
use Rattle.station.proofs.receive.Goals as goal

pub returns : goal.returns
returns c =
    let a = c.args in
    let no = c.receive_refusal-no.result in
    let did = rw (c.is_ok-ok.ensures.value, passed_is no) at c.ncs_rx-t.ensures in
    rw (c.and.ensures, answer_is no _)
    (receive_all a.s a.words.now a.snr a.time a.lent.now a.o.now c.frames_in-n.result (number_in no)
    c.frames_in-n.ensures c.receive_refusal-no.ensures (record { station = did.station; store = did.store; wrote = writes_back did.wrote (search rules); unkept = did.unkept }))
