-- Assumes nothing.
use mathlib.Core.Path.{sym}
use mathlib.Core.List.{[]}
use Rattle.station.proofs.Laws.{answered_unless}
use Rattle.station.proofs.Numbers.{answer_is, passed_is}
use Rattle.out.specs.Encode.{after}
use Rattle.station.specs.Entries.{sent_of, check1}
use Rattle.net.specs.Net.{on_tx_done}
use Rattle.station.proofs.sent.Goals as goal

pub returns : goal.returns
unfolding sent_of after
returns c =
    let a = c.args in
    rw (c.and.ensures, answer_is c.clock_refusal-no.result 0, c.on_tx_done-t.ensures, c.is_ok.ensures.value, passed_is c.clock_refusal-no.result, c.clock_refusal-no.ensures) (sym (answered_unless (check1 a.time 0) a.s (on_tx_done a.s a.time) [] [] [] 0))
