-- Assumes nothing.
use mathlib.Core.Path.{sym, ◌∙◌}
use mathlib.Core.Bool.{true}
use mathlib.Core.List.{[]}
use Rattle.station.proofs.Laws.{round_if, answered_unless}
use Rattle.station.proofs.Numbers.{answer_is, passed_is}
use Rattle.out.specs.Encode.{after}
use Rattle.net.specs.State.{with_round, with_closing}
use Rattle.station.specs.Entries.{close_of, close_refusal}
use Rattle.station.proofs.close.Goals as goal

pub returns : goal.returns
unfolding close_of after
returns c =
    let a = c.args in
    rw (c.and.ensures, answer_is c.close_refusal-no.result 0, c.close_round-q.ensures, c.is_ok.ensures.value, passed_is c.close_refusal-no.result, c.close_refusal-no.ensures)
    (round_if (close_refusal a.count) a.s (with_closing a.s.round true a.count)
    ∙ sym (answered_unless (close_refusal a.count) a.s (with_round a.s (with_closing a.s.round true a.count)) [] [] [] 0))
