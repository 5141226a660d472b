-- Assumes nothing.
use mathlib.Core.Path.{sym, ◌∙◌}
use mathlib.Core.List.{[]}
use Rattle.station.proofs.Laws.{freed_if, answered_unless}
use Rattle.station.proofs.Numbers.{answer_is, passed_is}
use Rattle.out.specs.Encode.{after}
use Rattle.stream.specs.Table.{freed_table}
use Rattle.net.specs.State.{table_of, with_table}
use Rattle.station.specs.Entries.{free_of, cell_refusal}
use Rattle.station.proofs.free.Goals as goal

pub returns : goal.returns
unfolding free_of after
returns c =
    let a = c.args in
    rw (c.and.ensures, answer_is c.cell_refusal-no.result 0, c.without_if-2.ensures, c.without_if.ensures, c.is_ok-ok.ensures.value, passed_is c.cell_refusal-no.result, c.cell_refusal-no.ensures)
    (freed_if (cell_refusal a.s.count a.s.landed a.cell) a.s a.cell
    ∙ sym (answered_unless (cell_refusal a.s.count a.s.landed a.cell) a.s (with_table a.s (freed_table (table_of a.s) a.cell)) [] [] [] 0))
