use mathlib.Core.Path.{sym, ap, ◌∙◌}
use native.Mathlib.Omega.{arith}
use Rattle.std.specs.Prelude.{Some, None, is_some}
use Rattle.logs.specs.Reading.{entries_of}
use Rattle.logs.specs.Steps.{watch_step}
use Rattle.logs.proofs.Parts.{walk_end, walk_step}
use Rattle.logs.proofs.Walks.{turns_walk}
use Rattle.logs.proofs.Exact.{exact}
use Rattle.logs.proofs.turns_ok.Goals as goal

pub loop-w-preserved : goal.loop-w-preserved
loop-w-preserved c =
    let l = c.loop-w in
    l.invariant ∙ walk_step watch_step l.s c.args.words.now l.w-index (Some c.in-Some.t) (omega arith) (sym c.in-Some.is ∙ c.watch_step.ensures)

pub returns : goal.returns
returns c =
    let a = c.args in
    let l = c.loop-w in
    sym (ap is_some (l.invariant ∙ walk_end watch_step l.s a.words.now l.w-index (omega arith))) ∙ turns_walk a.words.now ∙ exact (entries_of a.words.now)

pub returns-in_default : goal.returns-in_default
returns-in_default c =
    let a = c.args in
    let l = c.loop-w in
    sym (ap is_some (l.invariant ∙ walk_step watch_step l.s a.words.now l.w-index None (omega arith) (sym c.in_default.is ∙ c.watch_step.ensures))) ∙ turns_walk a.words.now ∙ exact (entries_of a.words.now)
