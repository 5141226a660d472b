-- Assumes nothing.
use mathlib.Core.Path.{sym, ◌∙◌}
use native.Mathlib.Omega.{arith}
use Rattle.std.specs.Prelude.{Some, None}
use Rattle.logs.specs.Steps.{mark_step}
use Rattle.logs.proofs.Parts.{walk_end, walk_step}
use Rattle.logs.proofs.marks_read.Goals as goal

pub loop-w-preserved : goal.loop-w-preserved
loop-w-preserved c =
    let l = c.loop-w in
    l.invariant ∙ walk_step mark_step l.m c.args.words.now l.w-index (Some c.in-Some.n) (omega arith) (sym c.in-Some.is ∙ c.mark_step.ensures)

pub returns-in_default : goal.returns-in_default
returns-in_default c =
    let l = c.loop-w in
    sym (l.invariant ∙ walk_step mark_step l.m c.args.words.now l.w-index None (omega arith) (sym c.in_default.is ∙ c.mark_step.ensures))

pub returns : goal.returns
returns c = let a = c.args in sym (c.loop-w.invariant ∙ walk_end mark_step c.loop-w.m a.words.now c.loop-w.w-index (omega arith))
