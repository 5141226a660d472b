-- Assumes nothing.
use mathlib.Core.Path.{sym, ◌∙◌}
use native.Mathlib.Omega.{arith}
use Rattle.stream.proofs.Marks.{mark_in_low, mark_in_high}
use Rattle.stream.proofs.window.has.Goals as goal

pub returns-then-d-lt64 : goal.returns-then-d-lt64
returns-then-d-lt64 c = c.has.ensures ∙ sym (mark_in_low _ _ _ c.if-d-lt64.true)

pub returns : goal.returns
returns c = c.has-2.ensures ∙ sym (mark_in_high _ _ _ (omega arith) c.if-d-lt64.false)
