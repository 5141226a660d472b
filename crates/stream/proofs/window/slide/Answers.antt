use mathlib.Core.Path.{sym, ◌∙◌}
use native.Mathlib.Omega.{arith}
use borrow.Author.Tests.{eq-eqb, ne_eqb}
use Rattle.stream.proofs.Marks.{mark_lowest, slide_turn, slide_stop, slide_end}
use Rattle.stream.proofs.window.slide.Goals as goal

pub returns-then-not-on : goal.returns-then-not-on
returns-then-not-on c =
    let l = c.loop in
    c.slid-t.ensures ∙ sym (slide_stop _ _ _ _ (mark_lowest _ _ ∙ ne_eqb _ _ c.if-not-on.true)) ∙ l.invariant

pub loop-preserved : goal.loop-preserved
loop-preserved c =
    let l = c.loop in
    rw c.slid-t.ensures (sym (slide_turn 128 l.counter _ _ _ (omega arith) (mark_lowest _ _ ∙ eq-eqb _ _ c.if-not-on.false)) ∙ l.invariant)

pub returns : goal.returns
returns c =
    let l = c.loop in
    c.slid.ensures ∙ sym (slide_end 128 l.counter _ _ _ c.loop-test.false) ∙ l.invariant
