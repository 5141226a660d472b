use Rattle.std.proofs.Common.{sym, ◌∙◌}
use Rattle.bits.proofs.Loops.{any_pass, any_stop, any_end}
use Rattle.next.specs.Code.Decision.{eventful_in}
use Rattle.next.proofs.eventful.Goals as goal

pub returns-then-eventful_at : goal.returns-then-eventful_at
returns-then-eventful_at c =
    let a = c.args in
    sym (any_stop (eventful_in a.ms a.used a.g) 62 c.loop-i.i c.loop-i-test.true (rw (c.eventful_at.ensures, c.has.ensures, c.index-v.ensures) at c.if-eventful_at.true)) ∙ c.loop-i.invariant

pub loop-i-preserved : goal.loop-i-preserved
loop-i-preserved c =
    let a = c.args in
    sym (any_pass (eventful_in a.ms a.used a.g) 62 c.loop-i.i c.loop-i-test.true (rw (c.eventful_at.ensures, c.has.ensures, c.index-v.ensures) at c.if-eventful_at.false)) ∙ c.loop-i.invariant

pub returns : goal.returns
returns c =
    let a = c.args in
    sym (any_end (eventful_in a.ms a.used a.g) _ _ c.loop-i-test.false) ∙ c.loop-i.invariant
