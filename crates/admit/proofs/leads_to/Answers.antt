use mathlib.Core.Path.{sym, ◌∙◌}
use native.Mathlib.Omega.{arith}
use Rattle.admit.proofs.Laws.{leads_there, leads_off, leads_on, leads_end}
use Rattle.admit.proofs.leads_to.Goals as goal

pub returns-then-at-to : goal.returns-then-at-to
returns-then-at-to c =
    let l = c.loop in
    sym (leads_there _ _ _ _ (omega arith) c.if-at-to.true) ∙ l.invariant

pub returns-then-not-is_member : goal.returns-then-not-is_member
returns-then-not-is_member c =
    let l = c.loop in
    sym (leads_off _ _ _ _ (omega arith) c.if-at-to.false (sym c.is_member.ensures ∙ c.if-not-is_member.true)) ∙ l.invariant

pub loop-preserved : goal.loop-preserved
loop-preserved c =
    let l = c.loop in
    rw c.index-i.ensures (sym (leads_on _ _ _ _ (omega arith) c.if-at-to.false (sym c.is_member.ensures ∙ c.if-not-is_member.false)) ∙ l.invariant)

pub returns : goal.returns
returns c = sym (leads_end _ _ _ _ c.loop-test.false) ∙ c.loop.invariant
