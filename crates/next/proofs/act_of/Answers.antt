-- Assumes nothing.
use Rattle.std.proofs.Common.{not, sym, ap, ◌∙◌, eq-eqb, ne_eqb}
use Rattle.bits.proofs.Lists.{cond_true, cond_false}
use Rattle.next.specs.Next.{act_of}
use Rattle.next.proofs.act_of.Goals as goal

pub returns-then-time-r : goal.returns-then-time-r
unfolding act_of
returns-then-time-r c = sym (cond_false _ _ _ c.if-quiet-time.false ∙ cond_true _ _ _ c.if-time-r.true)

pub returns-then-r : goal.returns-then-r
unfolding act_of
returns-then-r c = sym (cond_false _ _ _ c.if-quiet-time.false ∙ cond_false _ _ _ c.if-time-r.false ∙ cond_true _ _ _ c.if-r.true)

pub returns-then-r-ne0 : goal.returns-then-r-ne0
unfolding act_of
returns-then-r-ne0 c = sym (cond_false _ _ _ c.if-quiet-time.false ∙ cond_false _ _ _ c.if-time-r.false ∙ cond_false _ _ _ c.if-r.false ∙ cond_true _ _ _ (ap not (ne_eqb _ _ c.if-r-ne0.true)))

pub returns-then-members-eq0 : goal.returns-then-members-eq0
unfolding act_of
returns-then-members-eq0 c =
    sym (cond_false _ _ _ c.if-quiet-time.false ∙ cond_false _ _ _ c.if-time-r.false ∙ cond_false _ _ _ c.if-r.false ∙ cond_false _ _ _ (ap not (eq-eqb _ _ c.if-r-ne0.false)) ∙ cond_true _ _ _ (eq-eqb _ _ (sym c.members.ensures ∙ c.if-members-eq0.true)))

pub returns : goal.returns
unfolding act_of
returns c =
    sym (cond_false _ _ _ c.if-quiet-time.false ∙ cond_false _ _ _ c.if-time-r.false ∙ cond_false _ _ _ c.if-r.false ∙ cond_false _ _ _ (ap not (eq-eqb _ _ c.if-r-ne0.false)) ∙ cond_false _ _ _ (ne_eqb _ _ (λ e. c.if-members-eq0.false (c.members.ensures ∙ e))))
