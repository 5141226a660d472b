-- Assumes nothing.
use mathlib.Core.Path.{sym, ◌∙◌}
use borrow.Author.Tests.{eq-eqb, ne_eqb}
use Rattle.bits.proofs.Lists.{cond_true, cond_false}
use Rattle.logs.specs.Steps as steps
use Rattle.logs.proofs.tiny_sent.Goals as goal

pub returns-then-hi : goal.returns-then-hi
unfolding steps.tiny_sent
returns-then-hi c = c.polled.ensures ∙ sym (cond_true _ _ _ c.if-hi.true)

pub returns-then-hi-eq-K_POLLACK : goal.returns-then-hi-eq-K_POLLACK
unfolding steps.tiny_sent
returns-then-hi-eq-K_POLLACK c = c.acked.ensures ∙ sym (cond_false _ _ _ c.if-hi.false ∙ cond_true _ _ _ (eq-eqb _ _ c.if-hi-eq-K_POLLACK.true))

pub returns-then-hi-eq-K_ACK : goal.returns-then-hi-eq-K_ACK
unfolding steps.tiny_sent
returns-then-hi-eq-K_ACK c = c.acked-then-hi-eq-K_ACK.ensures ∙ sym (cond_false _ _ _ c.if-hi.false ∙ cond_false _ _ _ (ne_eqb _ _ c.if-hi-eq-K_POLLACK.false) ∙ cond_true _ _ _ (eq-eqb _ _ c.if-hi-eq-K_ACK.true))

pub returns : goal.returns
unfolding steps.tiny_sent
returns c = sym (cond_false _ _ _ c.if-hi.false ∙ cond_false _ _ _ (ne_eqb _ _ c.if-hi-eq-K_POLLACK.false) ∙ cond_false _ _ _ (ne_eqb _ _ c.if-hi-eq-K_ACK.false))
