-- Assumes nothing.
use Rattle.std.proofs.Common.{sym, ap, ◌∙◌}
use Rattle.bits.proofs.Lists.{cond_true, cond_false}
use Rattle.net.specs.declared.Turn.{Turn}
use Rattle.next.specs.Next.{due_turn, due_of}
use Rattle.next.proofs.due_of.Goals as goal

pub returns-then-closed : goal.returns-then-closed
unfolding due_of
returns-then-closed c = sym (cond_true _ _ _ c.if-closed.true)

pub returns-in-Idle : goal.returns-in-Idle
unfolding due_of
returns-in-Idle c = let a = c.args in sym (cond_false _ _ _ c.if-closed.false ∙ ap (λ (t : Turn). due_turn t a.w.deadline a.time) c.in-Idle.is)

pub returns-in-Sending : goal.returns-in-Sending
unfolding due_of
returns-in-Sending c = let a = c.args in sym (cond_false _ _ _ c.if-closed.false ∙ ap (λ (t : Turn). due_turn t a.w.deadline a.time) c.in-Sending.is)

pub returns-in-Waiting : goal.returns-in-Waiting
unfolding due_of
returns-in-Waiting c = let a = c.args in c.due_by.ensures ∙ sym (cond_false _ _ _ c.if-closed.false ∙ ap (λ (t : Turn). due_turn t a.w.deadline a.time) c.in-Waiting.is)
