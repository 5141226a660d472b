-- By cases. Assumes nothing.
use mathlib.Core.Path.{sym, ap, ◌∙◌}
use Rattle.outbox.proofs.Leaving as leaving
use Rattle.outbox.specs.Senders as S
use mathlib.Core.Bool.{not}
use Rattle.outbox.proofs.leave.not_held_at.Goals as goal

pub returns-then-q-next : goal.returns-then-q-next
returns-then-q-next c = let a = c.args in λ bytes marks. sym (leaving.held_below a.s bytes marks a.also.now a.next a.i c.if-q-next.true)

pub returns : goal.returns
returns c = let a = c.args in λ bytes marks. ap not (c.contains.ensures.value ∙ leaving.contains_any a.also.now (S.message_at a.s a.i).seq) ∙ sym (leaving.held_above a.s bytes marks a.also.now a.next a.i c.if-q-next.false)
