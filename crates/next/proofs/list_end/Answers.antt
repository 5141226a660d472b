-- Assumes nothing.
use Rattle.std.proofs.Common.{sym, ◌∙◌}
use Rattle.bits.proofs.Lists.{cond_true}
use Rattle.bursts.proofs.Saying.{does_as}
use Rattle.next.specs.Code.Decision.{round_then}
use Rattle.next.proofs.Calls.{list_none, list_said}
use Rattle.next.proofs.list_end.Goals as goal

pub returns-then-n-s : goal.returns-then-n-s
unfolding round_then
returns-then-n-s c = does_as c.rerouting.ensures (sym (cond_true _ _ _ c.if-n-s.true))

pub returns-then-is_idle : goal.returns-then-is_idle
returns-then-is_idle c = list_none c.args.s c.args.time c.if-n-s.false c.rx_list_burst-t.ensures (sym c.is_idle.ensures ∙ c.if-is_idle.true) c.rerouting-then-is_idle.ensures

pub returns : goal.returns
returns c = list_said c.args.s c.args.time c.if-n-s.false c.rx_list_burst-t.ensures (sym c.is_idle.ensures ∙ c.if-is_idle.false)
