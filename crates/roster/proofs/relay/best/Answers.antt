-- Assumes nothing.
use Rattle.bits.proofs.Loops.{fold_turn, fold_end}
use mathlib.Core.Path.{sym, ◌∙◌, ap}
use Rattle.roster.specs.Relays.{picked_slot, best_step}
use Rattle.roster.proofs.relay.best.Goals as goal

pub loop-i-preserved : goal.loop-i-preserved
loop-i-preserved g c =
    let l = c.loop-i in
    rw (c.step-p.ensures, ← fold_turn (best_step _ _ _ _ _) 62 l.i l.p c.loop-i-test.true) l.invariant

pub returns-in-Some : goal.returns-in-Some
returns-in-Some g c = ap picked_slot (sym c.in-Some.is ∙ sym (fold_end _ _ _ _ c.loop-i-test.false)) ∙ c.loop-i.invariant

pub returns-in-None : goal.returns-in-None
returns-in-None g c = ap picked_slot (sym c.in-None.is ∙ sym (fold_end _ _ _ _ c.loop-i-test.false)) ∙ c.loop-i.invariant
