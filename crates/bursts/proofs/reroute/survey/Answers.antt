use mathlib.Core.Path.{refl, sym, ◌∙◌}
use Rattle.bits.proofs.Loops.{fold_turn, fold_end}
use Rattle.bursts.specs.Rows.{mark_if, mask_where}
use Rattle.bursts.specs.Reroute.{able_at, needs_at, tried_at, tried_of}
use Rattle.bursts.proofs.reroute.survey.Goals as goal

pub loop-i-init : goal.loop-i-init
unfolding mask_where tried_of
loop-i-init c = (refl, refl, refl)

pub loop-i-preserved : goal.loop-i-preserved
loop-i-preserved c =
    let l = c.loop-i in
    let h = c.loop-i-test.true in
    let has = c.has-here.ensures in
    (rw (c.with_if-able.ensures, c.could_relay.ensures, has) (sym (fold_turn _ 62 l.i l.able h) ∙ l.invariant.0), rw (c.with_if-needs.ensures, c.needs_relay.ensures, has) (sym (fold_turn _ 62 l.i l.needs h) ∙ l.invariant.1), sym (fold_turn _ 62 l.i l.tried h) ∙ l.invariant.2)

pub returns : goal.returns
returns c =
    let l = c.loop-i in
    let h = c.loop-i-test.false in
    rw (← l.invariant.0, ← l.invariant.1, ← l.invariant.2, fold_end (mark_if (able_at _)) 62 l.i l.able h, fold_end (mark_if (needs_at _)) 62 l.i l.needs h, fold_end (tried_at _) 62 l.i l.tried h)
