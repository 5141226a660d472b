use mathlib.Core.Path.{refl, sym, ap, ◌∙◌}
use native.Mathlib.Omega.{arith}
use Rattle.bits.proofs.Loops.{fold_turn, fold_end}
use Rattle.net.specs.State.{with_hears}
use Rattle.signoff.specs.SignOff.{unhear_at, unhear_all}
use Rattle.signoff.proofs.unhear_all.Goals as goal

pub loop-i-init : goal.loop-i-init
unfolding unhear_all
loop-i-init c = (c.from-a.ensures, omega arith, refl)

pub loop-i-preserved : goal.loop-i-preserved
unfolding unhear_at
loop-i-preserved c =
    let l = c.loop-i in
    let slot = c.args.slot in
    let h = c.loop-i-test.true in
    (l.invariant.0, l.invariant.1, rw l.invariant.0 (sym (ap (with_hears l.s) (fold_turn (unhear_at slot) 62 l.i l.s.hears h)) ∙ l.invariant.2))

pub returns : goal.returns
returns c = sym (ap (with_hears c.loop-i.s) (fold_end _ _ _ _ c.loop-i-test.false)) ∙ c.loop-i.invariant.2
