use Rattle.std.proofs.Common.{sym, refl, ◌∙◌}
use Rattle.bits.proofs.Loops.{fold_turn, fold_end}
use Rattle.next.specs.Code.Decision.{tell_in, told_in}
use Rattle.next.proofs.told_in.Goals as goal

pub loop-i-init : goal.loop-i-init
unfolding told_in
loop-i-init c = refl

pub loop-i-preserved : goal.loop-i-preserved
loop-i-preserved c =
    let l = c.loop-i in
    let h = c.loop-i-test.true in
    let a = c.args in
    rw (c.tell_at-k.ensures, c.has.ensures) (sym (fold_turn (tell_in a.due a.used) 62 l.i l.ks h) ∙ l.invariant)

pub returns : goal.returns
returns c = sym (fold_end _ _ _ _ c.loop-i-test.false) ∙ c.loop-i.invariant
