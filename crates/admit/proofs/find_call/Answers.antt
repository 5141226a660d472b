use mathlib.Core.Path.{refl, sym, ◌∙◌}
use native.Mathlib.Omega.{arith}
use Rattle.bits.proofs.Loops.{first_pass, first_stop, first_end}
use Rattle.admit.specs.Admission.{find_call}
use Rattle.admit.proofs.find_call.Goals as goal

pub loop-i-init : goal.loop-i-init
unfolding find_call
loop-i-init c = refl

pub returns-then-has-key_of : goal.returns-then-has-key_of
returns-then-has-key_of c =
    let v = c.loop-i.invariant in
    sym (first_stop _ _ _ (omega arith) (rw (c.has.ensures, c.key_of.ensures) at c.if-has-key_of.true)) ∙ v

pub loop-i-preserved : goal.loop-i-preserved
loop-i-preserved c =
    let v = c.loop-i.invariant in
    sym (first_pass _ _ _ (omega arith) (rw (c.has.ensures, c.key_of.ensures) at c.if-has-key_of.false)) ∙ v

pub returns : goal.returns
returns c = sym (first_end _ _ _ c.loop-i-test.false) ∙ c.loop-i.invariant
