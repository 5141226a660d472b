-- Assumes nothing.
use mathlib.Core.Path.{sym, ◌∙◌}
use native.Mathlib.Omega.{arith}
use Rattle.bits.proofs.Bits.{sub_le}
use Rattle.bits.proofs.Laws.{has_high, without_gone, without_there, has_true}
use Rattle.bits.proofs.without.Goals as goal

pub returns-then-i-ge64 : goal.returns-then-i-ge64
returns-then-i-ge64 c = sym (without_gone _ _ (has_high _ _ (omega arith) c.if-i-ge64.true))

pub overflow_sub-result : goal.overflow_sub-result
overflow_sub-result c =
    let e = has_true _ _ (sym c.has.ensures ∙ c.if-has.true) in
    omega (arith, sub_le _ _ e, c.power.ensures)

pub returns-then-has : goal.returns-then-has
returns-then-has c = rw c.power.ensures (sym (without_there _ _ (sym c.has.ensures ∙ c.if-has.true)))

pub returns : goal.returns
returns c = sym (without_gone _ _ (sym c.has.ensures ∙ c.if-has.false))
