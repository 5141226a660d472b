-- Assumes nothing.
use mathlib.Core.Path.{sym, ◌∙◌}
use native.Mathlib.Omega.{arith}
use Rattle.bits.proofs.Bits.{add_fits}
use Rattle.bits.proofs.Laws.{with_high, with_there, with_new, has_false}
use Rattle.bits.proofs.with.Goals as goal

pub returns-then-i-ge64 : goal.returns-then-i-ge64
returns-then-i-ge64 c = sym (with_high _ _ c.if-i-ge64.true)

pub returns-then-has : goal.returns-then-has
returns-then-has c = sym (with_there _ _ (sym c.has.ensures ∙ c.if-has.true))

pub overflow_add-result : goal.overflow_add-result
overflow_add-result c =
    let a = c.args in
    let e = has_false _ _ (sym c.has.ensures ∙ c.if-has.false) in
    omega (arith, add_fits 64 a.mask a.i (omega arith) (omega arith) e, c.power.ensures)

pub returns : goal.returns
returns c =
    let e = sym c.has.ensures ∙ c.if-has.false in
    rw c.power.ensures (sym (with_new _ _ c.if-i-ge64.false e))
