-- Assumes nothing.
use mathlib.Core.Path.{sym, ap, ◌∙◌}
use Prim.Native.Nat.{ℕ}
use Rattle.bits.proofs.Lists.{cond_true, cond_false}
use Rattle.std.specs.Prelude.{Some}
use Rattle.logs.specs.Steps as steps
use Rattle.logs.proofs.begins.Goals as goal

pub returns-then-has : goal.returns-then-has
unfolding steps.begins
returns-then-has c = let a = c.args in ap (λ (k : ℕ). Some (steps.watch a.s.left k (Some a.x) 1 0)) c.without.ensures ∙ sym (cond_true _ _ _ (sym c.has.ensures ∙ c.if-has.true))

pub returns : goal.returns
unfolding steps.begins
returns c = sym (cond_false _ _ _ (sym c.has.ensures ∙ c.if-has.false))
