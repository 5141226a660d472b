-- Assumes nothing.
use mathlib.Core.Path.{sym, ap, ◌∙◌}
use Prim.Native.Nat.{ℕ, ◌-◌}
use Rattle.bits.proofs.Lists.{cond_true, cond_false}
use Rattle.std.specs.Prelude.{Some}
use Rattle.logs.specs.Steps.{slot_step, marks}
use Rattle.logs.proofs.slot_step.Goals as goal

pub returns-then-not-slot_ok : goal.returns-then-not-slot_ok
unfolding slot_step
returns-then-not-slot_ok c = sym (cond_false _ _ _ (sym c.slot_ok.ensures ∙ c.if-not-slot_ok.true))

pub returns : goal.returns
unfolding slot_step
returns c = ap (λ (k : ℕ). Some (marks (c.args.m.left - 1) k)) c.with.ensures ∙ sym (cond_true _ _ _ (sym c.slot_ok.ensures ∙ c.if-not-slot_ok.false))
