-- Assumes nothing.
use mathlib.Core.Path.{sym, ap, ◌∙◌}
use Prim.Native.Nat.{ℕ, ◌+◌}
use borrow.Author.Tests.{lt-ltb, le-ltb}
use Rattle.bits.proofs.Lists.{cond_true, cond_false}
use Rattle.std.specs.Prelude.{Option, Some}
use Rattle.logs.specs.Steps as steps
use Rattle.logs.proofs.acked.Goals as goal

pub returns-then-not-runs : goal.returns-then-not-runs
unfolding steps.acked
returns-then-not-runs c = sym (cond_false _ _ _ (sym c.runs.ensures ∙ c.if-not-runs.true))

pub returns-then-s-ge4 : goal.returns-then-s-ge4
unfolding steps.acked
returns-then-s-ge4 c = sym (cond_true _ _ _ (sym c.runs.ensures ∙ c.if-not-runs.false) ∙ cond_false _ _ _ (le-ltb _ _ c.if-s-ge4.true))

pub returns : goal.returns
unfolding steps.acked
returns c = let s = c.args.s in ap (λ (k : Option ℕ). Some (steps.watch s.left s.due k s.polls (s.acks + 1))) c.slot_after.ensures ∙ sym (cond_true _ _ _ (sym c.runs.ensures ∙ c.if-not-runs.false) ∙ cond_true _ _ _ (lt-ltb _ _ c.if-s-ge4.false))
