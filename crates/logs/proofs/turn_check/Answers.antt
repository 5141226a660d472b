-- Assumes nothing.
use mathlib.Core.Path.{sym, ap, ◌∙◌}
use Rattle.bits.proofs.Lists.{cond_true, cond_false}
use Rattle.std.specs.Prelude.{Ok}
use Rattle.logs.specs.Turns.{verdict_of}
use Rattle.logs.proofs.turn_check.Goals as goal

pub returns-then-not-sendings_ok : goal.returns-then-not-sendings_ok
unfolding verdict_of
returns-then-not-sendings_ok c = sym (cond_false _ _ _ (sym c.sendings_ok.ensures ∙ c.if-not-sendings_ok.true))

pub returns-then-not-marks_ok : goal.returns-then-not-marks_ok
unfolding verdict_of
returns-then-not-marks_ok c = sym (cond_true _ _ _ (sym c.sendings_ok.ensures ∙ c.if-not-sendings_ok.false) ∙ cond_false _ _ _ (sym c.marks_ok.ensures ∙ c.if-not-marks_ok.true))

pub returns : goal.returns
unfolding verdict_of
returns c =
    ap Ok c.turns_ok.ensures ∙ sym (cond_true _ _ _ (sym c.sendings_ok.ensures ∙ c.if-not-sendings_ok.false) ∙ cond_true _ _ _ (sym c.marks_ok.ensures ∙ c.if-not-marks_ok.false))
