-- Assumes nothing.
use mathlib.Core.Path.{sym, ap, ◌∙◌}
use native.Mathlib.Omega.{arith}
use Rattle.bits.proofs.Lists.{cond_true, cond_false}
use Rattle.words.proofs.Laws.{from_all}
use Rattle.logs.specs.Reading.{head_part, frame_part}
use Rattle.logs.proofs.Parts.{part_end, part_cons}
use Rattle.logs.proofs.part_at.Goals as goal

pub returns-in_default : goal.returns-in_default
returns-in_default c = let a = c.args in sym (part_end a.words.now 0 a.room (omega arith))

pub returns-then-is_mark : goal.returns-then-is_mark
returns-then-is_mark c = let a = c.args in sym (part_cons a.words.now 0 a.room (omega arith) ∙ cond_true _ _ _ (sym c.is_mark.ensures ∙ c.if-is_mark.true))

pub returns-then-head_ok : goal.returns-then-head_ok
returns-then-head_ok c = let a = c.args in c.head_part.ensures ∙ ap head_part (from_all a.words.now 1) ∙ sym (part_cons a.words.now 0 a.room (omega arith) ∙ cond_false _ _ _ (sym c.is_mark.ensures ∙ c.if-is_mark.false) ∙ cond_true _ _ _ (sym c.head_ok.ensures ∙ c.if-head_ok.true))

pub returns : goal.returns
returns c = let a = c.args in c.frame_part.ensures ∙ ap (frame_part a.room) c.item_at.ensures ∙ sym (part_cons a.words.now 0 a.room (omega arith) ∙ cond_false _ _ _ (sym c.is_mark.ensures ∙ c.if-is_mark.false) ∙ cond_false _ _ _ (sym c.head_ok.ensures ∙ c.if-head_ok.false))
