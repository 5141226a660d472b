-- Assumes nothing.
use borrow.Author.Tests.{eq-eqb, ne_eqb}
use mathlib.Core.Path.{◌∙◌}
use Rattle.rx.specs.Code.Ending.{ending_by}
use Rattle.rx.proofs.ending.ending_of.Goals as goal

pub returns-then-h-eq-K_IDLE : goal.returns-then-h-eq-K_IDLE
unfolding ending_by
returns-then-h-eq-K_IDLE c = rw (eq-eqb _ _ c.if-h-eq-TINY.true, eq-eqb _ _ c.if-h-eq-K_IDLE.true) (c.idle_ending.ensures ∙ rw c.awaited_by-a.ensures)

pub returns-then-h-eq-TINY : goal.returns-then-h-eq-TINY
unfolding ending_by
returns-then-h-eq-TINY c = rw (eq-eqb _ _ c.if-h-eq-TINY.true, ne_eqb _ _ c.if-h-eq-K_IDLE.false) c.no_ending.ensures

pub returns-in-Some : goal.returns-in-Some
unfolding ending_by
returns-in-Some c = rw (ne_eqb _ _ c.if-h-eq-TINY.false, ← c.awaited_by-a.ensures, c.in-Some.is) c.replied.ensures

pub returns-in-None : goal.returns-in-None
unfolding ending_by
returns-in-None c = rw (ne_eqb _ _ c.if-h-eq-TINY.false, ← c.awaited_by-a.ensures, c.in-None.is) c.no_ending-in-None.ensures
