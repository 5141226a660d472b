-- `wire::snr_from_q` meets its contract. Assumes nothing.
use mathlib.Core.Path.{ap, sym, ◌∙◌}
use borrow.Author.Tests.{eq-eqb, ne_eqb}
use Rattle.level.specs.declared.Level.TheVariants.{Decibels}
use Rattle.wire.proofs.Field.{snr_unheard, snr_heard}
use Rattle.wire.proofs.snr_from_q.Goals as goal

pub returns-then-q-eq-UNHEARD : goal.returns-then-q-eq-UNHEARD
returns-then-q-eq-UNHEARD c = sym (snr_unheard _ (eq-eqb _ _ c.if-q-eq-UNHEARD.true))

pub returns : goal.returns
returns c = ap Decibels c.field_db.ensures ∙ sym (snr_heard _ (ne_eqb _ _ c.if-q-eq-UNHEARD.false))
