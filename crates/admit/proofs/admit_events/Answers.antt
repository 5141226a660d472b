-- Assumes nothing.
use borrow.Author.Tests.{eq-eqb, ne_eqb}
use Rattle.out.proofs.Laws.{writes_then}
use Rattle.admit.proofs.admit_events.Goals as goal
use Rattle.admit.proofs.admit_events.Goals.{then-via-ne-ALL, else-via-ne-ALL}

pub returns : goal.returns
returns c =
    let last = rw c.from-i.ensures at c.event-2.ensures in
    elim c.if-via-ne-ALL.branch [
      | then-via-ne-ALL w ↦ rw (ne_eqb _ _ w.if-via-ne-ALL.true) (writes_then (rw c.from-i.ensures at w.event.ensures) (rw w.o-is at last))
      | else-via-ne-ALL w ↦ rw (eq-eqb _ _ w.if-via-ne-ALL.false) (rw w.o-is at last)
    ]
