-- Assumes nothing.
use Rattle.out.proofs.Laws.{writes_then, writes_none}
use Rattle.frames.proofs.pieces.landed_events.Goals as goal

pub returns-then-not-is_some : goal.returns-then-not-is_some
returns-then-not-is_some c = rw (← c.is_some.ensures, c.if-not-is_some.true) (writes_none _)

pub returns-in-Some : goal.returns-in-Some
returns-in-Some c =
    rw (← c.is_some.ensures, c.if-not-is_some.false, c.in-Some.is)
    (writes_then (rw c.from-slot.ensures at c.event.ensures) (rw c.from-slot.ensures at c.message.ensures))
