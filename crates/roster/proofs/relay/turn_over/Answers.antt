-- Assumes nothing.
use Rattle.roster.specs.Relays.{turn_over}
use Rattle.roster.proofs.relay.turn_over.Goals as goal

pub returns-then-w-m : goal.returns-then-w-m
unfolding turn_over
returns-then-w-m c = rw (← c.bitmap-marks.ensures, c.if-w-m.true)

pub returns : goal.returns
unfolding turn_over
returns c = rw (← c.bitmap-marks.ensures, c.if-w-m.false, c.tried_with.ensures)
