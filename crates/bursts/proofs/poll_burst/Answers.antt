-- Assumes nothing.
use Rattle.out.proofs.Laws.{writes_as}
use Rattle.bursts.specs.Bursts.{poll_burst}
use Rattle.bursts.proofs.poll_burst.Goals as goal

pub returns-then-here : goal.returns-then-here
unfolding poll_burst
returns-then-here c = writes_as c.tiny.ensures (rw (c.poll_extra.ensures, c.poll_level-lev.ensures, c.level_for-cap.ensures, c.poll_kind-kind.ensures, c.if-here.true))

pub returns : goal.returns
unfolding poll_burst
returns c = writes_as c.tiny-2.ensures (rw (c.poll_extra-2.ensures, c.poll_kind-kind.ensures, c.if-here.false))
