-- Assumes nothing.
use Rattle.std.proofs.Common.{sym}
use Rattle.bits.proofs.Lists.{cond_true}
use Rattle.bursts.proofs.Saying.{does_as}
use Rattle.next.specs.Code.Decision.{rerouting_of}
use Rattle.next.proofs.Calls.{does_none, moved_said, round_drawn}
use Rattle.next.proofs.rerouting.Goals as goal

pub returns-then-r-time : goal.returns-then-r-time
unfolding rerouting_of
returns-then-r-time c = does_as (does_none _ _) (sym (cond_true _ _ _ c.if-r-time.true))

pub returns-then-t-ne0 : goal.returns-then-t-ne0
returns-then-t-ne0 c = moved_said c.args.s c.args.time c.if-r-time.false c.reroute-t.ensures c.if-t-ne0.true c.acks_burst.ensures

pub returns : goal.returns
returns c = round_drawn c.args.s c.args.time c.if-r-time.false c.reroute-t.ensures c.if-t-ne0.false c.new_round.ensures
