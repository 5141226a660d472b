-- Assumes nothing.
use borrow.Author.Tests.{lt-ltb, le-ltb}
use Rattle.roster.specs.Relays.{heard_at}
use Rattle.roster.proofs.relay.heard_at.Goals as goal

pub returns-then-r-ge62 : goal.returns-then-r-ge62
unfolding heard_at
returns-then-r-ge62 c = rw (le-ltb _ _ c.if-r-ge62.true)

pub returns-then-a-ge62 : goal.returns-then-a-ge62
unfolding heard_at
returns-then-a-ge62 c = rw (lt-ltb _ _ c.if-r-ge62.false, le-ltb _ _ c.if-a-ge62.true)

pub returns : goal.returns
unfolding heard_at
returns c = rw (lt-ltb _ _ c.if-r-ge62.false, lt-ltb _ _ c.if-a-ge62.false, c.from.ensures, c.from-2.ensures)
