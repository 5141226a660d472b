-- Assumes nothing.
use borrow.Author.Tests.{lt-ltb, le-ltb}
use Rattle.station.specs.Entries.{next_refusal}
use Rattle.station.proofs.next_refusal.Goals as goal

pub returns-then-room-lt8192 : goal.returns-then-room-lt8192
unfolding next_refusal
returns-then-room-lt8192 c = rw (lt-ltb _ _ c.if-room-lt8192.true)

pub returns-then-lent-lt126976 : goal.returns-then-lent-lt126976
unfolding next_refusal
returns-then-lent-lt126976 c = rw (le-ltb _ _ c.if-room-lt8192.false, lt-ltb _ _ c.if-lent-lt126976.true)

pub returns : goal.returns
unfolding next_refusal
returns c = rw (le-ltb _ _ c.if-room-lt8192.false, le-ltb _ _ c.if-lent-lt126976.false) c.clock_refusal.ensures
