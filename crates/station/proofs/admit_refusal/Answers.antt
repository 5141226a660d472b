-- Assumes nothing.
use borrow.Author.Tests.{lt-ltb, le-ltb}
use Rattle.station.specs.Entries.{admit_refusal}
use Rattle.station.proofs.admit_refusal.Goals as goal

pub returns-then-room-lt8192 : goal.returns-then-room-lt8192
unfolding admit_refusal
returns-then-room-lt8192 c = rw (lt-ltb _ _ c.if-room-lt8192.true)

pub returns-then-not-clock_ok : goal.returns-then-not-clock_ok
unfolding admit_refusal
returns-then-not-clock_ok c = rw (le-ltb _ _ c.if-room-lt8192.false, ← c.clock_ok.ensures, c.if-not-clock_ok.true)

pub returns : goal.returns
unfolding admit_refusal
returns c = rw (le-ltb _ _ c.if-room-lt8192.false, ← c.clock_ok.ensures, c.if-not-clock_ok.false, c.relay_refusal.ensures, c.full_refusal.ensures)
