-- Assumes nothing.
use Rattle.station.specs.Shows.{hears_of}
use Rattle.station.proofs.show.hears.Goals as goal

pub returns-then-is_member-q : goal.returns-then-is_member-q
unfolding hears_of
returns-then-is_member-q c = rw (c.snr_from_q.ensures, ← c.is_member-2.ensures, ← c.is_member.ensures, ← c.heard_at-q.ensures, c.if-is_member-q.true)

pub returns : goal.returns
unfolding hears_of
returns c = rw (← c.is_member-2.ensures, ← c.is_member.ensures, ← c.heard_at-q.ensures, c.if-is_member-q.false)
