-- Assumes nothing.
use Rattle.station.specs.Shows.{entry_of}
use Rattle.station.proofs.show.roster_entry.Goals as goal

pub returns : goal.returns
unfolding entry_of
returns c = rw (c.level_for.ensures, c.is_member.ensures, c.member_at-m.ensures)
