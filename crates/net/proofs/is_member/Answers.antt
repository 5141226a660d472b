-- Assumes nothing.
use Rattle.net.specs.Net.{is_member}
use Rattle.net.proofs.is_member.Goals as goal

pub returns : goal.returns
unfolding is_member
returns c = rw (c.has.ensures, c.from.ensures)
