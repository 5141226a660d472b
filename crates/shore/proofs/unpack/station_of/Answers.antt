-- Assumes nothing.
use Rattle.shore.specs.Blocks.{member_of, queue_of, station_of}
use Rattle.shore.proofs.unpack.station_of.Goals as goal

pub returns : goal.returns
unfolding station_of
returns c =
    rw (
      c.each-queues.ensures queue_of (λ x y e. e),
      c.each-members.ensures member_of (λ x y e. e),
      c.round_of.ensures,
      c.wait_of.ensures,
      c.settings_of.ensures,
    )
