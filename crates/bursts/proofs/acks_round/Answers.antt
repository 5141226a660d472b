-- Assumes nothing.
use mathlib.Core.Path.{refl}
use Rattle.out.proofs.Laws.{writes_then, writes_as}
use Rattle.bursts.specs.Bursts.{acks_burst}
use Rattle.bursts.proofs.acks_round.Goals as goal

pub returns : goal.returns
unfolding acks_burst
returns c = (
  refl,
  writes_as (writes_then c.head.ensures (writes_then c.chunks.ensures c.chunks-2.ensures))
      (rw (c.floor_if-lev.ensures, c.least_reach.ensures, c.as_slice.ensures.value, c.as_slice-2.ensures.value, c.ack_rows-acks.ensures, c.tree_rows-tree.ensures, c.minus-strays.ensures, c.either.ensures, c.either-all.ensures, c.both-moved.ensures, c.both-known.ensures, c.members-members.ensures)),
)
