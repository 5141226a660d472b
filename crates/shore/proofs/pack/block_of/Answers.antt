-- Assumes nothing.
use Rattle.shore.specs.Blocks.{boat_of, line_of, block_of}
use Rattle.shore.proofs.pack.block_of.Goals as goal

pub returns : goal.returns
unfolding block_of
returns c =
    rw (
      c.each-queues.ensures line_of (λ x y e. e),
      c.each-members.ensures boat_of (λ x y e. e),
      c.course_of.ensures,
      c.await_of.ensures,
      c.setup_of.ensures,
    )
