-- Assumes nothing.
use Rattle.next.specs.Next.{list_for}
use Rattle.next.proofs.new_round.Goals as goal

pub returns : goal.returns
unfolding list_for
returns c = rw (c.draw-list.ensures, c.one_more-rounds.ensures, c.next_round-q.ensures)
