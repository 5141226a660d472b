-- `level::total_lt` meets its contract. Assumes nothing.
use Rattle.level.specs.Order.{total_lt}
use Rattle.level.proofs.total_lt.Goals as goal

pub returns : goal.returns
unfolding total_lt
returns c = rw (c.is_negative.ensures, c.is_negative-2.ensures)
