-- Assumes nothing.
use Rattle.net.specs.Net.{new_station}
use Rattle.net.proofs.new.Goals as goal

pub returns : goal.returns
unfolding new_station
returns c =
    rw (c.empty-q.ensures, c.empty-none.ensures, c.no_totals-totals.ensures, c.first_round-round.ensures, c.empty_cell-c.ensures, c.new_member-m.ensures)
