-- When a received list is sent, by what the code tests. Assumes nothing.
use mathlib.Core.Path.{◌≡◌, ap}
use mathlib.Core.Bool.{Bool, not, ◌||◌}
use lib.Dec.{eqb}
use lib.ListN.{length}
use Rattle.net.specs.declared.Station.{Station}
use Rattle.bursts.specs.Rows.{list_rows, any_holes}
use Rattle.bursts.specs.Bursts.{list_sent}

pub sent_by_lem : (s : Station) (empty holes quiet : Bool) → empty ≡ eqb (length (list_rows s)) 0 → holes ≡ any_holes s → not (s.round.rxdirty || holes) || empty ≡ quiet → list_sent s ≡ not quiet
unfolding list_sent
sent_by_lem s empty holes quiet e h t = rw (← h, ← e) (ap not t)
