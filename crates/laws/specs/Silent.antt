-- Silent boats, those at or above the miss limit. The station keeps their number as a running value, `totals.silent`, moved with every missed count; here they
-- are counted over the whole roster, and `SilentCounted`, the last definition, says that the two are equal after any calls from a start.
use Rattle.std.specs.Prelude.{ℕ, zero, suc, ◌+◌, ◌≡◌, Bool, cond, ◌&&◌, List, length}
use Rattle.roster.specs.Members.{silent_at}
use Rattle.net.specs.declared.Station.{Station}
use Rattle.net.specs.State.{member_at}
use Rattle.net.specs.Net.{is_member}
use Rattle.config.specs.declared.Given.{Given}
use Rattle.station.specs.Entries.{start_refusal}
use Rattle.promise.specs.Promise.{Call, after, started}

-- how many slots below n pass the test
unfoldable pub count_below : (ℕ → Bool) → ℕ → ℕ
count_below p zero = 0
count_below p (suc n) = count_below p n + cond (p n) 1 0

-- the slot has a boat, and it is silent
abbrev pub is_silent : Station → ℕ → Bool
is_silent s i = is_member s.used i && silent_at s.settings.misslimit (member_at s i)

-- the full count over the roster
abbrev pub silent_count : Station → ℕ
silent_count s = count_below (is_silent s) 62

-- from a start that is not refused, after any calls
abbrev pub SilentCounted : Type 0
SilentCounted =
    (s : Station) (g : Given) (store : List ℕ) → start_refusal g (length store) ≡ 0 → (cs : List Call)
    → (after cs (started s g store)).station.totals.silent ≡ silent_count (after cs (started s g store)).station
