-- Airtime dues after calls from a start: `Balance`, the last definition, says that they add up.
use Rattle.std.specs.Prelude.{ℕ, ◌+◌, ◌≡◌, List, length, IsOkAnd}
use Rattle.net.specs.declared.Station.{Station}
use Rattle.config.specs.declared.Given.{Given}
use Rattle.station.specs.Entries.{start_refusal}
use Rattle.dues.specs.declared.Bill.{Bill}
use Rattle.dues.specs.Dues.{total, dues_refusal, dues_of}
use Rattle.promise.specs.Promise.{Call, after, started}

-- all charges are the credits standing on the lines and the takings together
abbrev pub Balanced : Bill → Type 0
Balanced b = total b.charges ≡ total b.credits + b.takings

-- from a start that is not refused, after any calls, for any figures that are not refused: there is a bill, and it adds up
abbrev pub Balance : Type 0
Balance =
    (s : Station) (g : Given) (store : List ℕ) → start_refusal g (length store) ≡ 0
    → (cs : List Call) (figures : List ℕ) → dues_refusal figures ≡ 0 → IsOkAnd (dues_of (after cs (started s g store)).station figures) Balanced
