-- Item 3 reads turns off what the calls return. The answers `over` and `drew` of the definitions of a decision and a reception, of which that is made, are in no contract:
-- `TurnsMatch`, the last definition, ties them to the station that the contracts decide.
use Rattle.std.specs.Prelude.{ℕ, ◌≡◌, List, [], ◌∷◌, length}
use Rattle.net.specs.declared.Station.{Station}
use Rattle.net.specs.declared.Turn.{Turn}
use Rattle.net.specs.declared.Turn.TheVariants.{Idle, Sending, Waiting}
use Rattle.config.specs.declared.Given.{Given}
use Rattle.station.specs.Entries.{start_refusal}
use Rattle.promise.specs.Promise.{Call, after, started, TurnEvent, trace, View, empty_view, view}

-- the view behind these events
abbrev pub views : View → List TurnEvent → View
views v [] = v
views v (e ∷ es) = views (view v e) es

-- the slot whose reply the station waits for, if it does
abbrev pub awaited : Turn → List ℕ
awaited Idle = []
awaited Sending = []
awaited (Waiting r) = r.slot ∷ []

-- after any calls from a start a turn runs in the trace's view exactly when the station waits for that slot's reply
abbrev pub TurnsMatch : Type 0
TurnsMatch =
    (s : Station) (g : Given) (store : List ℕ) → start_refusal g (length store) ≡ 0 → (cs : List Call)
    → (views empty_view (trace cs (started s g store))).run ≡ awaited (after cs (started s g store)).station.wait.turn
