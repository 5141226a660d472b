-- A closing changes the round alone, whether it is refused or not. Assumes nothing.
use mathlib.Core.Path.{◌≡◌, refl}
use mathlib.Core.Bool.{Bool, true, false, cond}
use mathlib.Core.List.{[]}
use Prim.Native.Nat.{ℕ}
use lib.Dec.{eqb}
use Rattle.net.specs.declared.Station.{Station}
use Rattle.net.specs.State.{with_round, with_closing}
use Rattle.script.specs.Actions.{rest_of}
use Rattle.station.specs.Entries.{Outcome, answered, close_of, close_refusal, done, refused}
use Rattle.driver.proofs.Session.close.Goals as goal

abbrev closed_by : Station → ℕ → Bool → Outcome
closed_by s n b = cond b (done (with_round s (with_closing s.round true n)) [] []) (refused (close_refusal n) s [])

round_alone : (s : Station) (n : ℕ) → with_round s (answered (close_of s n) 0).station.round ≡ (answered (close_of s n) 0).station
unfolding close_of
round_alone s n = go (eqb (close_refusal n) 0)
  where
    go : (b : Bool) → with_round s (closed_by s n b).station.round ≡ (closed_by s n b).station
    go true = refl
    go false = refl

pub returns : goal.returns
returns c = rw (c.close-r.ensures, c.rest_of.ensures) (round_alone c.args.u.now (rest_of c.args.w))
