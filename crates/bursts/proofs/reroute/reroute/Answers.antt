-- Assumes nothing.
use mathlib.Core.Path.{sym, ap, ◌∙◌}
use Rattle.net.specs.declared.Station.{Station}
use Rattle.bursts.specs.Reroute.{leaves_of, reroute_of}
use Rattle.bursts.proofs.Saying.{does_as, does_then}
use Rattle.bursts.proofs.Moves.{move_none, move_after}
use Rattle.bursts.proofs.reroute.reroute.Goals as goal

pub returns-then-leaves-eq0 : goal.returns-then-leaves-eq0
unfolding reroute_of
returns-then-leaves-eq0 c =
    let p = c.promote-t.ensures in
    does_as p (sym (move_none _ (ap (λ (t : Station). leaves_of t) (sym p.station) ∙ sym c.leaves_of-leaves.ensures ∙ c.if-leaves-eq0.true)))

pub returns : goal.returns
unfolding reroute_of
returns c =
    let p = c.promote-t.ensures in
    does_as (does_then p c.move_leaves.ensures) (move_after _ _ p.station)
