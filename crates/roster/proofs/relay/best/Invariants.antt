-- Assumes nothing.
use Rattle.bits.specs.Loop.{fold}
use mathlib.Core.Path.{◌≡◌}
use mathlib.Core.Bool.{Bool}
use Prim.Native.Nat.{◌-◌}
use denote.Param.{number}
use Rattle.roster.specs.contracts.relay.best.{LAST-type}
use Rattle.roster.specs.Relays.{picked_slot, best_step, best_of}
use Rattle.roster.proofs.relay.best.Given as goal

abbrev pub invariant-loop-i : goal.invariant-loop-i
invariant-loop-i g l =
    let last : Bool = LAST-type (number g.row.LAST) in
    picked_slot (fold (best_step last l.hears l.able l.a l.floor) (62 - l.i) l.i l.p) ≡ best_of last l.hears l.able l.a l.floor
