-- Assumes nothing.
use mathlib.Core.Path.{◌≡◌}
use Prim.Native.Nat.{◌-◌}
use Rattle.admit.specs.Admission.{leads_to}
use Rattle.admit.proofs.leads_to.Given as goal

abbrev pub invariant-loop : goal.invariant-loop
invariant-loop l = leads_to (62 - l.counter) l.s l.at l.to ≡ leads_to 62 l.s l.from l.to
