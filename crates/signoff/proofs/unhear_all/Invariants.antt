-- Assumes nothing.
use mathlib.Core.Path.{◌≡◌}
use Prim.Native.Nat.{◌<◌, ◌-◌}
use Rattle.bits.specs.Loop.{fold}
use Rattle.net.specs.State.{with_hears}
use Rattle.signoff.specs.SignOff.{unhear_at, unhear_all}
use Rattle.signoff.proofs.unhear_all.Given as goal

abbrev pub invariant-loop-i : goal.invariant-loop-i
invariant-loop-i l = (l.a ≡ l.slot) × (l.slot < 62) × (with_hears l.s (fold (unhear_at l.slot) (62 - l.i) l.i l.s.hears) ≡ with_hears l.initial.s (unhear_all l.slot l.initial.s.hears))
