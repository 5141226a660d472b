-- Assumes nothing.
use mathlib.Core.Path.{◌≡◌}
use Prim.Native.Nat.{◌-◌}
use Rattle.bits.specs.Loop.{fold}
use Rattle.signoff.specs.SignOff.{bereave_at, bereave_all}
use Rattle.signoff.proofs.bereave_all.Given as goal

abbrev pub invariant-loop-i : goal.invariant-loop-i
invariant-loop-i l = fold (bereave_at l.slot) (62 - l.i) l.i l.s ≡ bereave_all l.slot l.initial.s
