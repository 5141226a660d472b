-- The characters of what is left of the number, before those that stand. Assumes nothing.
use mathlib.Core.Path.{◌≡◌}
use mathlib.Core.List.{[]}
use lib.ListN.{length, drop}
use Rattle.wire.specs.Call.{chars}
use Rattle.wire.proofs.calls.chars_of.Given as goal

abbrev pub invariant-loop-k : goal.invariant-loop-k
invariant-loop-k l = record { seven : length l.c ≡ 7; rest : chars l.k l.v (drop l.k l.c) ≡ chars 7 l.fn.v [] }
