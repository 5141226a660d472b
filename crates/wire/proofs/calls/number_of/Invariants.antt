-- The number of the characters read and of those that follow is the call's. Assumes nothing.
use mathlib.Core.Path.{◌≡◌}
use Prim.Native.Nat.{◌^◌, ◌<◌}
use lib.ListN.{drop}
use Rattle.wire.specs.Call.{number}
use Rattle.wire.proofs.calls.number_of.Given as goal

abbrev pub invariant-loop-c : goal.invariant-loop-c
invariant-loop-c l = record { fits : l.v < 38 ^ l.c-index; rest : number (drop l.c-index l.c-items) l.v ≡ number l.c-items 0 }
