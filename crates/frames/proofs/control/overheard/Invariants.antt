-- The invariant: the entries from e on are left of what is done. Assumes nothing.
use mathlib.Core.List.{[]}
use Prim.Native.Nat.{◌≤◌, ◌-◌}
use Rattle.net.specs.Net.{said}
use Rattle.frames.specs.Control.{payload_of, each_entry, overheard_entry}
use Rattle.frames.proofs.Entries.{Going}
use Rattle.frames.proofs.control.overheard.Given as goal

abbrev pub invariant-loop-e : goal.invariant-loop-e
invariant-loop-e l =
    (l.e ≤ 264) × Going (overheard_entry l.a (payload_of l.p) l.slot l.via) 8 l.p.len (each_entry (overheard_entry l.a (payload_of l.p) l.slot l.via) 8 l.p.len 32 1 (said l.initial.s [])) l.initial.o l.e l.s l.o

abbrev pub decreases-loop-e : goal.decreases-loop-e
decreases-loop-e l = 264 - l.e
