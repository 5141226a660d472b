-- Assumes nothing.
-- The invariant: the entries from e on are left of what is done. Assumes nothing.
use mathlib.Core.List.{[]}
use Prim.Native.Nat.{◌≤◌, ◌-◌}
use Rattle.net.specs.Net.{said}
use Rattle.frames.specs.Control.{payload_of, each_entry, kid_entry}
use Rattle.frames.proofs.Entries.{Going}
use Rattle.frames.proofs.control.kids.Given as goal

abbrev pub invariant-loop-e : goal.invariant-loop-e
invariant-loop-e l =
    (l.e ≤ 258) × Going (kid_entry l.a (payload_of l.p) l.slot) 2 l.p.len (each_entry (kid_entry l.a (payload_of l.p) l.slot) 2 l.p.len 128 1 (said l.initial.s [])) l.initial.o l.e l.s l.o

abbrev pub decreases-loop-e : goal.decreases-loop-e
decreases-loop-e l = 258 - l.e
