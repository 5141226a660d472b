-- The invariant: the pairs from e on are left. Assumes nothing.
use Prim.Native.Nat.{◌≤◌, ◌-◌}
use Rattle.frames.specs.Control.{payload_of, hear_pair, hear_pairs}
use Rattle.frames.proofs.Entries.{Rest}
use Rattle.frames.proofs.control.report_hears.Given as goal

abbrev pub invariant-loop-e : goal.invariant-loop-e
invariant-loop-e l =
    (l.e ≤ 258) × Rest (hear_pair (payload_of l.p) l.slot) 2 l.p.len (hear_pairs l.p.len (payload_of l.p) l.slot l.initial.hears) l.e l.hears

abbrev pub decreases-loop-e : goal.decreases-loop-e
decreases-loop-e l = 258 - l.e
