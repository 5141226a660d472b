-- The loop's invariant: what is done, with what is to be done, is the whole. Assumes nothing.
use mathlib.Core.Path.{◌≡◌}
use mathlib.Core.List.{◌++◌}
use Prim.Native.Nat.{◌-◌, ◌≤◌}
use lib.ListN.{length}
use lib.Dec.{eqb}
use Rattle.outbox.specs.Outbox as O
use Rattle.outbox.specs.Senders as S
use Rattle.outbox.proofs.Bursting as B
use Rattle.outbox.proofs.taking.sweep_all.Given as goal

abbrev pub invariant-loop-i : goal.invariant-loop-i
invariant-loop-i l = (l.n ≡ S.count_of l.s) × (l.n ≤ 8) × (16384 ≤ length l.initial.marks) × (length l.marks ≡ length l.initial.marks) × (S.msgs l.s l.bytes l.marks l.i 0 ++ O.sweep (eqb l.mark 2) l.left (S.msgs l.s l.bytes l.marks (l.n - l.i) l.i) ≡ O.sweep (eqb l.mark 2) l.initial.left (S.msgs l.s l.bytes l.initial.marks l.n 0)) × B.Passing (O.sweep_out (eqb l.mark 2) l.initial.left (S.msgs l.s l.bytes l.initial.marks l.n 0)) l.initial.o l.initial.left l.o l.left (O.sweep_out (eqb l.mark 2) l.left (S.msgs l.s l.bytes l.marks (l.n - l.i) l.i))
