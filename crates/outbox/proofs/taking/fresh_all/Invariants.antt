-- The loop's invariant: what is done, with what is to be done, is the whole. Assumes nothing.
use mathlib.Core.Path.{◌≡◌}
use mathlib.Core.List.{◌++◌}
use Prim.Native.Nat.{◌-◌, ◌≤◌}
use lib.ListN.{length}
use Rattle.outbox.specs.Outbox as O
use Rattle.outbox.specs.Senders as S
use Rattle.outbox.proofs.Bursting as B
use Rattle.outbox.proofs.taking.fresh_all.Given as goal

abbrev pub invariant-loop-i : goal.invariant-loop-i
invariant-loop-i l = (l.n ≡ S.count_of l.initial.s) × (l.n ≤ 8) × (16384 ≤ length l.initial.marks) × (length l.marks ≡ length l.initial.marks) × (l.s.count ≡ l.initial.s.count) × (l.s.next ≡ l.initial.s.next) × (S.msgs l.s l.bytes l.marks l.i 0 ++ O.fresh l.max l.left (S.msgs l.s l.bytes l.marks (l.n - l.i) l.i) ≡ O.fresh l.max l.initial.left (S.msgs l.initial.s l.bytes l.initial.marks l.n 0)) × B.Passing (O.fresh_out l.max l.initial.left (S.msgs l.initial.s l.bytes l.initial.marks l.n 0)) l.initial.o l.initial.left l.o l.left (O.fresh_out l.max l.left (S.msgs l.s l.bytes l.marks (l.n - l.i) l.i))
