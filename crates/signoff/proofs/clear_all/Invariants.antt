-- Assumes nothing.
use mathlib.Core.Path.{◌≡◌}
use Prim.Native.Nat.{◌-◌}
use Rattle.bits.specs.Loop.{fold}
use Rattle.net.specs.State.{with_table, table_of}
use Rattle.signoff.specs.SignOff.{clear_at, clear_all}
use Rattle.signoff.proofs.clear_all.Given as goal

abbrev pub invariant-loop-c : goal.invariant-loop-c
invariant-loop-c l = with_table l.s (fold (clear_at l.slot) (64 - l.c) l.c (table_of l.s)) ≡ with_table l.initial.s (clear_all l.slot (table_of l.initial.s))
