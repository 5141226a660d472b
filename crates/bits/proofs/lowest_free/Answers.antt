-- Assumes nothing.
use mathlib.Core.Path.{sym}
use native.Mathlib.Omega.{arith}
use Prim.Native.Nat.{◌-◌, ◌^◌}
use lib.Count.{trailing_le}
use Rattle.bits.specs.Mask.{lowest_free}
use Rattle.bits.proofs.Laws.{free_below, free_next}
use Rattle.bits.proofs.Loops.{first_at, first_none}
use Rattle.bits.proofs.lowest_free.Goals as goal

pub returns-then-slot-count : goal.returns-then-slot-count
unfolding lowest_free
returns-then-slot-count c =
    let h = c.if-slot-count.true in
    sym
    (first_at _ _ _ h (λ j l. free_below _ j (omega arith) (omega (arith, trailing_le 64 (2 ^ 64 - 1 - c.args.mask))) l) (free_next _ (omega arith)))

pub returns-else-slot-count : goal.returns-else-slot-count
unfolding lowest_free
returns-else-slot-count c =
    let h = c.if-slot-count.false in
    sym (first_none _ _ (λ j l. free_below _ j (omega arith) (omega (arith, trailing_le 64 (2 ^ 64 - 1 - c.args.mask))) (omega arith)))
