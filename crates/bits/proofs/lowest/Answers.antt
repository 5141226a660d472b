-- Assumes nothing.
use mathlib.Core.Path.{sym}
use native.Mathlib.Omega.{arith}
use Rattle.bits.specs.Mask.{lowest_bit}
use Rattle.bits.proofs.Bits.{trailing_below, trailing_at}
use Rattle.bits.proofs.Laws.{true_has, false_has}
use Rattle.bits.proofs.Loops.{first_at, first_none}
use Rattle.bits.proofs.lowest.Goals as goal

pub returns-then-t-lt64 : goal.returns-then-t-lt64
unfolding lowest_bit
returns-then-t-lt64 c = sym (first_at _ _ _ c.if-t-lt64.true (λ j l. false_has _ _ (trailing_below 64 _ _ l)) (true_has _ _ (trailing_at 64 _ c.if-t-lt64.true)))

pub returns-else-t-lt64 : goal.returns-else-t-lt64
unfolding lowest_bit
returns-else-t-lt64 c = let h = c.if-t-lt64.false in sym (first_none _ _ (λ j l. false_has _ _ (trailing_below 64 _ _ (omega arith))))
