-- Assumes nothing.
use mathlib.Core.Path.{refl, sym}
use native.Mathlib.Omega.{arith}
use Rattle.bits.specs.Mask.{has_bit}
use Rattle.bits.proofs.Laws.{has_high}
use Rattle.bits.proofs.has.Goals as goal

pub returns-then-i-lt64 : goal.returns-then-i-lt64
unfolding has_bit
returns-then-i-lt64 c = refl

pub returns-else-i-lt64 : goal.returns-else-i-lt64
returns-else-i-lt64 c = sym (has_high _ _ (omega arith) c.if-i-lt64.false)
