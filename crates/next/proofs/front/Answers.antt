-- Assumes nothing.
use Rattle.std.proofs.Common.{arith, sym, ◌∙◌}
use Rattle.bits.specs.Mask.{has_bit, lowest_bit}
use Rattle.bits.proofs.Loops.{first_lt}
use Rattle.next.proofs.front.Goals as goal

pub overflow_cast-result : goal.overflow_cast-result
unfolding lowest_bit
overflow_cast-result c = omega (arith, first_lt (has_bit c.args.list) 64 c.in_ok-slot.slot (sym c.lowest.ensures ∙ c.in_ok-slot.was))
