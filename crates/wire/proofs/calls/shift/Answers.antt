-- `wire::calls::shift` meets its contract. Assumes nothing.
use mathlib.Core.Path.{◌∙◌}
use Rattle.wire.proofs.Packed.{shifted_not, shifted_space}
use Rattle.wire.proofs.calls.shift.Goals as goal

pub returns-then-c-eq32 : goal.returns-then-c-eq32
returns-then-c-eq32 c = c.rotate_left.ensures.after ∙ shifted_space c.args.c.now c.told-c c.if-c-eq32.true

pub returns-else-c-eq32 : goal.returns-else-c-eq32
returns-else-c-eq32 c = shifted_not c.args.c.now c.told-c c.if-c-eq32.false
