-- Assumes nothing.
use mathlib.Core.Path.{sym}
use native.Mathlib.Omega.{arith}
use Rattle.bits.proofs.Stops.{stop_is, stop_at}
use Rattle.frames.proofs.pieces.stopped.Goals as goal

pub returns-then-n-le4294967295 : goal.returns-then-n-le4294967295
returns-then-n-le4294967295 c = sym (stop_is _ c.if-n-le4294967295.true)

pub returns-else-n-le4294967295 : goal.returns-else-n-le4294967295
returns-else-n-le4294967295 c = sym (stop_at _ (omega arith))
