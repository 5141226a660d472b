-- The invariant: the first k bytes stand, and zeros behind them. Assumes nothing.
use mathlib.Core.Path.{◌≡◌}
use mathlib.Core.List.{◌++◌}
use Prim.Native.Nat.{◌-◌}
use lib.ListN.{replicate}
use Rattle.queue.specs.Queues.{bytes_from}
use Rattle.queue.proofs.bytes_from.Given as goal

abbrev pub invariant-loop-k : goal.invariant-loop-k
invariant-loop-k l = (l.p ≡ bytes_from l.queue l.slot l.o l.k ++ replicate (255 - l.k) 0)
