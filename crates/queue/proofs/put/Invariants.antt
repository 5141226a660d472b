-- The invariant: the bytes from k on are still to be written. Assumes nothing.
use mathlib.Core.Path.{◌≡◌}
use Prim.Native.Nat.{◌+◌}
use lib.ListN.{length, drop}
use Rattle.inbox.specs.Messages.{framed}
use Rattle.queue.specs.Queues.{put_bytes}
use Rattle.queue.proofs.put.Given as goal

abbrev pub invariant-loop-k : goal.invariant-loop-k
invariant-loop-k l = (length l.queue ≡ length l.initial.queue) × (put_bytes l.queue l.slot (l.o + l.k) (drop l.k (framed l.message)) ≡ put_bytes l.initial.queue l.slot l.o (framed l.message))
