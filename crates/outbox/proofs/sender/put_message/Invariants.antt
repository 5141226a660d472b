-- The loop's invariant: the first k bytes are written. Assumes nothing.
use mathlib.Core.Path.{◌≡◌}
use lib.ListN.{length}
use lib.Seq.{paste}
use Rattle.inbox.specs.Messages.{framed}
use Rattle.outbox.proofs.sender.put_message.Given as goal

abbrev pub invariant-loop-k : goal.invariant-loop-k
invariant-loop-k l = (l.bytes ≡ paste l.initial.bytes l.at (framed l.body) l.k) × (length l.bytes ≡ length l.initial.bytes)
