-- The invariant: the first i messages are there. Assumes nothing.
use mathlib.Core.Path.{◌≡◌}
use Prim.Native.Nat.{ℕ, ◌<◌}
use lib.ListN.{length, get_or}
use Rattle.outbox.specs.Senders.{no_message}
use Rattle.shore.proofs.Arrays.{three}
use Rattle.shore.proofs.sending.sender_of.Given as goal

abbrev pub invariant-loop-i : goal.invariant-loop-i
invariant-loop-i l = (length l.messages ≡ 8) × ((j : ℕ) → j < l.i → get_or l.messages j no_message ≡ three l.o.seqs l.o.totals l.o.cuts j)
