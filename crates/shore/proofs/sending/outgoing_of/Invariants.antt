-- The invariant: of the first i messages the numbers are there. Assumes nothing.
use mathlib.Core.List.{List}
use mathlib.Core.Path.{◌≡◌}
use Prim.Native.Nat.{ℕ}
use lib.ListN.{length}
use Rattle.outbox.specs.declared.sender.Message.{Message}
use Rattle.outbox.specs.Senders.{no_message}
use Rattle.shore.proofs.Arrays.{Filled}
use Rattle.shore.proofs.sending.outgoing_of.Given as goal

abbrev pub seq : Message → ℕ
seq m = m.seq

abbrev pub total : Message → ℕ
total m = m.total

abbrev pub cut : Message → ℕ
cut m = m.cut

pub record Filling (ms : List Message) (qs ts cs : List ℕ) (i : ℕ) : Type 0 where
  pub eights : (length qs ≡ 8) × ((length ts ≡ 8) × (length cs ≡ 8))
  pub seqs : Filled seq no_message ms qs i
  pub totals : Filled total no_message ms ts i
  pub cuts : Filled cut no_message ms cs i

abbrev pub invariant-loop-i : goal.invariant-loop-i
invariant-loop-i l = Filling l.s.messages l.seqs l.totals l.cuts l.i
