use mathlib.Core.Path.{refl, ap, ◌∙◌}
use mathlib.Core.List.{List}
use Prim.Native.Nat.{ℕ}
use native.Mathlib.Omega.{arith}
use lib.ListN.{set}
use Rattle.queue.specs.Queues.{bytes_from}
use Rattle.queue.proofs.Laws.{bytes_next}
use Rattle.queue.proofs.bytes_from.Goals as goal

pub loop-k-init : goal.loop-k-init
unfolding bytes_from
loop-k-init c = refl

pub loop-k-preserved : goal.loop-k-preserved
loop-k-preserved c =
    let a = c.args in
    ap (λ (p : List ℕ). set p c.loop-k.k c.byte_at.result) c.loop-k.invariant ∙ rw c.byte_at.ensures (bytes_next a.queue.now a.slot a.o c.loop-k.k 255 (omega arith))
