-- The code's stores are the definition's. Assumes nothing.
use mathlib.Core.List.{List}
use mathlib.Core.Path.{ap}
use Prim.Native.Nat.{ℕ}
use lib.ListN.{length}
use Rattle.inbox.specs.Cells.{held, store}
use Rattle.inbox.proofs.Steps.{stored}
use Rattle.inbox.proofs.cell.store_at.Goals as goal

pub returns : goal.returns
unfolding store
returns c =
    let a = c.args in
    ap (λ (x : List ℕ). held (stored a.cell a.k a.piece.offset (length a.piece.bytes.now)) x) c.copy_in.ensures
