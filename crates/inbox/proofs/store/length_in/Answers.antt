-- The two bytes read are the cell's first two. Assumes nothing.
use native.Mathlib.Omega.{arith}
use Prim.Native.Nat.{◌+◌, ◌*◌}
use Rattle.inbox.proofs.Parts.{announced_in}
use Rattle.inbox.proofs.store.length_in.Goals as goal

pub returns : goal.returns
returns c =
    let a = c.args in
    let low = c.from in
    let high = c.from-2 in
    let l = c.type_inv.store (6400 * a.c) in
    let h = c.type_inv.store (6400 * a.c + 1) in
    (announced_in a.store.now a.c low.result high.result low.ensures high.ensures, omega arith)
