use mathlib.Core.Path.{◌≡◌, sym, ap, ◌∙◌}
use Prim.Native.Nat.{ℕ, ◌-◌}
use native.Mathlib.Omega.{arith}
use lib.ListN.{length}
use lib.Dec.{ltb}
use borrow.Author.Tests.{le-ltb}
use Rattle.bits.proofs.Lists.{cond_false}
use Rattle.outbox.specs.Outbox as O
use Rattle.outbox.specs.Senders as S
use Rattle.outbox.proofs.Sending as W
use Rattle.std.specs.Prelude.{Ok}
use Rattle.outbox.proofs.sender.pending.Goals as goal

pub loop-i-preserved : goal.loop-i-preserved
loop-i-preserved c =
    let s = c.args.s in
    let m = c.args.marks.now in
    let l = c.loop-i in
    let n = c.count_of-n.result in
    let i = l.invariant in
    let p = c.pending_at-sum in
    let e = p.ensures in
    (i.0, i.1, omega arith, i.3, λ bytes r. (let t = W.pending_step s bytes m r n l.i (omega arith) i.1 in let v = i.4 bytes r in omega arith))

pub returns : goal.returns
returns c =
    let s = c.args.s in
    let m = c.args.marks.now in
    let l = c.loop-i in
    let n = c.count_of-n.result in
    let i = l.invariant in
    λ bytes r.
    (let t = W.pending_end s bytes m r n l.i (omega arith) in
    let v = i.4 bytes r in
    let q : l.sum ≡ O.pending_in (S.msgs s bytes m n 0) = omega arith in
    ap Ok (q ∙ ap (λ (k : ℕ). O.pending_in (S.msgs s bytes m k 0)) i.0) ∙ sym (cond_false (ltb (length m) 16384) _ _ (le-ltb _ _ i.3)))
