use mathlib.Core.Path.{sym, ap, ◌∙◌}
use Prim.Native.Nat.{ℕ, ◌-◌}
use native.Mathlib.Omega.{arith}
use Rattle.outbox.specs.Outbox as O
use Rattle.outbox.specs.Senders as S
use Rattle.outbox.proofs.Sending as W
use Rattle.outbox.proofs.sender.has_new.Goals as goal

pub returns-then-cut-total : goal.returns-then-cut-total
returns-then-cut-total c =
    let s = c.args.s in
    let l = c.loop-i in
    let n = c.count_of-n.result in
    let i = l.invariant in
    let x = c.cut.ensures in
    let y = c.total.ensures in
    let t = c.if-cut-total.true in
    λ bytes marks r. sym (W.new_here s bytes marks r n l.i (omega arith) i.1 (omega arith)) ∙ i.2 bytes marks r ∙ ap (λ (k : ℕ). O.any_new (S.msgs s bytes marks k 0)) i.0

pub loop-i-preserved : goal.loop-i-preserved
loop-i-preserved c =
    let s = c.args.s in
    let l = c.loop-i in
    let n = c.count_of-n.result in
    let i = l.invariant in
    let x = c.cut.ensures in
    let y = c.total.ensures in
    let t = c.if-cut-total.false in
    (i.0, i.1, λ bytes marks r. sym (W.new_on s bytes marks r n l.i (omega arith) i.1 (omega arith)) ∙ i.2 bytes marks r)

pub returns : goal.returns
returns c =
    let s = c.args.s in
    let l = c.loop-i in
    let n = c.count_of-n.result in
    let i = l.invariant in
    λ bytes marks r. sym (W.new_none s bytes marks r n l.i (omega arith)) ∙ i.2 bytes marks r ∙ ap (λ (k : ℕ). O.any_new (S.msgs s bytes marks k 0)) i.0
