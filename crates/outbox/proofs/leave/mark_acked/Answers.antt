use mathlib.Core.Path.{refl, sym, ap, ◌∙◌, subst}
use mathlib.Core.List.{List}
use Prim.Native.Nat.{ℕ, ◌≤◌}
use native.Mathlib.Omega.{arith}
use lib.ListN.{length}
use Rattle.outbox.specs.Outbox as O
use Rattle.outbox.specs.Marks as M
use Rattle.outbox.specs.Senders as S
use Rattle.outbox.proofs.Places as L
use Rattle.outbox.proofs.Acts as A
use Rattle.outbox.proofs.Turns as T
use Rattle.outbox.proofs.Leaving as leaving
use Rattle.outbox.proofs.leave.mark_acked.Goals as goal

pub loop-i-init : goal.loop-i-init
loop-i-init c =
    let n = c.count_of-n in
    let a = c.args in
    (n.ensures.0, n.ensures.1, c.requires, refl, λ bytes. L.msgs_begin a.s bytes a.marks.now (O.acked a.seq a.off) n.result)

pub returns-then-s-i : goal.returns-then-s-i
returns-then-s-i c =
    let a = c.args in
    let l = c.loop-i in
    let i = l.invariant in
    let k = c.ack_at in
    let r : 16384 ≤ length l.marks = subst (λ (x : List ℕ). 16384 ≤ length x) (sym i.3) i.2 in
    λ bytes. ap (λ (x : ℕ). S.msgs a.s bytes k.new.marks x 0) (sym i.0) ∙ leaving.acked_at a.s bytes l.marks a.seq a.off c.count_of-n.result l.i (omega arith) i.1 k.new.marks r c.if-s-i.true k.ensures
    ∙ i.4 bytes ∙ ap (λ (x : ℕ). O.acked a.seq a.off (S.msgs a.s bytes a.marks.now x 0)) i.0

pub loop-i-preserved : goal.loop-i-preserved
loop-i-preserved c =
    let a = c.args in
    let l = c.loop-i in
    let i = l.invariant in
    (i.0, i.1, i.2, i.3, λ bytes. leaving.acked_pass a.s bytes l.marks a.seq a.off c.count_of-n.result l.i (omega arith) i.1 c.if-s-i.false ∙ i.4 bytes)

pub returns : goal.returns
returns c =
    let a = c.args in
    let l = c.loop-i in
    let i = l.invariant in
    λ bytes. ap (λ (x : ℕ). S.msgs a.s bytes l.marks x 0) (sym i.0) ∙ L.msgs_end a.s bytes l.marks (O.acked a.seq a.off) c.count_of-n.result l.i (omega arith) (leaving.acked_none a.seq a.off) ∙ i.4 bytes
    ∙ ap (λ (x : ℕ). O.acked a.seq a.off (S.msgs a.s bytes a.marks.now x 0)) i.0
