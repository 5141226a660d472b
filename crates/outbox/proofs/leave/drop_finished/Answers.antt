use mathlib.Core.Path.{refl, sym, ◌∙◌}
use native.Mathlib.Omega.{arith}
use Rattle.outbox.specs.Outbox as O
use Rattle.outbox.specs.Senders as S
use Rattle.outbox.proofs.Places as L
use Rattle.outbox.proofs.Leaving as leaving
use borrow.Author.Rules.{rules}
use Rattle.outbox.proofs.leave.drop_finished.Goals as goal

pub loop-i-init : goal.loop-i-init
loop-i-init c = let a = c.args in (search rules, refl, refl, refl, c.requires.0, c.requires.1, L.msgs_begin a.s.now a.bytes.now a.marks.now (O.retain O.unfinished) (S.count_of a.s.now))

pub loop-i-preserved-then-unfinished_at : goal.loop-i-preserved-then-unfinished_at
loop-i-preserved-then-unfinished_at c =
    let l = c.loop-i in
    let i = l.invariant in
    let n = c.count_of.ensures in
    let f = c.loop-i-test.true in
    (omega arith, i.1, i.2, i.3, i.4, i.5, leaving.keep_turn O.unfinished l.s l.bytes l.marks l.i (omega arith) (sym (c.unfinished_at.ensures l.bytes (omega arith)) ∙ c.if-unfinished_at.true) ∙ i.6)

pub loop-i-preserved : goal.loop-i-preserved
loop-i-preserved c =
    let l = c.loop-i in
    let i = l.invariant in
    let n = c.count_of.ensures in
    let f = c.loop-i-test.true in
    let k = c.drop_at in
    let d = leaving.dropped_count O.unfinished l.s l.bytes l.marks l.i (omega arith) k.ensures in (
      omega arith,
      k.ensures.next ∙ i.1,
      k.auto.bytes ∙ i.2,
      k.auto.marks ∙ i.3,
      i.4,
      i.5,
      leaving.drop_turn O.unfinished l.s l.bytes l.marks l.i (omega arith) k.ensures (sym (c.unfinished_at.ensures l.bytes (omega arith)) ∙ c.if-unfinished_at.false) ∙ i.6,
    )

pub returns : goal.returns
returns c =
    let a = c.args in
    let l = c.loop-i in
    let i = l.invariant in
    let n = c.count_of in
    let e = n.ensures in
    let f = c.loop-i-test.false in
    (L.msgs_end l.s l.bytes l.marks (O.retain O.unfinished) (S.count_of l.s) l.i (omega arith) (leaving.retain_none O.unfinished) ∙ i.6, i.1)
