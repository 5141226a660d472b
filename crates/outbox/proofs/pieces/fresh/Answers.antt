use mathlib.Core.Path.{sym, ap, ◌∙◌}
use Prim.Native.Nat.{ℕ, ◌-◌}
use native.Mathlib.Omega.{arith}
use lib.ListN.{length}
use mathlib.Core.Bool.{false}
use Rattle.outbox.specs.Outbox.{cut_up}
use Rattle.outbox.proofs.Passes as P
use borrow.Author.Rules.{rules}
use Rattle.outbox.proofs.pieces.fresh.Goals as goal

pub loop-c-init : goal.loop-c-init
loop-c-init c = let a = c.args in P.cutting_start a.max a.seq a.whole.now a.o.now a.room a.cut a.marks.now c.requires.1

pub returns-then-left-eq0 : goal.returns-then-left-eq0
returns-then-left-eq0 c =
    let a = c.args in
    let l = c.loop-c in
    let z = ap (λ (k : ℕ). cut_up k a.max l.c (length a.whole.now) false) c.if-left-eq0.true ∙ P.cut_none a.max l.c (length a.whole.now) in record {
      words = P.cut_words a.max a.seq a.whole.now a.o.now a.room a.cut a.marks.now l.invariant z;
      left = sym c.if-left-eq0.true ∙ P.cut_left a.max a.seq a.whole.now a.o.now a.room a.cut a.marks.now l.invariant z;
      cut = (P.cut_reached a.max a.seq a.whole.now a.o.now a.room a.cut a.marks.now l.invariant z, l.invariant.within);
      marks = P.cut_marks a.max a.seq a.whole.now a.o.now a.room a.cut a.marks.now l.invariant z;
    }

pub loop-c-preserved : goal.loop-c-preserved
loop-c-preserved c =
    let a = c.args in
    let l = c.loop-c in
    let n = c.min-n in
    let z = c.if-left-eq0.false in
    let t = c.loop-c-test in
    P.cutting_turn a.max a.seq a.whole.now a.o.now a.room a.cut a.marks.now (search rules) (omega arith) c.requires.2 c.requires.0 l.invariant (n.ensures ∙ P.min_least (length a.whole.now - l.c) a.max) c.start.ensures c.put_piece.ensures

pub returns : goal.returns
returns c =
    let a = c.args in
    let l = c.loop-c in
    let z = P.cut_end l.left a.max l.c (length a.whole.now) (omega arith) in record {
      words = P.cut_words a.max a.seq a.whole.now a.o.now a.room a.cut a.marks.now l.invariant z;
      left = P.cut_left a.max a.seq a.whole.now a.o.now a.room a.cut a.marks.now l.invariant z;
      cut = (P.cut_reached a.max a.seq a.whole.now a.o.now a.room a.cut a.marks.now l.invariant z, l.invariant.within);
      marks = P.cut_marks a.max a.seq a.whole.now a.o.now a.room a.cut a.marks.now l.invariant z;
    }
