use Prim.Native.Nat.{◌≤◌}
use native.Mathlib.Omega.{arith}
use lib.ListN.{length}
use Rattle.outbox.proofs.Passes as P
use Rattle.outbox.proofs.pieces.sweep.Goals as goal

pub loop-i-init : goal.loop-i-init
loop-i-init c = let a = c.args in P.sweeping_start a.mark a.seq a.whole.now a.o.now a.room a.marks.now

pub loop-i-preserved : goal.loop-i-preserved
loop-i-preserved c =
    let a = c.args in
    let l = c.loop-i in
    let s = c.sweep_at-left in
    P.sweeping_turn a.mark a.seq a.whole.now a.o.now a.room a.marks.now c.requires.1 (omega (arith, l.invariant.same_marks)) l.invariant s.ensures.words s.ensures.left s.ensures.marks

pub returns : goal.returns
returns c =
    let a = c.args in
    let l = c.loop-i in
    let h : length a.marks.now ≤ l.i = omega (arith, l.invariant.same_marks) in record {
      words = P.swept_words a.mark a.seq a.whole.now a.o.now a.room a.marks.now h l.invariant;
      left = P.swept_left a.mark a.seq a.whole.now a.o.now a.room a.marks.now h l.invariant;
      marks = P.swept_marks a.mark a.seq a.whole.now a.o.now a.room a.marks.now h l.invariant;
    }
