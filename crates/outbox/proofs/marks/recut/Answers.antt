use mathlib.Core.Path.{◌∙◌}
use Prim.Native.Nat.{◌+◌}
use native.Mathlib.Omega.{arith}
use lib.ListN.{get_or, drop, length-set}
use Rattle.outbox.specs.Marks as M
use Rattle.outbox.proofs.Walk.{walk_turn, walk_end}
use Rattle.outbox.proofs.Said as P
use Rattle.outbox.proofs.marks.recut.Goals as goal

pub loop-i-preserved : goal.loop-i-preserved
loop-i-preserved c =
    let a = c.args in
    let l = c.loop-i in
    let v = c.recut_mark in
    let s = c.kind-s in
    let k = c.width-k in (
      length-set l.marks l.i v.result ∙ l.invariant.0,
      k.ensures.1,
      walk_turn (M.recut_marks a.max l.s l.k) (M.recut_marks a.max s.result k.result) l.marks l.i v.result (omega arith)
          (P.recut_step a.max l.s l.k (get_or l.marks l.i 0) v.result s.result k.result (drop (l.i + 1) l.marks) v.ensures s.ensures k.ensures.0)
          ∙ l.invariant.2,
    )

pub returns : goal.returns
returns c =
    let a = c.args in
    let l = c.loop-i in
    walk_end (M.recut_marks a.max l.s l.k) l.marks l.i (omega arith) (P.recut_none a.max l.s l.k) ∙ l.invariant.2
