use mathlib.Core.Path.{◌∙◌}
use Prim.Native.Nat.{◌+◌}
use native.Mathlib.Omega.{arith}
use lib.ListN.{get_or, drop}
use Rattle.outbox.specs.Marks as M
use Rattle.outbox.proofs.Walk.{walk_turn, walk_end}
use Rattle.outbox.proofs.Said as P
use Rattle.outbox.proofs.marks.stale.Goals as goal

pub loop-m-preserved : goal.loop-m-preserved
loop-m-preserved c =
    let l = c.loop-m in
    let n = c.stale_mark.result in
    walk_turn M.stale_marks M.stale_marks l.marks l.m-index n (omega arith) (P.stale_step (get_or l.marks l.m-index 0) n (drop (l.m-index + 1) l.marks) c.stale_mark.ensures) ∙ l.invariant

pub returns : goal.returns
returns c =
    let l = c.loop-m in
    walk_end M.stale_marks l.marks l.m-index (omega arith) P.stale_none ∙ l.invariant
