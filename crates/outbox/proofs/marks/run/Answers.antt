use mathlib.Core.Path.{ap, ◌∙◌}
use Prim.Native.Nat.{◌+◌}
use native.Mathlib.Omega.{arith}
use lib.ListN.{get_or, drop}
use Rattle.outbox.specs.Marks as M
use Rattle.outbox.proofs.Walk.{drop_here, drop_end}
use Rattle.outbox.proofs.Said as P
use borrow.Author.Tests.{ne_eqb}
use borrow.Author.Rules.{rules}
use Rattle.outbox.proofs.marks.run.Goals as goal

pub returns-then-marks-k-ne-ON : goal.returns-then-marks-k-ne-ON
returns-then-marks-k-ne-ON c =
    let a = c.args in
    let l = c.loop-k in
    let e = ap M.run (drop_here a.marks.now l.k (search rules)) ∙ P.run_stops (get_or a.marks.now l.k 0) (drop (l.k + 1) a.marks.now) (ne_eqb _ _ c.if-marks-k-ne-ON.true) in
    let w = l.invariant in
    (omega arith, omega arith)

pub loop-k-preserved : goal.loop-k-preserved
loop-k-preserved c =
    let a = c.args in
    let l = c.loop-k in
    let e = ap M.run (drop_here a.marks.now l.k (search rules)) ∙ P.run_on (get_or a.marks.now l.k 0) (drop (l.k + 1) a.marks.now) c.if-marks-k-ne-ON.false in
    let w = l.invariant in
    omega arith

pub returns : goal.returns
returns c =
    let a = c.args in
    let l = c.loop-k in
    let e = ap M.run (drop_end a.marks.now l.k (search rules)) ∙ P.run_none in
    let w = l.invariant in
    (omega arith, omega arith)
