use mathlib.Core.Path.{sym, ◌∙◌}
use native.Mathlib.Omega.{arith}
use borrow.Author.Tests.{le-leb, lt-leb}
use Rattle.inbox.specs.Cells.{end_at}
use Rattle.inbox.proofs.Search.{seek_turn_here, seek_turn_on, seek_end, found_some, found_none}
use borrow.Author.Rules.{rules}
use Rattle.inbox.proofs.cell.free_place.Invariants.{ends}
use Rattle.inbox.proofs.cell.free_place.Goals as goal

pub returns-then-end_of-joined : goal.returns-then-end_of-joined
returns-then-end_of-joined c =
    let a = c.args in
    let l = c.loop-k in
    found_some _ l.k
    (sym l.invariant.1 ∙ seek_turn_here (ends a.cell) 16 l.k (search rules) (le-leb (end_at a.cell l.k) a.cell.joined (omega arith))) (search rules)

pub loop-k-preserved : goal.loop-k-preserved
loop-k-preserved c =
    let a = c.args in
    let l = c.loop-k in
    (l.invariant.0, sym (seek_turn_on (ends a.cell) 16 l.k (search rules) (lt-leb (end_at a.cell l.k) a.cell.joined (omega arith))) ∙ l.invariant.1)

pub returns : goal.returns
returns c =
    let a = c.args in
    let l = c.loop-k in
    let e = sym (seek_end (ends a.cell) 16 l.k (omega arith)) ∙ l.invariant.1 in
    found_none _ (omega arith)
