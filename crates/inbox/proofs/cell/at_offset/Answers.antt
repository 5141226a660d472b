use mathlib.Core.Path.{sym, ◌∙◌}
use native.Mathlib.Omega.{arith}
use borrow.Author.Tests.{eq-eqb, ne_eqb}
use Rattle.inbox.proofs.Search.{seek_turn_here, seek_turn_on, seek_end, found_some, found_none}
use borrow.Author.Rules.{rules}
use Rattle.inbox.proofs.cell.at_offset.Invariants.{starts}
use Rattle.inbox.proofs.cell.at_offset.Goals as goal

pub returns-then-cell-k : goal.returns-then-cell-k
returns-then-cell-k c =
    let a = c.args in
    let l = c.loop-k in
    found_some _ l.k (sym l.invariant ∙ seek_turn_here (starts a.cell a.offset) 16 l.k (search rules) (eq-eqb _ _ c.if-cell-k.true)) (search rules)

pub loop-k-preserved : goal.loop-k-preserved
loop-k-preserved c =
    let a = c.args in
    let l = c.loop-k in
    sym (seek_turn_on (starts a.cell a.offset) 16 l.k (search rules) (ne_eqb _ _ c.if-cell-k.false)) ∙ l.invariant

pub returns : goal.returns
returns c =
    let a = c.args in
    let l = c.loop-k in
    let e = sym (seek_end (starts a.cell a.offset) 16 l.k (omega arith)) ∙ l.invariant in
    found_none _ (omega arith)
