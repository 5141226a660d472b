-- Each answer of the code is the definition's, by the tests that led to it. Assumes nothing.
use mathlib.Core.List.{List}
use mathlib.Core.Path.{sym, ap, ◌∙◌}
use Prim.Native.Nat.{ℕ, ◌+◌}
use native.Mathlib.Omega.{arith}
use lib.ListN.{length}
use Rattle.inbox.specs.Cells.{held, settle}
use Rattle.inbox.proofs.Steps.{grown_to, accept_old, accept_empty, accept_wait, join_step}
use borrow.Author.Rules.{rules}
use Rattle.inbox.proofs.cell.join.Goals as goal

pub returns-then-end-joined : goal.returns-then-end-joined
returns-then-end-joined c =
    let a = c.args in
    let j = c.from-joined.ensures in
    let s = c.from-start.ensures in
    sym (accept_old a.cell a.bytes.now a.piece.offset a.piece.bytes.now (omega arith))

pub returns-then-piece-eq0 : goal.returns-then-piece-eq0
returns-then-piece-eq0 c =
    let a = c.args in
    let j = c.from-joined.ensures in
    let s = c.from-start.ensures in
    sym (accept_empty a.cell a.bytes.now a.piece.offset a.piece.bytes.now (omega arith) c.if-piece-eq0.true)

pub returns-then-start-joined : goal.returns-then-start-joined
returns-then-start-joined c =
    let a = c.args in
    let j = c.from-joined in
    let s = c.from-start in
    let m = c.copy_in in
    let t = c.settle_all in
    t.ensures
    ∙ ap (λ (x : List ℕ). settle 2048 (held (grown_to a.cell (s.result + length a.piece.bytes.now)) x)) m.ensures
    ∙ sym (join_step a.cell a.bytes.now a.piece.offset a.piece.bytes.now j.result s.result j.ensures s.ensures (search rules) c.if-piece-eq0.false (search rules))

pub returns : goal.returns
returns c =
    let a = c.args in
    let j = c.from-joined.ensures in
    let s = c.from-start.ensures in
    let t = c.wait in
    t.ensures ∙ sym (accept_wait a.cell a.bytes.now a.piece.offset a.piece.bytes.now (omega arith) c.if-piece-eq0.false (omega arith))
