-- By cases. Assumes nothing.
use mathlib.Core.Path.{◌≡◌, sym, ap, ◌∙◌}
use Prim.Native.Nat.{ℕ, ◌+◌, ◌-◌, ◌*◌}
use native.Mathlib.Omega.{arith}
use lib.ListN.{take, drop}
use Rattle.outbox.specs.Outbox as O
use Rattle.outbox.specs.Marks as M
use Rattle.outbox.specs.Senders as S
use Rattle.outbox.proofs.Leaving as leaving
use borrow.Author.Rules.{rules}
use Rattle.outbox.proofs.leave.unfinished_at.Goals as goal

pub returns-then-cut-total : goal.returns-then-cut-total
returns-then-cut-total c =
    let a = c.args in
    let x = c.cut-cut.ensures in
    let y = c.total.ensures in
    let t = c.if-cut-total.true in
    λ bytes r. sym (leaving.open_new a.s bytes a.marks.now a.i (search rules) r (omega arith))

pub returns : goal.returns
returns c =
    let a = c.args in
    let x = c.cut-cut.ensures in
    let y = c.total.ensures in
    let t = c.if-cut-total.false in
    let z : 2048 * a.i + c.cut-cut.result - 2048 * a.i ≡ S.cut_of a.s a.i = omega arith in
    λ bytes r. c.any.ensures ∙ ap (λ (n : ℕ). O.some (M.pieces 0 (take n (drop (2048 * a.i) a.marks.now)))) z ∙ sym (leaving.open_some a.s bytes a.marks.now a.i (search rules) r (omega arith))
