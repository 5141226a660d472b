use mathlib.Core.Path.{◌≡◌, sym, ap, ◌∙◌}
use Prim.Native.Nat.{ℕ, ◌+◌}
use native.Mathlib.Omega.{arith}
use lib.ListN.{get_or, drop}
use Rattle.outbox.specs.Marks as M
use Rattle.outbox.proofs.Walk.{drop_here, drop_end}
use Rattle.outbox.proofs.Said as P
use borrow.Author.Rules.{rules}
use Rattle.outbox.proofs.marks.in_flight.Goals as goal

pub loop-m-preserved : goal.loop-m-preserved
loop-m-preserved c =
    let a = c.args in
    let l = c.loop-m in
    let k = c.kind-s in
    let o = c.one-n in
    let ms = drop (l.m-index + 1) a.marks.now in
    let m = get_or a.marks.now l.m-index 0 in
    let e : P.flight l.s l.m-index (drop l.m-index a.marks.now) ≡ o.result + P.flight k.result (l.m-index + 1) ms =
    ap (P.flight l.s l.m-index) (drop_here a.marks.now l.m-index (search rules)) ∙ P.flight_step l.s l.m-index m ms
    ∙ ap (λ (x : ℕ). M.one_of x + P.flight x (l.m-index + 1) ms) (sym k.ensures) ∙ ap (λ (x : ℕ). x + P.flight k.result (l.m-index + 1) ms) (sym o.ensures.0) in
    let w = l.invariant.1 in
    let h = o.ensures.1 in
    (omega arith, omega arith)

pub returns : goal.returns
returns c =
    let a = c.args in
    let l = c.loop-m in
    let e = ap (P.flight l.s l.m-index) (drop_end a.marks.now l.m-index (search rules)) ∙ P.flight_end l.s l.m-index in
    let w = l.invariant.1 in
    (omega arith, omega arith)
