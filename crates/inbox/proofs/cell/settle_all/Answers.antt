use mathlib.Core.List.{List}
use mathlib.Core.Path.{refl, sym, ap, ◌∙◌}
use Prim.Native.Nat.{ℕ, ◌-◌}
use native.Mathlib.Omega.{arith}
use borrow.Author.Tests.{le-ltb}
use Rattle.inbox.specs.Cells.{held, settle, next_place}
use Rattle.inbox.proofs.Search.{found_is, found_not}
use Rattle.inbox.proofs.Steps.{grown_to, goes_at, settle_turn, settle_stop}
use Rattle.inbox.proofs.cell.settle_all.Goals as goal

pub loop-k-init : goal.loop-k-init
loop-k-init c = (c.requires.0, refl, c.requires.1, (2048, omega arith, refl))

pub returns-in_default : goal.returns-in_default
returns-in_default c =
    let l = c.loop-k in
    sym (settle_stop l.invariant.3.0 (held l.c l.bytes) (le-ltb (next_place l.c) 16 (found_not _ c.in_default.ensures))) ∙ l.invariant.3.2

pub overflow_sub-joined : goal.overflow_sub-joined
overflow_sub-joined c =
    let l = c.loop-k in
    let p = c.in-Some in
    let q = found_is _ p.k p.ensures in
    let g = goes_at l.c p.k q.0 q.1 in
    omega arith

pub overflow_sub-end : goal.overflow_sub-end
overflow_sub-end c =
    let l = c.loop-k in
    let p = c.in-Some in
    let q = found_is _ p.k p.ensures in
    let g = goes_at l.c p.k q.0 q.1 in
    omega arith

pub move_down-requires : goal.move_down-requires
move_down-requires c =
    let l = c.loop-k in
    let p = c.in-Some in
    let q = found_is _ p.k p.ensures in
    let g = goes_at l.c p.k q.0 q.1 in
    omega arith

pub overflow_cast-c : goal.overflow_cast-c
overflow_cast-c c =
    let l = c.loop-k in
    let p = c.in-Some in
    let q = found_is _ p.k p.ensures in
    let g = goes_at l.c p.k q.0 q.1 in
    omega arith

pub loop-k-smaller : goal.loop-k-smaller
loop-k-smaller c =
    let l = c.loop-k in
    let p = c.in-Some in
    let q = found_is _ p.k p.ensures in
    let g = goes_at l.c p.k q.0 q.1 in
    omega arith

pub loop-k-preserved : goal.loop-k-preserved
loop-k-preserved c =
    let l = c.loop-k in
    let p = c.in-Some in
    let q = found_is _ p.k p.ensures in
    let g = goes_at l.c p.k q.0 q.1 in
    let a = c.args in
    let j = c.from-joined in
    let o = c.from-start in
    let t = c.end_of-end in
    let m = c.move_down in
    let n = l.invariant.3.0 in
    let h = l.invariant.3.1 in (
      omega arith,
      m.auto.bytes ∙ l.invariant.1,
      l.invariant.2,
      (
        l.invariant.3.0 - 1,
        omega arith,
        ap (λ (x : List ℕ). settle (l.invariant.3.0 - 1) (held (grown_to l.c t.result) x)) m.ensures
            ∙ sym (settle_turn l.c l.bytes p.k t.ensures.1 (omega arith) q.0 q.1 l.invariant.3.0 j.result o.result t.result (omega arith) j.ensures o.ensures t.ensures.0)
            ∙ l.invariant.3.2,
      ),
    )
