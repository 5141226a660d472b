-- Assumes nothing.
use mathlib.Core.Path.{sym, ap, ◌∙◌}
use Prim.Native.Nat.{ℕ, ◌+◌, ◌*◌, ◌-◌}
use native.Mathlib.Omega.{arith}
use lib.Dec.{ltb}
use lib.ListN.{get_or}
use Rattle.inbox.proofs.Search.{found_is, found_not}
use Rattle.inbox.proofs.Claims.{shows_alone, next_starts, shows_waiting}
use Rattle.inbox.proofs.cell.shows_next.Goals as goal

pub returns-in_default : goal.returns-in_default
returns-in_default c =
    let a = c.args in
    let p = c.requires in
    sym (shows_alone a.cell a.bytes.now a.first p.1 p.0 (found_not _ c.in_default.ensures))

pub overflow_sub-start : goal.overflow_sub-start
overflow_sub-start c =
    let a = c.args in
    let p = c.requires in
    let n = found_is _ c.in-Some.k c.in-Some.ensures in
    let s = c.from-start.ensures in
    let l = next_starts a.cell a.bytes.now a.first p.1 p.0 c.in-Some.k n.0 n.1 in
    omega arith

pub returns : goal.returns
returns c =
    let a = c.args in
    let p = c.requires in
    let k = c.in-Some.k in
    let n = found_is _ k c.in-Some.ensures in
    let s = c.from-start.ensures in
    c.is_over.ensures
    ∙ ap (λ (i : ℕ). ltb 2046 (a.first + 256 * get_or a.bytes.now (2048 + 256 * k + (1 - i)) 0)) s
    ∙ sym (shows_waiting a.cell a.bytes.now a.first p.1 p.0 k n.0 n.1)
