-- Assumes nothing.
use mathlib.Core.Path.{◌≡◌, refl, sym, ap, ◌∙◌}
use Prim.Native.Nat.{ℕ, ◌+◌, ◌*◌, ◌-◌}
use native.Mathlib.Omega.{arith}
use lib.Dec.{ltb}
use lib.ListN.{get_or}
use Rattle.inbox.proofs.Claims.{shows_two, shows_old, shows_wait, shows_here}
use Rattle.inbox.proofs.cell.shows.Goals as goal

pub returns-then-joined-ge2 : goal.returns-then-joined-ge2
returns-then-joined-ge2 c =
    let a = c.args in
    let j = c.from-joined.ensures in
    c.is_over.ensures ∙ sym (shows_two a.cell a.bytes.now a.piece.offset a.piece.bytes.now (omega arith) (omega arith))

pub returns-then-joined-start : goal.returns-then-joined-start
returns-then-joined-start c =
    let a = c.args in
    let j = c.from-joined.ensures in
    let s = c.from-start.ensures in
    sym (shows_wait a.cell a.bytes.now a.piece.offset a.piece.bytes.now (omega arith) (omega arith))

pub returns-then-end-joined : goal.returns-then-end-joined
returns-then-end-joined c =
    let a = c.args in
    let j = c.from-joined.ensures in
    let s = c.from-start.ensures in
    sym (shows_old a.cell a.bytes.now a.piece.offset a.piece.bytes.now (omega arith) (omega arith))

pub returns-then-joined-eq1 : goal.returns-then-joined-eq1
returns-then-joined-eq1 c =
    let a = c.args in
    let j = c.from-joined.ensures in
    let s = c.from-start.ensures in
    let x = get_or a.bytes.now 0 0 in
    c.is_over-then-joined-eq1.ensures
    ∙ ap (λ (i : ℕ). ltb 2046 (x + 256 * get_or a.piece.bytes.now (1 - i) 0)) s
    ∙ sym
    (shows_here a.cell a.bytes.now a.piece.offset a.piece.bytes.now (omega arith) (omega arith) (omega arith) (omega arith) x
    (λ z. refl) (λ z. absurd (omega arith)))

pub returns : goal.returns
returns c =
    let a = c.args in
    let j = c.from-joined.ensures in
    let s = c.from-start.ensures in
    let x = get_or a.piece.bytes.now 0 0 in
    let z : 1 ≡ 1 - a.piece.offset = omega arith in
    c.is_over-2.ensures
    ∙ ap (λ (i : ℕ). ltb 2046 (x + 256 * get_or a.piece.bytes.now i 0)) z
    ∙ sym
    (shows_here a.cell a.bytes.now a.piece.offset a.piece.bytes.now (omega arith) (omega arith) (omega arith) (omega arith) x
    (λ y. absurd (omega arith)) (λ y. refl))
