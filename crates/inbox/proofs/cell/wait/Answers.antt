-- Each answer of the code is the definition's, by the tests that led to it. Assumes nothing.
use mathlib.Core.Path.{refl, sym, ◌∙◌}
use native.Mathlib.Omega.{arith}
use Rattle.inbox.specs.Cells.{place_at, free_place}
use Rattle.inbox.proofs.Search.{found_is, found_not}
use Rattle.inbox.proofs.Steps.{await_longer, await_shorter, await_free, await_full}
use Rattle.inbox.proofs.cell.wait.Goals as goal

pub returns-then-from-piece : goal.returns-then-from-piece
returns-then-from-piece c =
    let a = c.args in
    let i = found_is _ c.in-Some.i c.in-Some.ensures in
    let n = c.from.ensures in
    c.store_at.ensures ∙ sym (await_longer a.cell a.bytes.now a.piece.offset a.piece.bytes.now c.in-Some.i i.0 i.1 (omega arith))

pub returns-in-Some : goal.returns-in-Some
returns-in-Some c =
    let a = c.args in
    let i = found_is _ c.in-Some.i c.in-Some.ensures in
    let n = c.from.ensures in
    sym (await_shorter a.cell a.bytes.now a.piece.offset a.piece.bytes.now c.in-Some.i i.0 i.1 (omega arith))

pub returns-in-Some-free_place : goal.returns-in-Some-free_place
returns-in-Some-free_place c =
    let a = c.args in
    let j = found_is _ c.in-Some-free_place.j c.in-Some-free_place.ensures in
    c.store_at-in-Some-free_place.ensures
    ∙ sym (await_free a.cell a.bytes.now a.piece.offset a.piece.bytes.now (place_at a.cell a.piece.offset) c.in-Some-free_place.j refl (found_not _ c.in_default.ensures) j.0 j.1)

pub returns : goal.returns
returns c =
    let a = c.args in
    sym (await_full a.cell a.bytes.now a.piece.offset a.piece.bytes.now (place_at a.cell a.piece.offset) (free_place a.cell) refl (found_not _ c.in_default.ensures) refl (found_not _ c.in_default-free_place.ensures))
