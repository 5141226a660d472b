-- Assumes nothing.
use mathlib.Core.List.{[]}
use mathlib.Core.Path.{sym, ap, ◌∙◌}
use Prim.Native.Nat.{ℕ}
use native.Mathlib.Omega.{arith}
use Rattle.inbox.specs.Messages.{empty, shows_of}
use Rattle.inbox.proofs.Claims.{shows_empty, shows_begin}
use Rattle.inbox.proofs.cell.shows_first.Goals as goal

pub returns-then-piece-ne0 : goal.returns-then-piece-ne0
returns-then-piece-ne0 c = let a = c.args in sym (shows_empty a.piece.offset a.piece.bytes.now (λ z. absurd (c.if-piece-ne0.true z)))

pub returns-then-piece-lt2 : goal.returns-then-piece-lt2
returns-then-piece-lt2 c = let a = c.args in sym (shows_empty a.piece.offset a.piece.bytes.now (λ z. c.if-piece-lt2.true))

pub returns : goal.returns
returns c =
    let a = c.args in
    c.is_over.ensures
    ∙ sym (ap (λ (i : ℕ). shows_of (empty []) i a.piece.bytes.now) c.if-piece-ne0.false ∙ shows_begin a.piece.bytes.now (omega arith))
