-- Assumes nothing.
use mathlib.Core.Path.{◌≡◌, ap, ◌∙◌}
use Prim.Native.Nat.{ℕ, ◌+◌, ◌*◌, ◌-◌}
use native.Mathlib.Omega.{arith}
use lib.ListN.{take, drop}
use Rattle.inbox.specs.Cells.{held}
use Rattle.inbox.specs.Messages.{shows_of}
use Rattle.inbox.proofs.store.shows_in.Goals as goal

pub returns : goal.returns
returns c =
    let a = c.args in
    let q : 6400 * a.c + 6400 - 6400 * a.c ≡ 6400 = omega arith in
    c.shows.ensures ∙ ap (λ (n : ℕ). shows_of (held a.cell (take n (drop (6400 * a.c) a.store.now))) a.piece.offset a.piece.bytes.now) q
