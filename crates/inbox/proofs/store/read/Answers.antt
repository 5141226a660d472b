-- The part of the store that is handed out is the cell's part after its two bytes. Assumes nothing.
use mathlib.Core.Path.{◌≡◌, ap, ◌∙◌}
use Prim.Native.Nat.{ℕ, ◌+◌, ◌-◌, ◌*◌}
use native.Mathlib.Omega.{arith}
use lib.ListN.{take, drop}
use Rattle.inbox.proofs.Parts.{message_short, message_long}
use borrow.Author.Rules.{rules}
use Rattle.inbox.proofs.store.read.Goals as goal

pub returns-then-n-le-BODY_ROOM : goal.returns-then-n-le-BODY_ROOM
returns-then-n-le-BODY_ROOM c =
    let a = c.args in
    let n = c.length_in-n in
    let q : 6400 * a.c + 2 + n.result - (6400 * a.c + 2) ≡ n.result = omega arith in
    ap (λ (x : ℕ). take x (drop (6400 * a.c + 2) a.store.now)) q
    ∙ message_short a.store.now a.c n.result n.ensures.0 (search rules)

pub returns : goal.returns
returns c =
    let a = c.args in
    let n = c.length_in-n in
    let q : 6400 * a.c + 2 + 2046 - (6400 * a.c + 2) ≡ 2046 = omega arith in
    ap (λ (x : ℕ). take x (drop (6400 * a.c + 2) a.store.now)) q
    ∙ message_long a.store.now a.c n.result n.ensures.0 (search rules)
