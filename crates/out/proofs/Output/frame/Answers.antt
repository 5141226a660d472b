-- `out::Output::frame` meets its contract: two words, and then the payload's. Assumes nothing.
use mathlib.Core.Path.{ap, ◌∙◌}
use Prim.Native.Nat.{ℕ}
use lib.ListN.{length}
use Rattle.words.specs.Words.{least}
use Rattle.out.proofs.Pack.{frame_done}
use Rattle.out.proofs.Output.frame.Goals as goal

pub returns : goal.returns
returns c =
    let a = c.args in
    let k = c.least in
    let m = c.least-m in
    rw (← c.from.ensures) (frame_done c.from.result _ a.n m.result a.p.now (m.ensures ∙ ap (λ (x : ℕ). least x (length a.p.now)) k.ensures)
    c.word.ensures c.word-2.ensures c.payload.ensures)
