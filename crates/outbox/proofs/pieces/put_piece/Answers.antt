-- The frame's words are the piece's. Assumes nothing.
use mathlib.Core.Path.{ap, ◌∙◌}
use mathlib.Core.List.{List}
use Prim.Native.Nat.{ℕ, ◌-◌}
use native.Mathlib.Nat.{mod-eq_of_lt}
use lib.ListN.{length, take, drop}
use Rattle.words.specs.Words.{least}
use Rattle.out.specs.Encode.{frame_words}
use Rattle.out.proofs.Laws.{writes_as}
use Rattle.inbox.proofs.Parts.{part_all}
use Rattle.outbox.specs.Bursts.{msg_field}
use Rattle.outbox.proofs.Passes as P
use Rattle.outbox.proofs.pieces.put_piece.Goals as goal

pub returns : goal.returns
returns c =
    let a = c.args in
    let f = c.msg_field-field in
    let p = c.frame in
    let t : List ℕ = take (length a.whole.now - a.off) (drop a.off a.whole.now) in
    writes_as p.ensures
    (ap (λ (x : ℕ). frame_words 0 x (take (least a.len 255) t)) (mod-eq_of_lt f.ensures.1 ∙ f.ensures.0)
    ∙ ap (λ (x : List ℕ). frame_words 0 (msg_field a.seq a.off) (take (least a.len 255) x)) (part_all a.whole.now a.off)
    ∙ ap (λ (x : List ℕ). frame_words 0 (msg_field a.seq a.off) x) (P.take_short a.len (drop a.off a.whole.now)))
