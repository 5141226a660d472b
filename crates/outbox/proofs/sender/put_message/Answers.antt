use mathlib.Core.Path.{◌≡◌, refl, ap, ◌∙◌}
use mathlib.Core.List.{List}
use Prim.Native.Nat.{ℕ, ◌+◌}
use native.Mathlib.Omega.{arith}
use lib.ListN.{length, set, length-set}
use lib.Seq.{paste, paste-zero}
use Rattle.bits.proofs.Lists.{copy_turn}
use Rattle.inbox.specs.Messages.{framed}
use Rattle.outbox.proofs.sender.put_message.Goals as goal

pub loop-k-init : goal.loop-k-init
loop-k-init c = let a = c.args in (paste-zero a.bytes.now a.at (framed a.body.now), refl)

pub loop-k-preserved : goal.loop-k-preserved
loop-k-preserved c =
    let a = c.args in
    let l = c.loop-k in
    let v = c.framed_at in
    let i = l.invariant in (
      ap (λ (x : List ℕ). set x (a.at + l.k) v.result) i.0 ∙ ap (λ (x : ℕ). set (paste a.bytes.now a.at (framed a.body.now) l.k) (a.at + l.k) x) v.ensures
          ∙ copy_turn a.bytes.now a.at (framed a.body.now) l.k (omega arith) (omega arith),
      length-set l.bytes (a.at + l.k) v.result ∙ i.1,
    )

pub returns : goal.returns
returns c =
    let a = c.args in
    let l = c.loop-k in
    let e : l.k ≡ length (framed a.body.now) = omega arith in
    l.invariant.0 ∙ ap (λ (k : ℕ). paste a.bytes.now a.at (framed a.body.now) k) e
