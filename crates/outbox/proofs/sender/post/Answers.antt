-- The message is put behind the others. Assumes nothing.
use mathlib.Core.Path.{sym, ap, ◌∙◌}
use mathlib.Core.List.{List}
use Prim.Native.Nat.{ℕ}
use lib.ListN.{length}
use Rattle.outbox.specs.declared.sender.Sender.{Sender}
use Rattle.outbox.specs.Outbox as O
use Rattle.outbox.specs.Senders as S
use Rattle.outbox.proofs.Sending as W
use Rattle.outbox.proofs.Turns as T
use Rattle.outbox.proofs.sender.post.Goals as goal

pub returns : goal.returns
returns c =
    let a = c.args in
    let s = a.s.now in
    let o = T.post_open s (length a.bytes.now) (length a.body.now) (sym c.in_ok-check_post.ensures) in
    let p = c.add in
    let m = c.put_message in record {
      untouched = tt;
      refusal = c.in_ok-check_post.ensures;
      outbox =
          λ marks. ap (λ (x : Sender). S.outbox x m.new.bytes marks) p.ensures.0 ∙ ap (λ (x : List ℕ). S.outbox (S.posted_of s (length a.body.now)) x marks) m.ensures
          ∙ W.pushed s a.bytes.now marks a.body.now o.2 o.1 o.0 p.ensures.1;
    }
