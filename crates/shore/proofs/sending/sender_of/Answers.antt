-- Assumes nothing.
use mathlib.Core.Path.{ap}
use mathlib.Core.List.{List}
use native.Mathlib.Omega.{arith}
use borrow.Author.Rules.{rules}
use Rattle.outbox.specs.declared.sender.Message.{Message}
use Rattle.shore.specs.Sending.{sender_of}
use Rattle.shore.proofs.Arrays.{three, from_three}
use Rattle.shore.proofs.sending.sender_of.Goals as goal

pub returns : goal.returns
unfolding sender_of
returns c =
    let o = c.args.o in
    let l = c.loop-i in
    ap (λ (x : List Message). record { next = o.next; count = o.count; messages = x })
    (from_three o.seqs o.totals o.cuts l.messages 8 (search rules) (search rules) (search rules) l.invariant.0 (λ j h. l.invariant.1 j (omega arith)))
