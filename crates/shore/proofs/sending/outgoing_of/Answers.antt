-- Assumes nothing.
use native.Mathlib.Omega.{arith}
use borrow.Author.Rules.{rules}
use Rattle.outbox.specs.Senders.{no_message}
use Rattle.shore.specs.Sending.{outgoing_of}
use Rattle.shore.proofs.Arrays.{whole}
use Rattle.shore.proofs.sending.outgoing_of.Invariants.{seq, total, cut}
use Rattle.shore.proofs.sending.outgoing_of.Goals as goal

pub returns : goal.returns
unfolding outgoing_of
returns c =
    let s = c.args.s in
    let l = c.loop-i in
    let i = l.invariant in
    let e = i.eights in
    rw (
      whole seq no_message s.messages l.seqs 8 (search rules) e.0 (λ j q. i.seqs j (omega arith)),
      whole total no_message s.messages l.totals 8 (search rules) e.1.0 (λ j q. i.totals j (omega arith)),
      whole cut no_message s.messages l.cuts 8 (search rules) e.1.1 (λ j q. i.cuts j (omega arith)),
    )
