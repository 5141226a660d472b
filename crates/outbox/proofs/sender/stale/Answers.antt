use mathlib.Core.Path.{refl, sym, ap, ◌∙◌}
use mathlib.Core.List.{List, [], map}
use Prim.Native.Nat.{ℕ}
use native.Mathlib.Omega.{arith}
use lib.ListN.{length}
use lib.Dec.{ltb}
use borrow.Author.Tests.{le-ltb}
use Rattle.bits.proofs.Lists.{cond_false}
use Rattle.outbox.specs.Outbox as O
use Rattle.outbox.specs.Marks as M
use Rattle.outbox.specs.Senders as S
use Rattle.outbox.proofs.Places as L
use Rattle.outbox.proofs.Acts as A
use Rattle.outbox.proofs.Turns as T
use borrow.Author.Rules.{rules}
use Rattle.outbox.proofs.sender.stale.Goals as goal

pub loop-i-init : goal.loop-i-init
loop-i-init c =
    let n = c.count_of-n in
    let a = c.args in
    (n.ensures.0, n.ensures.1, search rules, refl, λ bytes. L.msgs_begin a.s bytes a.marks.now (map O.stale_in) n.result)

pub loop-i-preserved : goal.loop-i-preserved
loop-i-preserved c =
    let a = c.args in
    let l = c.loop-i in
    let i = l.invariant in
    let t = c.stale_at in (
      i.0,
      i.1,
      i.2,
      T.act_length M.stale_marks A.stale_length a.s [] l.marks t.new.marks c.count_of-n.result l.i (omega arith) i.1 (omega arith) t.ensures ∙ i.3,
      λ bytes. T.stale_turn a.s bytes l.marks t.new.marks c.count_of-n.result l.i (omega arith) i.1 (omega arith) t.ensures ∙ i.4 bytes,
    )

pub returns : goal.returns
returns c =
    let a = c.args in
    let l = c.loop-i in
    let i = l.invariant in
    let n = c.count_of-n in record {
      refusal = sym (cond_false (ltb (length a.marks.now) 16384) 7 0 (le-ltb _ _ i.2));
      untouched = tt;
      outbox =
          λ bytes. ap (λ (x : List O.OutMsg). record { msgs = x; next_seq = a.s.next })
          (ap (λ (k : ℕ). S.msgs a.s bytes l.marks k 0) (sym i.0) ∙ L.msgs_end a.s bytes l.marks (map O.stale_in) n.result l.i (omega arith) refl ∙ i.4 bytes
          ∙ ap (λ (k : ℕ). map O.stale_in (S.msgs a.s bytes a.marks.now k 0)) i.0);
    }
