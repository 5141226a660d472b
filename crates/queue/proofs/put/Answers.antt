use lib.Seq.{drop-length}
use mathlib.Core.Path.{◌≡◌, sym, ap, ◌∙◌}
use Prim.Native.Nat.{◌+◌}
use native.Mathlib.Omega.{arith}
use lib.ListN.{length, length-set}
use Rattle.inbox.specs.Messages.{framed}
use Rattle.queue.specs.Queues.{put_bytes}
use Rattle.queue.proofs.Laws.{put_turn, put_none}
use Rattle.queue.proofs.put.Goals as goal

pub loop-k-preserved : goal.loop-k-preserved
loop-k-preserved c =
    let a = c.args in
    let b = framed a.message.now in (
      length-set c.loop-k.queue c.place-i.result c.framed_byte.result ∙ c.loop-k.invariant.0,
      rw (c.place-i.ensures, c.framed_byte.ensures) (put_turn c.loop-k.queue a.slot a.o c.loop-k.k b (omega arith)) ∙ c.loop-k.invariant.1,
    )

pub returns : goal.returns
returns c =
    let a = c.args in
    let b = framed a.message.now in
    let e : c.loop-k.k ≡ length b = omega arith in
    sym (put_none c.loop-k.queue a.slot (a.o + c.loop-k.k)) ∙ ap (put_bytes c.loop-k.queue a.slot (a.o + c.loop-k.k)) (sym (rw e (drop-length b))) ∙ c.loop-k.invariant.1
