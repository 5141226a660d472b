-- `j` is where the ways round the storing of the message meet. Assumes nothing.
use mathlib.Core.Path.{◌≡◌, sym, ◌∙◌}
use mathlib.Core.List.{[]}
use Prim.Native.Nat.{◌+◌}
use lib.ListN.{length, get_or}
use Rattle.refusal.specs.Numbers.{number_in}
use Rattle.inbox.specs.Messages.{framed}
use Rattle.out.specs.Encode.{after}
use Rattle.queue.specs.Queues.{empty_queue, posted_to, put_bytes}
use Rattle.net.specs.State.{queue_at, with_queue}
use Rattle.station.specs.Entries.{post_refusal, post_of}
use Rattle.station.proofs.Laws.{answered_unless, post_ok, post_if, post_yes, post_no}
use Rattle.station.proofs.Numbers.{answer_is, passed_is, passed, stopped}
use Rattle.station.proofs.post.Goals as goal
use Rattle.station.proofs.post.Goals.{then-ok, else-ok}

pub put-requires : goal.put-requires
put-requires c =
    let a = c.args in
    let i = c.index-i.result in
    let no = c.post_refusal-no.result in
    let k = post_ok (length a.lent.now) a.s.used a.slot (get_or a.s.queues i empty_queue) (length a.message.now) (sym c.post_refusal-no.ensures ∙ passed no (sym c.is_ok-ok.ensures.value ∙ c.if-ok.true)) in
    (k.slot_lt, k.long, k.message)

pub post_queue-k-requires : goal.post_queue-k-requires
post_queue-k-requires c =
    let a = c.args in
    let i = c.index-i.result in
    let no = c.post_refusal-no.result in
    λ z. (post_ok (length a.lent.now) a.s.used a.slot (get_or a.s.queues i empty_queue) (length a.message.now) (sym c.post_refusal-no.ensures ∙ passed no (sym c.is_ok-ok.ensures.value ∙ z))).total

pub returns : goal.returns
unfolding post_of after
returns c =
    let a = c.args in
    let s = a.s in
    let queue = a.lent.now in
    let q = queue_at s a.slot in
    let n = length a.message.now in
    let no = post_refusal (length queue) s.used a.slot q n in
    let t = with_queue s a.slot (posted_to q (n + 2)) in
    let put = put_bytes queue a.slot q.posted (framed a.message.now) in
    let r = c.post_refusal-no.result in
    let e : number_in r ≡ no = rw c.index-i.ensures at c.post_refusal-no.ensures in
    let o = sym c.is_ok-ok.ensures.value in (
      rw (c.and.ensures, answer_is r 0, c.post_queue-k.ensures, c.is_ok-ok.ensures.value, passed_is r, e, c.index-i.ensures)
          (post_if no s a.slot (posted_to q (n + 2)) ∙ sym (answered_unless no s t queue put [] 0)),
      elim c.if-ok.branch [
        | then-ok w ↦ w.lent-is ∙ rw c.index-i.ensures at w.put.ensures ∙ post_yes no s t queue put (sym e ∙ passed r (o ∙ w.if-ok.true))
        | else-ok w ↦ w.lent-is ∙ post_no no s t queue put (λ z. stopped r (o ∙ w.if-ok.false) (e ∙ z))
      ],
    )
