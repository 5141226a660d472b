-- Assumes nothing.
use Rattle.std.proofs.Common.{sym, ◌∙◌, eqb-true}
use borrow.Author.Tests.{not-true, not-false}
use Rattle.bits.proofs.Lists.{and_true, or_false}
use Rattle.next.proofs.Calm.{no_list_yet_did, drawn_did}
use Rattle.next.proofs.round_end.Goals as goal

pub returns-then-not-no_list_yet : goal.returns-then-not-no_list_yet
returns-then-not-no_list_yet c =
    let a = c.args in
    let o = or_false _ _ c.if-still-eventful.false in
    let b = and_true _ _ (not-false _ o.0) in
    let f = and_true _ _ b.0 in
    let told = c.told_in-ks.ensures in
    drawn_did a.s a.time (sym c.is_idle.ensures ∙ f.0) (not-true _ f.1) (eqb-true _ 0 b.1)
    (rw c.list_due.ensures at (rw c.told_in-ks.ensures at (sym c.eventful.ensures ∙ o.1)))
    (rw c.list_due.ensures at told) c.list_round-k.ensures (sym c.no_list_yet.ensures ∙ c.if-not-no_list_yet.true) c.next_round-q.ensures c.draw-list.ensures c.one_more-rounds.ensures

pub returns-else-not-no_list_yet : goal.returns-else-not-no_list_yet
returns-else-not-no_list_yet c =
    let a = c.args in
    let o = or_false _ _ c.if-still-eventful.false in
    let b = and_true _ _ (not-false _ o.0) in
    let f = and_true _ _ b.0 in
    let told = c.told_in-ks.ensures in
    no_list_yet_did a.s a.time (sym c.is_idle.ensures ∙ f.0) (not-true _ f.1) (eqb-true _ 0 b.1)
    (rw c.list_due.ensures at (rw c.told_in-ks.ensures at (sym c.eventful.ensures ∙ o.1)))
    (rw c.list_due.ensures at told) c.list_round-k.ensures (sym c.no_list_yet.ensures ∙ c.if-not-no_list_yet.false)
