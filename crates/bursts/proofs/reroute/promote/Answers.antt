use mathlib.Core.Path.{refl}
use Rattle.bursts.specs.Reroute.{promote_all}
use Rattle.bursts.proofs.Saying.{going_start, going_turn, going_end}
use Rattle.bursts.proofs.Moves.{promote_turn}
use Rattle.bursts.proofs.reroute.promote.Goals as goal

pub loop-i-init : goal.loop-i-init
unfolding promote_all
loop-i-init c = going_start _ _ _ _ refl

pub loop-i-preserved : goal.loop-i-preserved
loop-i-preserved c =
    let l = c.loop-i in
    let e = rw c.has.ensures at c.promotable-x.ensures in going_turn _ _ _ c.loop-i-test.true c.routed.ensures l.invariant
    (λ ws. rw (c.with_if-news.ensures, c.tally-silent.ensures, c.recent_by-q.ensures, c.promote_member-k.ensures, c.is_heard-moved.ensures) (promote_turn _ l.i l.s c.promotable-x.result e ws))

pub returns : goal.returns
returns c = going_end _ _ _ c.loop-i-test.false c.loop-i.invariant
