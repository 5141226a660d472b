use mathlib.Core.Path.{ap}
use Prim.Native.Nat.{ℕ}
use mathlib.Core.List.{[]}
use Rattle.bits.specs.Loop.{fold}
use Rattle.net.specs.Net.{said}
use Rattle.bursts.specs.Reroute.{move_at, move_all}
use Rattle.bursts.proofs.Saying.{going_start, going_turn, going_end}
use Rattle.bursts.proofs.Moves.{move_turn, able_moved}
use Rattle.bursts.proofs.reroute.move_leaves.Goals as goal

pub loop-c-init : goal.loop-c-init
unfolding move_all
loop-c-init c =
    let a = c.args in
    (c.requires.1, going_start _ _ _ _ (ap (λ (m : ℕ). fold (move_at m) 62 0 (said a.s [])) c.requires.0))

pub loop-c-preserved : goal.loop-c-preserved
loop-c-preserved c =
    let r = c.new_relay-r in
    let l = c.loop-c in
    let e = rw (c.has.ensures, c.is_down.ensures, c.index-v.ensures, l.invariant.0) at r.ensures in (
      rw (c.without_if-free.ensures, l.invariant.0, c.moved_to-k.ensures) (able_moved r.result l.c l.s),
      going_turn _ _ _ c.loop-c-test.true c.routed.ensures l.invariant.1
          (λ ws. rw (c.tally-silent.ensures, c.moved_to-k.ensures, c.with_if-news.ensures) (move_turn c.args.leaves l.c l.s r.result e ws)),
    )

pub returns : goal.returns
returns c = going_end _ _ _ c.loop-c-test.false c.loop-c.invariant.1
