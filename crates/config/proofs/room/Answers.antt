-- Assumes nothing.
use mathlib.Core.Path.{◌≡◌, refl, sym, ◌∙◌}
use native.Mathlib.Omega.{arith}
use Rattle.config.specs.Checks.{room}
use Rattle.config.proofs.Laws.{room_more, room_stop, room_end}
use Rattle.config.proofs.room.Goals as goal

pub loop-n-init : goal.loop-n-init
unfolding room
loop-n-init c = refl

pub returns-then-not-fits : goal.returns-then-not-fits
returns-then-not-fits c =
    sym (room_stop _ _ _ _ c.loop-n-test.true (rw c.from.ensures at c.if-not-fits.true)) ∙ c.loop-n.invariant

pub loop-n-preserved : goal.loop-n-preserved
loop-n-preserved c =
    sym (room_more _ _ _ _ c.loop-n-test.true (rw c.from.ensures at c.if-not-fits.false)) ∙ c.loop-n.invariant

pub returns : goal.returns
returns c =
    let le = c.loop-n.auto.n-end (omega arith) in
    let e : c.loop-n.n ≡ 64 = omega arith in
    sym e ∙ sym (room_end _ _ _ _ c.loop-n-test.false) ∙ c.loop-n.invariant
