use mathlib.Core.Path.{◌≡◌, refl, ap, ◌∙◌}
use mathlib.Core.List.{List, append-nil}
use Prim.Native.Nat.{ℕ}
use native.Mathlib.Omega.{arith}
use lib.ListN.{set}
use Rattle.config.specs.Checks.{rooms_from}
use Rattle.config.proofs.Laws.{rooms_next}
use Rattle.config.proofs.rooms.Goals as goal

pub loop-i-init : goal.loop-i-init
unfolding rooms_from
loop-i-init c = refl

pub room-requires : goal.room-requires
room-requires c = c.loop-i-test.true

pub loop-i-preserved : goal.loop-i-preserved
loop-i-preserved c =
    let a = c.args in
    ap (λ (p : List ℕ). set p c.loop-i.i c.room.result) c.loop-i.invariant ∙ rooms_next a.d.now a.max c.loop-i.i c.room.result (omega arith) c.room.ensures

pub returns : goal.returns
returns c =
    let e : c.loop-i.i ≡ 17 = omega arith in
    c.loop-i.invariant ∙ rw e (append-nil _)
