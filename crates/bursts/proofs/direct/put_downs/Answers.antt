use mathlib.Core.Path.{◌≡◌}
use Prim.Native.Nat.{◌-◌}
use native.Mathlib.Omega.{arith}
use Rattle.out.proofs.Laws.{writes_start, writes_on, writes_end}
use Rattle.bursts.specs.Direct.{down_frames}
use Rattle.bursts.proofs.Directing.{down_more, down_last, down_full}
use Rattle.bursts.proofs.direct.put_downs.Goals as goal

pub loop-init : goal.loop-init
loop-init c =
    let a = c.args in
    let e : a.room - 0 ≡ a.room = omega arith in
    (omega arith, rw e (writes_start a.o.now (down_frames a.room a.queue.now a.slot a.max a.last a.from)))

pub returns-then-end-k : goal.returns-then-end-k
returns-then-end-k c = writes_end c.loop.invariant.1 (down_last _ _ _ _ _ _ (omega arith))

pub loop-preserved : goal.loop-preserved
loop-preserved c =
    let a = c.args in
    (omega arith, writes_on c.loop.invariant.1 (down_more a.queue.now a.slot a.max a.last a.room c.loop.counter c.loop.k (omega arith) (omega arith)) (rw c.least.ensures at c.put_down.ensures))

pub returns : goal.returns
returns c = writes_end c.loop.invariant.1 (down_full _ _ _ _ _ _ _ (omega arith))
