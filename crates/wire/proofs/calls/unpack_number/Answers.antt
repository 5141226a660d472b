-- `wire::calls::unpack_number` meets its contract. Assumes nothing.
use mathlib.Core.Path.{◌≡◌}
use native.Mathlib.Omega.{arith}
use Prim.Native.Nat.{suc, ◌+◌, ◌-◌}
use Rattle.wire.proofs.Packed.{unpack_done}
use Rattle.wire.proofs.calls.unpack_number.Goals as goal

pub loop-preserved : goal.loop-preserved
loop-preserved c =
    let l = c.loop in
    let e : 7 - l.counter ≡ suc (7 - (l.counter + 1)) = omega arith in
    rw c.shift.ensures (rw e at l.invariant)

pub returns : goal.returns
returns c =
    let l = c.loop in
    let e : 7 - l.counter ≡ 0 = omega arith in
    unpack_done _ _ (rw c.chars_of-c.ensures at (rw e at l.invariant))
