-- `wire::calls::number_of` meets its contract: the number of seven characters is below 38 ^ 7. Assumes nothing.
use native.Mathlib.Omega.{arith}
use Prim.Native.Nat.{◌≤◌}
use Rattle.std.proofs.Math.Nat.{pow-le-pow_right}
use Rattle.wire.proofs.calls.number_of.Goals as goal

pub overflow_add-v : goal.overflow_add-v
overflow_add-v c =
    let k : c.loop-c.c-index ≤ 6 = omega arith in
    omega (arith, pow-le-pow_right {n = 38} (omega arith) k)
