-- Assumes nothing.
use native.Mathlib.Omega.{arith}
use Rattle.dues.specs.Dues.{started256}
use Rattle.dues.proofs.Cents.{charge_free, charge_low, charge_high}
use Rattle.dues.proofs.charge.Goals as goal

pub returns-then-n-le1024 : goal.returns-then-n-le1024
returns-then-n-le1024 c = charge_free c.args.n (omega arith)

pub overflow_mul-result : goal.overflow_mul-result
unfolding started256
overflow_mul-result c = omega arith

pub returns-then-n-le16384 : goal.returns-then-n-le16384
returns-then-n-le16384 c = rw c.started.ensures (charge_low c.args.n (omega arith))

pub overflow_mul-result-2 : goal.overflow_mul-result-2
unfolding started256
overflow_mul-result-2 c = omega arith

pub overflow_add-result : goal.overflow_add-result
unfolding started256
overflow_add-result c = omega arith

pub returns : goal.returns
returns c = rw c.started-2.ensures (charge_high c.args.n (omega arith))
