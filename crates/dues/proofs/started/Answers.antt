-- Assumes nothing.
use native.Mathlib.Omega.{arith}
use Rattle.dues.specs.Dues.{started256}
use Rattle.dues.proofs.started.Goals as goal

pub returns : goal.returns
unfolding started256
returns c = omega arith
