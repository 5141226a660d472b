-- Assumes nothing.
use mathlib.Core.Path.{ap}
use Prim.Native.Nat.{ℕ, ◌-◌}
use Rattle.logs.specs.Steps as steps
use Rattle.logs.proofs.listed.Goals as goal

pub returns : goal.returns
unfolding steps.listed
returns c = let s = c.args.s in ap (λ (k : ℕ). steps.watch (s.left - 1) k s.slot s.polls s.acks) c.with.ensures
