use Rattle.script.proofs.Floats.{number, no_number}
use Rattle.script.specs.Numbers.{bits32}
use Rattle.script.proofs.number.F32Pattern.bits.Goals as goal

pub returns-then-self : goal.returns-then-self
unfolding bits32
returns-then-self c = simp (number _ c.if-self.true)

pub returns : goal.returns
unfolding bits32
returns c = simp (no_number _ c.if-self.false)
