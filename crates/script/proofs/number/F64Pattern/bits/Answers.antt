use Rattle.script.proofs.Floats.{number, no_number}
use Rattle.script.specs.Numbers.{bits64}
use Rattle.script.proofs.number.F64Pattern.bits.Goals as goal

pub returns-then-self : goal.returns-then-self
unfolding bits64
returns-then-self c = simp (number _ c.if-self.true)

pub returns : goal.returns
unfolding bits64
returns c = simp (no_number _ c.if-self.false)
