-- Assumes nothing.
use native.Mathlib.Omega.{arith}
use Rattle.script.proofs.Numbers.{u32_none, u32_some}
use Rattle.script.proofs.number.u32_at.Goals as goal

pub returns-then-at-gt251 : goal.returns-then-at-gt251
returns-then-at-gt251 c = u32_none c.args.p.now c.args.at c.if-at-gt251.true

pub returns : goal.returns
returns c =
    let a = c.args in
    omega (arith, u32_some a.p.now a.at c.if-at-gt251.false, c.from_le_bytes.ensures)
