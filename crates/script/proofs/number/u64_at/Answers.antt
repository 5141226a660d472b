-- Assumes nothing.
use native.Mathlib.Omega.{arith}
use Rattle.script.proofs.Numbers.{u64_none, u64_some}
use Rattle.script.proofs.number.u64_at.Goals as goal

pub returns-then-at-gt247 : goal.returns-then-at-gt247
returns-then-at-gt247 c = u64_none c.args.p.now c.args.at c.if-at-gt247.true

pub returns : goal.returns
returns c =
    let a = c.args in
    omega (arith, u64_some a.p.now a.at c.if-at-gt247.false, c.u32_at-2.ensures, c.u32_at.ensures)
