use mathlib.Core.Path.{◌≡◌, sym, ap, ◌∙◌}
use Prim.Native.Nat.{ℕ, ◌-◌}
use native.Mathlib.Omega.{arith}
use Rattle.bits.specs.Loop.{first}
use Rattle.bits.proofs.Loops.{first_pass, first_stop, first_end}
use Rattle.stream.specs.Table.{own_cell}
use Rattle.stream.proofs.table.own_cell.Invariants.{test}
use Rattle.stream.proofs.table.own_cell.Goals as goal

pub loop-c-init : goal.loop-c-init
unfolding own_cell
loop-c-init c =
    let a = c.args in
    let e : a.n - 0 ≡ a.n = omega arith in
    ap (λ (k : ℕ). first (test a.owners.now a.busy a.landed a.owner) k 0) e

pub returns-then-is_own : goal.returns-then-is_own
returns-then-is_own c =
    let l = c.loop-c in
    sym (first_stop _ _ _ c.loop-c-test.true (sym c.is_own.ensures ∙ c.if-is_own.true)) ∙ l.invariant

pub loop-c-preserved : goal.loop-c-preserved
loop-c-preserved c =
    let l = c.loop-c in
    sym (first_pass _ _ _ c.loop-c-test.true (sym c.is_own.ensures ∙ c.if-is_own.false)) ∙ l.invariant

pub returns : goal.returns
returns c = sym (first_end _ _ _ c.loop-c-test.false) ∙ c.loop-c.invariant
