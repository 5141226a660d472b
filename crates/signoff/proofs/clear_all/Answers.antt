use mathlib.Core.Path.{◌≡◌, refl, sym, ap, ◌∙◌}
use Prim.Native.Nat.{ℕ, ◌+◌, ◌-◌}
use Rattle.bits.specs.Loop.{fold}
use Rattle.bits.proofs.Loops.{fold_turn, fold_end}
use mathlib.Core.Bool.{Bool, true, false, cond}
use Rattle.bits.specs.Mask.{without_bit}
use Rattle.stream.specs.Table.{Table, freed_table}
use Rattle.net.specs.State.{with_table, table_of}
use Rattle.signoff.specs.SignOff.{is_cell_of, clear_at, clear_all}
use Rattle.signoff.proofs.clear_all.Goals as goal

table_step : (t : Table) (c : ℕ) (b : Bool)
    → ◌≡◌ {A = Table} (record { count = t.count; busy = cond b (without_bit t.busy c) t.busy; landed = cond b (without_bit t.landed c) t.landed; owners = t.owners; cells = t.cells }) (cond b (freed_table t c) t)
table_step t c true = refl
table_step t c false = refl

pub loop-c-init : goal.loop-c-init
unfolding clear_all
loop-c-init c = refl

pub loop-c-preserved : goal.loop-c-preserved
unfolding clear_at
loop-c-preserved c =
    let l = c.loop-c in
    let slot = c.args.slot in
    let h = c.loop-c-test.true in rw (c.without_if-in-loop-c.ensures, c.without_if.ensures, c.from.ensures, c.has.ensures)
    (ap (λ (t : Table). with_table l.s (fold (clear_at slot) (64 - (l.c + 1)) (l.c + 1) t)) (table_step (table_of l.s) l.c (is_cell_of (table_of l.s) slot l.c))
    ∙ sym (ap (with_table l.s) (fold_turn (clear_at slot) 64 l.c (table_of l.s) h)) ∙ l.invariant)

pub returns : goal.returns
returns c = sym (ap (with_table c.loop-c.s) (fold_end _ _ _ _ c.loop-c-test.false)) ∙ c.loop-c.invariant
