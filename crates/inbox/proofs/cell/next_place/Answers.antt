use mathlib.Core.Path.{refl, sym, ap, ◌∙◌}
use Prim.Native.Nat.{ℕ, ◌+◌, ◌-◌}
use native.Mathlib.Omega.{arith}
use Rattle.std.specs.declared.option.Option.{Option}
use Rattle.inbox.specs.Cells.{next, found}
use Rattle.inbox.proofs.Search.{next_turn_this, next_turn_on, next_end, found_some}
use borrow.Author.Rules.{rules}
use Rattle.inbox.proofs.cell.next_place.Invariants.{place_of}
use Rattle.inbox.proofs.cell.next_place.Goals as goal
use Rattle.inbox.proofs.cell.next_place.Goals.{then-better_place, else-better_place}

pub loop-k-preserved : goal.loop-k-preserved
loop-k-preserved c =
    let a = c.args in
    let l = c.loop-k in
    let b = c.better_place in
    elim c.if-better_place.branch [
      | then-better_place w ↦ (
        rw w.best-is (sym (found_some l.k l.k refl (search rules))),
        ap (λ (x : Option ℕ). next (16 - (l.k + 1)) a.cell (l.k + 1) (place_of x) c.if-better_place.from) w.best-is
            ∙ ap (λ (x : ℕ). next (16 - (l.k + 1)) a.cell (l.k + 1) l.k x) w.from-is
            ∙ sym (next_turn_this 16 a.cell l.k (place_of l.best) l.from (search rules) (sym b.ensures ∙ w.if-better_place.true))
            ∙ l.invariant.1,
      )
      | else-better_place w ↦ (
        rw w.best-is l.invariant.0,
        ap (λ (x : Option ℕ). next (16 - (l.k + 1)) a.cell (l.k + 1) (place_of x) c.if-better_place.from) w.best-is
            ∙ ap (λ (x : ℕ). next (16 - (l.k + 1)) a.cell (l.k + 1) (place_of l.best) x) w.from-is
            ∙ sym (next_turn_on 16 a.cell l.k (place_of l.best) l.from (search rules) (sym b.ensures ∙ w.if-better_place.false))
            ∙ l.invariant.1,
      )
    ]

pub returns : goal.returns
returns c =
    let a = c.args in
    let l = c.loop-k in
    sym l.invariant.0 ∙ ap found (sym (next_end 16 a.cell l.k (place_of l.best) l.from (omega arith)) ∙ l.invariant.1)
