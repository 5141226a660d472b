use mathlib.Core.Path.{refl, sym, ap, ◌∙◌}
use mathlib.Core.List.{List}
use Prim.Native.Nat.{ℕ, ◌+◌}
use lib.ListN.{get_or, drop}
use Rattle.outbox.specs.Marks as M
use Rattle.outbox.proofs.Walk.{drop_here, drop_end}
use Rattle.outbox.proofs.Said as P
use Rattle.outbox.specs.Outbox.{some}
use borrow.Author.Rules.{rules}
use Rattle.outbox.proofs.marks.any.Goals as goal

pub returns-then-flies : goal.returns-then-flies
returns-then-flies c =
    let a = c.args in
    let l = c.loop-m in
    let e = sym c.flies.ensures ∙ c.if-flies.true in
    sym (ap some (ap (M.pieces l.m-index) (drop_here a.marks.now l.m-index (search rules)) ∙ P.pieces_here l.m-index (get_or a.marks.now l.m-index 0) (drop (l.m-index + 1) a.marks.now) e)) ∙ l.invariant

pub loop-m-preserved : goal.loop-m-preserved
loop-m-preserved c =
    let a = c.args in
    let l = c.loop-m in
    let e = sym c.flies.ensures ∙ c.if-flies.false in
    (sym (ap some (ap (M.pieces l.m-index) (drop_here a.marks.now l.m-index (search rules)) ∙ P.pieces_on l.m-index (get_or a.marks.now l.m-index 0) (drop (l.m-index + 1) a.marks.now) e)) ∙ l.invariant)

pub returns : goal.returns
returns c =
    let a = c.args in
    let l = c.loop-m in
    sym (ap (λ (x : List ℕ). some (M.pieces l.m-index x)) (drop_end a.marks.now l.m-index (search rules)) ∙ (unfold M.pieces in refl)) ∙ l.invariant
