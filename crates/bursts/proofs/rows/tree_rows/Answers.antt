use Rattle.std.proofs.Common.{refl, append_assoc}
use Rattle.bursts.proofs.Filling.{rows_start, rows_told, rows_untold, rows_end}
use Rattle.bursts.proofs.rows.tree_rows.Goals.{then-has-via, else-has-via}
use Rattle.bursts.proofs.rows.tree_rows.Goals as goal

pub loop-i-init : goal.loop-i-init
loop-i-init c = rw c.new-rows.ensures (rows_start _ _ 2 _)

pub loop-i-preserved : goal.loop-i-preserved
loop-i-preserved c =
    let l = c.loop-i in
    let h = c.loop-i-test.true in
    elim c.if-has-via.branch [
      | then-has-via w ↦
          rw w.rows-is
          (rows_told _ _ 2 refl h l.invariant
          (rw (← c.has-in-loop-i.ensures, ← c.has.ensures) w.if-has-via.true)
          (simp (w.push-then-has-via.ensures.items, w.push.ensures.items, append_assoc)))
      | else-has-via w ↦
          rw w.rows-is (rows_untold _ _ 2 h l.invariant (rw (← c.has-in-loop-i.ensures, ← c.has.ensures) w.if-has-via.false))
    ]

pub returns : goal.returns
returns c = rows_end _ _ 2 c.loop-i-test.false c.loop-i.invariant
