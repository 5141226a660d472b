use Rattle.std.proofs.Common.{refl}
use Rattle.bursts.proofs.Filling.{rows_start, rows_told, rows_untold, rows_end}
use Rattle.bursts.proofs.rows.ack_rows_on.Goals.{then-has-len, else-has-len}
use Rattle.bursts.proofs.rows.ack_rows_on.Goals as goal

pub loop-i-init : goal.loop-i-init
loop-i-init g c = rows_start _ _ 6 _

pub loop-i-preserved : goal.loop-i-preserved
loop-i-preserved g c =
    let l = c.loop-i in
    let h = c.loop-i-test.true in
    elim c.if-has-len.branch [
      | then-has-len w ↦
          rw w.rows-is
          (rows_told _ _ 6 refl h l.invariant (rw (← c.len.ensures.value, ← c.has.ensures) w.if-has-len.true) w.ack_row.ensures)
      | else-has-len w ↦
          rw w.rows-is (rows_untold _ _ 6 h l.invariant (rw (← c.len.ensures.value, ← c.has.ensures) w.if-has-len.false))
    ]

pub returns : goal.returns
returns g c = rows_end _ _ 6 c.loop-i-test.false c.loop-i.invariant
