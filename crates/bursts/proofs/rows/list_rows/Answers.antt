use Rattle.std.proofs.Common.{refl, append_assoc}
use Rattle.bursts.proofs.Filling.{rows_start, rows_told, rows_untold, rows_end}
use Rattle.bursts.proofs.rows.list_rows.Goals.{then-has-is_news, else-has-is_news}
use Rattle.bursts.proofs.rows.list_rows.Goals as goal

pub loop-i-init : goal.loop-i-init
loop-i-init c = rw c.new-rows.ensures (rows_start _ _ 3 _)

pub loop-i-preserved : goal.loop-i-preserved
loop-i-preserved c =
    let l = c.loop-i in
    let h = c.loop-i-test.true in
    elim c.if-has-is_news.branch [
      | then-has-is_news w ↦
          rw w.rows-is
          (rows_told _ _ 3 refl h l.invariant
          (rw (← c.is_news.ensures, ← c.has.ensures) w.if-has-is_news.true)
          (simp (w.push-then-has-is_news-2.ensures.items, w.push-then-has-is_news.ensures.items, w.push.ensures.items, w.bitmap.ensures, append_assoc)))
      | else-has-is_news w ↦
          rw w.rows-is (rows_untold _ _ 3 h l.invariant (rw (← c.is_news.ensures, ← c.has.ensures) w.if-has-is_news.false))
    ]

pub returns : goal.returns
returns c = rows_end _ _ 3 c.loop-i-test.false c.loop-i.invariant
