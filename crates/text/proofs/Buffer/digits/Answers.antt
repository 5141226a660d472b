use Rattle.out.proofs.Laws.{still_start, still_on, still_end}
use Rattle.text.proofs.Turns.{digits_turn, digits_end}
use Rattle.text.proofs.Buffer.digits.Goals as goal

pub loop-k-init : goal.loop-k-init
loop-k-init c = still_start _ _ _

pub loop-k-preserved : goal.loop-k-preserved
loop-k-preserved c =
    let a = c.args in
    still_on c.loop-k.invariant (digits_turn a.small a.v c.loop-k.k _ _ c.loop-k-test.true c.digit_of.ensures c.glyph.ensures) c.put.ensures

pub returns : goal.returns
returns c = still_end c.loop-k.invariant (digits_end _ _ c.loop-k.k c.loop-k-test.false)
