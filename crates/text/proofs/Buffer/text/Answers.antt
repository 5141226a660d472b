use native.Mathlib.Omega.{arith}
use Rattle.out.proofs.Laws.{still_start, still_on}
use Rattle.text.proofs.Turns.{text_turn}
use Rattle.text.proofs.Buffer.text.Goals as goal

pub loop-b-init : goal.loop-b-init
loop-b-init c = still_start _ _ _

pub loop-b-preserved : goal.loop-b-preserved
loop-b-preserved c = still_on c.loop-b.invariant (text_turn c.args.s.now c.loop-b.b-index (omega arith)) c.put.ensures
