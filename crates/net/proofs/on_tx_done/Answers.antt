-- Assumes nothing.
use mathlib.Core.Path.{ap}
use Rattle.net.specs.declared.Wait.{Wait}
use Rattle.net.specs.State.{with_wait, with_round, with_txat}
use Rattle.net.specs.Net.{on_tx_done}
use Rattle.net.proofs.Laws.{done_is}
use Rattle.net.proofs.on_tx_done.Goals as goal
use Rattle.net.proofs.on_tx_done.Goals.{then-ok, else-ok}

pub returns : goal.returns
unfolding on_tx_done
returns c =
    let s = c.args.s in
    let t = c.args.t in
    elim c.if-ok.branch [
      | then-ok w ↦ rw (w.txat-is, c.wait_if-wait.ensures, c.done_wait-v.ensures, c.is_sure.ensures, c.polled_slot.ensures, w.if-ok.true) (ap (λ (k : Wait). with_round (with_wait s k) (with_txat s.round t)) (done_is s.wait.turn s t))
      | else-ok w ↦ rw (w.txat-is, c.wait_if-wait.ensures, w.if-ok.false)
    ]
