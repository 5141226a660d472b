use mathlib.Core.Path.{sym}
use native.Mathlib.Omega.{arith}
use Rattle.frames.specs.Control.{payload_of}
use Rattle.frames.proofs.Entries.{hears_turn, rest_end}
use Rattle.frames.proofs.control.report_hears.Goals as goal

pub loop-e-preserved : goal.loop-e-preserved
loop-e-preserved c =
    let i = c.loop-e.invariant in
    let h = rw c.from-n.ensures at c.loop-e-test.true in (
      omega (arith, h, c.type_inv.p.1.1.0),
      hears_turn (payload_of c.args.p.now) c.args.slot
          c.args.p.now.len _ c.loop-e.e c.loop-e.hears _ _ _ i.1
          h c.byte-a.ensures c.byte-q.ensures c.hear.ensures,
    )

pub returns : goal.returns
returns c =
    sym (rest_end _ _ _ _ _ _ c.loop-e.invariant.1 (omega (arith, c.from-n.ensures)))
