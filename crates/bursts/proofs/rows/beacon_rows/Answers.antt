-- Assumes nothing.
use mathlib.Core.Path.{refl}
use mathlib.Core.List.{[]}
use native.Mathlib.Omega.{arith}
use Rattle.bursts.specs.Rows.{ack_at, ack_row}
use Rattle.bursts.proofs.Filling.{rows_most}
use Rattle.bursts.specs.Bursts.{beacon_rows}
use Rattle.bursts.proofs.rows.beacon_rows.Goals as goal

pub ack_rows_on-requires-2 : goal.ack_rows_on-requires-2
ack_rows_on-requires-2 c =
    rw (c.ack_rows_on.ensures, c.new-rows.ensures)
    (omega (arith, rows_most (ack_at c.both-waiting.result 9) (ack_row c.args.s) 6 (λ i. refl) []))

pub returns : goal.returns
unfolding beacon_rows
returns c =
    rw (← c.members.ensures, ← c.both-waiting.ensures, ← c.minus-others.ensures, ← c.new-rows.ensures, ← c.ack_rows_on.ensures) c.ack_rows_on-2.ensures
