-- Assumes nothing.
use mathlib.Core.List.{◌∷◌}
use lib.ListN.{get_or}
use Rattle.wire.specs.Call.{pack_call}
use Rattle.roster.specs.Members.{no_member}
use Rattle.bursts.specs.Rows.{ack_at}
use Rattle.bursts.proofs.Filling.{Rows}
use Rattle.bursts.proofs.rows.ack_rows_on.Given as goal

abbrev pub invariant-loop-i : goal.invariant-loop-i
invariant-loop-i g l = Rows (ack_at l.mask l.most) (λ k. k ∷ pack_call (get_or l.ms k no_member).call) 6 l.initial.rows.items l.i l.rows.items
