-- Assumes nothing.
use mathlib.Core.Bool.{not, ◌&&◌, ◌||◌}
use mathlib.Core.List.{[], ◌∷◌}
use lib.Dec.{eqb}
use lib.ListN.{get_or}
use Rattle.bits.specs.Mask.{has_bit}
use Rattle.roster.specs.Members.{no_member}
use Rattle.bursts.proofs.Filling.{Rows}
use Rattle.bursts.proofs.rows.tree_rows.Given as goal

abbrev pub invariant-loop-i : goal.invariant-loop-i
invariant-loop-i l = Rows (λ k bs. has_bit l.mask k && (not (eqb (get_or l.ms k no_member).via 63) || has_bit l.moved k)) (λ k. k ∷ (get_or l.ms k no_member).via ∷ []) 2 [] l.i l.rows.items
