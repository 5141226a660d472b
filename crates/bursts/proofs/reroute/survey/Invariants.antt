-- Assumes nothing.
use mathlib.Core.Path.{◌≡◌}
use Prim.Native.Nat.{◌-◌}
use Rattle.bits.specs.Loop.{fold}
use Rattle.bursts.specs.Rows.{mark_if}
use Rattle.bursts.specs.Reroute.{able_at, able_of, needs_at, needs_of, tried_at, tried_of}
use Rattle.bursts.proofs.reroute.survey.Given as goal

abbrev pub invariant-loop-i : goal.invariant-loop-i
invariant-loop-i l =
    (fold (mark_if (able_at l.s)) (62 - l.i) l.i l.able ≡ able_of l.s)
    × (fold (mark_if (needs_at l.s)) (62 - l.i) l.i l.needs ≡ needs_of l.s)
    × (fold (tried_at l.s) (62 - l.i) l.i l.tried ≡ tried_of l.s)
