-- Assumes nothing.
use mathlib.Core.Path.{◌≡◌}
use lib.ListN.{drop}
use Rattle.std.specs.Prelude.{None}
use Rattle.logs.specs.Steps.{walk, watch, watch_step}
use Rattle.logs.proofs.turns_ok.Given as goal

abbrev pub invariant-loop-w : goal.invariant-loop-w
invariant-loop-w l = walk watch_step (watch 0 0 None 0 0) l.words ≡ walk watch_step l.s (drop l.w-index l.words)
