-- Assumes nothing.
use mathlib.Core.Path.{◌≡◌}
use mathlib.Core.Bool.{true}
use Rattle.dues.specs.Dues.{figures_ok}
use Rattle.dues.proofs.Lines.{Reckoned}
use Rattle.dues.proofs.dues.Given as goal

abbrev pub invariant-loop-i : goal.invariant-loop-i
invariant-loop-i l = (figures_ok l.figures ≡ true) × Reckoned l.s l.figures l.charges l.credits l.takings l.i
