-- The first place, 0, is added to each of the eleven.
use Rattle.std.proofs.Common.{zero-add}
use Rattle.script.proofs.Floats.{either}
use Rattle.script.specs.Settings.{has_nan64, has_nan32}
use Rattle.script.proofs.given.has_nan.Goals as goal

pub returns : goal.returns
unfolding has_nan64 has_nan32
returns c =
    either
    (either (either (simp zero-add at c.any_nan.ensures) c.any_nan-2.ensures) c.nan_at.ensures)
    c.nan_at-2.ensures
