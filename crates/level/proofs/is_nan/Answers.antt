-- `level::is_nan` meets its contract, by cases on the value. Assumes nothing.
use mathlib.Core.Path.{◌∙◌}
use Rattle.level.proofs.Sign.{nan_is}
use Rattle.level.proofs.is_nan.Goals as goal

pub returns : goal.returns
returns c = c.is_nan.ensures.value ∙ nan_is c.args.x
