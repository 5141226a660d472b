-- `level::is_negative` meets its contract, by cases on the value. Assumes nothing.
use mathlib.Core.Path.{sym, ◌∙◌}
use Rattle.level.proofs.Sign.{sign_is, nan_unsigned}
use Rattle.level.proofs.is_negative.Goals as goal

pub returns-then-not-is_nan : goal.returns-then-not-is_nan
returns-then-not-is_nan c = c.is_sign_negative.ensures ∙ sign_is c.args.x

pub returns-else-not-is_nan : goal.returns-else-not-is_nan
returns-else-not-is_nan c = rw c.if-not-is_nan.false (nan_unsigned c.args.x (sym c.if-not-is_nan.false ∙ c.is_nan.ensures.value))
