-- `wire::field_db` meets its contract. Assumes nothing.
use mathlib.Core.Path.{refl}
use Rattle.wire.specs.Fields.{field_db}
use Rattle.wire.proofs.field_db.Goals as goal

pub returns : goal.returns
unfolding field_db
returns c = refl
