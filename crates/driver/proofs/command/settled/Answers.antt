-- Each arm knows which answer it is.
use Rattle.std.proofs.Common.{ap, ◌∙◌}
use Rattle.script.specs.Actions.{closed}
use Rattle.driver.proofs.command.settled.Goals as goal

pub returns-in-Err : goal.returns-in-Err
returns-in-Err c = rw c.in-Err.is c.closed-in-Err.ensures

pub returns-in-Ok : goal.returns-in-Ok
returns-in-Ok c = rw c.in-Ok.is (c.closed.ensures ∙ ap closed c.kept.ensures)
