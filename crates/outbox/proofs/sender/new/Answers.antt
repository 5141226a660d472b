-- No message is held. Assumes nothing.
use mathlib.Core.List.{List}
use mathlib.Core.Path.{ap}
use Rattle.outbox.specs.Outbox.{OutMsg}
use Rattle.outbox.proofs.Places.{msgs_none}
use Rattle.outbox.proofs.sender.new.Goals as goal

pub returns : goal.returns
returns c = λ bytes marks. ap (λ (x : List OutMsg). record { msgs = x; next_seq = 0 }) (msgs_none _ bytes marks 0)
