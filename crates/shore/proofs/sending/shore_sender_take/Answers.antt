-- Assumes nothing.
use Rattle.shore.proofs.Faithful.{sender_back}
use Rattle.shore.proofs.sending.shore_sender_take.Goals as goal

pub returns-in-Ok-clause-outbox : goal.returns-in-Ok-clause-outbox
returns-in-Ok-clause-outbox c = rw (c.left_of.ensures, sender_back c.take.new.s, ← c.sender_of-s.ensures) c.in-Ok.ensures.outbox

pub returns-in-Err-clause-outbox : goal.returns-in-Err-clause-outbox
returns-in-Err-clause-outbox c = rw (c.left_of-in-Err.ensures, sender_back c.take.new.s, c.from.ensures, ← c.sender_of-s.ensures) c.in-Err.ensures.outbox

pub returns-in-Err-clause-untouched : goal.returns-in-Err-clause-untouched
returns-in-Err-clause-untouched c = λ z. rw (c.left_of-in-Err.ensures, sender_back c.take.new.s, ← c.sender_of-s.ensures) c.in-Err.ensures.untouched
