-- Assumes nothing.
use Rattle.shore.proofs.Faithful.{sender_back}
use Rattle.shore.proofs.sending.shore_sender_new.Goals as goal

pub returns : goal.returns
returns c = λ bytes marks. rw (c.outgoing_of.ensures, sender_back c.new.result) (c.new.ensures bytes marks)
