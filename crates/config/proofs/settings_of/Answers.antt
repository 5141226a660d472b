-- Assumes nothing.
use Rattle.config.proofs.settings_of.Goals as goal

pub returns : goal.returns
returns c = rw (c.rooms-rooms.ensures, c.unpack_call-call.ensures)
