-- Assumes nothing.
use lib.Ieee.{of_bits, neg}
use Rattle.preset.proofs.tape_settings.Goals as goal

pub returns : goal.returns
unfolding of_bits neg
returns c = rw (c.payloads-payloads.ensures, c.bytes_of-call.ensures, c.ladder-thresholds.ensures)
