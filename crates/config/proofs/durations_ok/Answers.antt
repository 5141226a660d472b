-- Assumes nothing.
use Rattle.config.proofs.durations_ok.Goals as goal

pub returns : goal.returns
returns c = rw (c.span_ok-4.ensures, c.span_ok-3.ensures, c.span_ok-2.ensures, c.span_ok.ensures)
