-- Assumes nothing.
use Rattle.config.proofs.seconds_ok.Goals as goal

pub returns : goal.returns
returns c = rw (c.span_ok-9.ensures, c.span_ok-8.ensures, c.span_ok-7.ensures, c.span_ok-6.ensures, c.span_ok-5.ensures, c.span_ok-4.ensures, c.span_ok-3.ensures, c.span_ok-2.ensures, c.span_ok.ensures)
