-- Assumes nothing.
use Rattle.config.proofs.decibels_ok.Goals as goal

pub returns : goal.returns
returns c = rw (c.level_ok-2.ensures, c.level_ok.ensures, c.thresholds_ok.ensures)
