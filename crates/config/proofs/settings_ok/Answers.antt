-- Assumes nothing.
use Rattle.config.specs.Checks.{settings_ok}
use Rattle.config.proofs.settings_ok.Goals as goal

pub returns : goal.returns
unfolding settings_ok
returns c =
    rw (c.payloads_ok.ensures, c.data_ok.ensures, c.number_from.ensures, c.numbers_ok.ensures, c.decibels_ok.ensures, c.durations_ok.ensures, c.seconds_ok.ensures)
