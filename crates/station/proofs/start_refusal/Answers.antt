-- Assumes nothing.
use borrow.Author.Tests.{lt-ltb, le-ltb}
use Rattle.station.specs.Entries.{start_refusal}
use Rattle.station.proofs.start_refusal.Goals as goal

pub returns-then-store-lt6400 : goal.returns-then-store-lt6400
unfolding start_refusal
returns-then-store-lt6400 c = rw (lt-ltb _ _ c.if-store-lt6400.true)

pub returns-then-not-settings_ok : goal.returns-then-not-settings_ok
unfolding start_refusal
returns-then-not-settings_ok c = rw (le-ltb _ _ c.if-store-lt6400.false, ← c.settings_ok.ensures, c.if-not-settings_ok.true)

pub returns : goal.returns
unfolding start_refusal
returns c = rw (le-ltb _ _ c.if-store-lt6400.false, ← c.settings_ok.ensures, c.if-not-settings_ok.false)
