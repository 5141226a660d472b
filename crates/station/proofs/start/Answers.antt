-- Assumes nothing.
use Prim.Native.Nat.{◌/◌}
use lib.ListN.{length}
use Rattle.station.proofs.Laws.{refused_as, done_as}
use Rattle.stream.specs.Table.{cell_count}
use Rattle.net.specs.Net.{new_station}
use Rattle.config.specs.Checks.{settings_of}
use Rattle.station.specs.Entries.{start_of, start_refusal}
use Rattle.station.proofs.start.Goals as goal

pub returns-in-Err : goal.returns-in-Err
unfolding start_of
returns-in-Err c =
    let a = c.args in
    refused_as (start_refusal a.g (length a.lent.now)) a.s (new_station (settings_of a.g) (cell_count (length a.lent.now / 6400))) a.lent.now a.lent.now c.in-Err.is c.start_refusal.ensures

pub returns-in-Ok : goal.returns-in-Ok
unfolding start_of
returns-in-Ok c =
    let a = c.args in
    rw (c.new-t.ensures, c.cells_of.ensures, c.settings_of.ensures)
    (done_as (start_refusal a.g (length a.lent.now)) a.s (new_station (settings_of a.g) (cell_count (length a.lent.now / 6400))) a.lent.now a.lent.now c.in-Ok.is c.start_refusal.ensures)
