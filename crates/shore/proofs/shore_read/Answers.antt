-- Assumes nothing.
use mathlib.Core.Path.{refl, sym}
use native.Mathlib.Omega.{arith}
use Rattle.refusal.proofs.Numbers.{is_number}
use Rattle.station.specs.Entries.{reading_of}
use Rattle.station.proofs.Laws.{read_in}
use Rattle.shore.proofs.Parts.{own_part}
use Rattle.shore.proofs.shore_read.Goals as goal

pub overflow_mul-result : goal.overflow_mul-result
overflow_mul-result c = omega (arith, (read_in _ _ _ _ (sym c.in-Ok.ensures.number)).0)

pub overflow_add-result : goal.overflow_add-result
overflow_add-result c = omega (arith, (read_in _ _ _ _ (sym c.in-Ok.ensures.number)).0)

pub returns-in-Ok : goal.returns-in-Ok
unfolding reading_of
returns-in-Ok c =
    let a = c.args in
    let e = c.in-Ok.ensures.number in
    let m = rw (← e) at c.in-Ok.ensures.message in
    rw (← c.station_of-s.ensures, ← e, m) (refl, own_part a.store.now a.cell)

pub returns-in-Err : goal.returns-in-Err
unfolding reading_of
returns-in-Err c =
    rw (← c.station_of-s.ensures, ← c.in-Err.ensures.number, c.from.ensures, is_number c.in-Err.r) (refl, refl)
