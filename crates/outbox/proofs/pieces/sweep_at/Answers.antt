-- By cases. Assumes nothing.
use lib.ListN.{get_or}
use Rattle.outbox.specs.Bursts.{hit}
use Rattle.outbox.proofs.Passes as P
use Rattle.outbox.proofs.pieces.sweep_at.Goals as goal

pub returns-then-left-eq0 : goal.returns-then-left-eq0
returns-then-left-eq0 c =
    let a = c.args in
    let h =
    P.at_miss (hit a.mark a.left a.marks.now a.i) a.seq a.i a.left a.whole.now a.marks.now a.o.now
    (P.misses_full a.mark a.left (get_or a.marks.now a.i 0) c.if-left-eq0.true) in
    record { words = h.0; left = h.1.0; marks = h.1.1 }

pub returns-then-marks-i : goal.returns-then-marks-i
returns-then-marks-i c =
    let a = c.args in
    let h =
    P.at_miss (hit a.mark a.left a.marks.now a.i) a.seq a.i a.left a.whole.now a.marks.now a.o.now
    (P.misses a.mark a.left (get_or a.marks.now a.i 0) c.if-marks-i.true) in
    record { words = h.0; left = h.1.0; marks = h.1.1 }
