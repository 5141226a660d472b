use native.Mathlib.Omega.{arith}
use mathlib.Core.Path.{refl}
use Rattle.outbox.proofs.Leaving as leaving
use Rattle.outbox.proofs.leave.drop_at.Goals as goal

pub returns : goal.returns
returns c =
    let a = c.args in
    let n = c.count_of-n.ensures in
    let p = c.requires in
    let b = c.copy_within.ensures in
    let m = c.copy_within-2.ensures in
    let s = c.copy_within-3.ensures in
    leaving.dropped a.s.now _ a.bytes.now a.marks.now _ _ a.i c.count_of-n.result (omega arith) n.0 n.1 p.1.0 p.1.1 b.len m.len b.by_index.0 b.by_index.1 m.by_index.0 m.by_index.1 s.by_index.0 s.by_index.1 refl refl
