use mathlib.Core.Path.{refl, sym, ap, ◌∙◌}
use mathlib.Core.List.{[], map}
use Prim.Native.Nat.{ℕ}
use native.Mathlib.Omega.{arith}
use Rattle.outbox.specs.Outbox as O
use Rattle.outbox.specs.Senders as S
use Rattle.outbox.proofs.Places as L
use Rattle.outbox.proofs.Bursting as B
use Rattle.outbox.proofs.taking.recut_all.Goals as goal

pub loop-i-init : goal.loop-i-init
loop-i-init c =
    let n = c.count_of-n in
    let a = c.args in
    (n.ensures.0, n.ensures.1, c.requires.0, refl, λ bytes. L.msgs_begin a.s bytes a.marks.now (map (O.recut_in a.max)) n.result)

pub loop-i-preserved : goal.loop-i-preserved
loop-i-preserved c =
    let a = c.args in
    let l = c.loop-i in
    let i = l.invariant in
    let t = c.recut_at in (
      i.0,
      i.1,
      i.2,
      B.recut_same a.max c.requires.1.0 a.s [] l.marks t.new.marks c.count_of-n.result l.i (omega arith) i.1 (omega arith) t.ensures ∙ i.3,
      λ bytes. B.recut_turn a.max c.requires.1.0 a.s bytes l.marks t.new.marks c.count_of-n.result l.i (omega arith) i.1 (omega arith) t.ensures ∙ i.4 bytes,
    )

pub returns : goal.returns
returns c =
    let a = c.args in
    let l = c.loop-i in
    let i = l.invariant in
    let n = c.count_of-n in
    λ bytes. ap (λ (k : ℕ). S.msgs a.s bytes l.marks k 0) (sym i.0) ∙ L.msgs_end a.s bytes l.marks (map (O.recut_in a.max)) n.result l.i (omega arith) refl ∙ i.4 bytes
    ∙ ap (λ (k : ℕ). map (O.recut_in a.max) (S.msgs a.s bytes a.marks.now k 0)) i.0
