-- Assumes nothing.
use mathlib.Core.Logic.{⊎_elim}
use Prim.Native.Nat.{◌-◌}
use native.Mathlib.Omega.{arith}
use borrow.Author.Tests.{lt-leb, lt-ltb, le-ltb}
use Rattle.bits.proofs.Lists.{lt_or_le}
use Rattle.stream.specs.Window.{bar_of}
use Rattle.stream.proofs.Marks.{bar_low, bar_high}
use Rattle.stream.proofs.window.bar.Goals as goal

pub returns-then-number-next : goal.returns-then-number-next
unfolding bar_of
returns-then-number-next c = rw (lt-leb _ _ c.if-number-next.true)

pub returns : goal.returns
returns c =
    let d = c.args.number - c.args.w.next in
    ⊎_elim
    (λ h. rw (c.with-barlow.ensures.low, c.with-barlow.ensures.high, lt-ltb d 64 h) (bar_low _ _ _ _ _ _ (omega arith) (omega arith) h))
    (λ h. rw (c.with-barlow.ensures.low, c.with-barlow.ensures.high, le-ltb d 64 h) (bar_high _ _ _ _ _ _ (omega arith) (omega arith) h))
    (lt_or_le d 64)
