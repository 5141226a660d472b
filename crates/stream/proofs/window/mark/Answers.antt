-- Assumes nothing.
use mathlib.Core.Logic.{⊎_elim}
use native.Mathlib.Omega.{arith}
use borrow.Author.Tests.{lt-ltb, le-ltb}
use Rattle.bits.proofs.Lists.{lt_or_le}
use Rattle.stream.proofs.Marks.{mark_low, mark_high}
use Rattle.stream.proofs.window.mark.Goals as goal

pub returns : goal.returns
returns c =
    ⊎_elim
    (λ h. rw (c.with-low.ensures.low, c.with-low.ensures.high, lt-ltb c.args.d 64 h) (mark_low _ _ _ _ _ _ (omega arith) h))
    (λ h. rw (c.with-low.ensures.low, c.with-low.ensures.high, le-ltb c.args.d 64 h) (mark_high _ _ _ _ _ _ (omega arith) h))
    (lt_or_le c.args.d 64)
