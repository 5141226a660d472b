-- Assumes nothing.
use Rattle.std.proofs.Common.{◌≡◌, ◌⊎◌, refl}
use mathlib.Core.Logic.{⊎_elim}
use Rattle.out.proofs.Laws.{writes_none}
use Rattle.next.specs.declared.Act.TheVariants.{Wait, Draw, Poll}
use Rattle.next.proofs.spoken.Goals as goal

pub returns-in-Wait : goal.returns-in-Wait
returns-in-Wait c =
    let other : (c.args.a ≡ Wait) ⊎ ((c.args.a ≡ Draw) ⊎ (c.args.a ≡ Poll)) = c.in-Wait.is in
    ⊎_elim
    (λ e. rw e (refl, writes_none _))
    (λ s. ⊎_elim (λ e. rw e (refl, writes_none _)) (λ e. rw e (refl, writes_none _)) s)
    other
