-- Assumes nothing.
use mathlib.Core.Path.{◌≡◌, ap, ◌∙◌}
use borrow.Author.Tests.{eq-eqb, ne_eqb}
use Rattle.bits.specs.Mask.{without_bit}
use Rattle.roster.specs.Relays.{relayer_for}
use Rattle.roster.proofs.relay.relayer_for.Goals as goal

pub returns-then-first-ne-ALL : goal.returns-then-first-ne-ALL
unfolding relayer_for
returns-then-first-ne-ALL c =
    let a = c.args in
    let e : c.without-others.result ≡ without_bit a.able a.a = c.without-others.ensures ∙ ap (without_bit a.able) c.from.ensures in
    rw (← e, ← c.minus.ensures, ← c.best_low-first.ensures, ne_eqb _ _ c.if-first-ne-ALL.true)

pub returns : goal.returns
unfolding relayer_for
returns c =
    let a = c.args in
    let e : c.without-others.result ≡ without_bit a.able a.a = c.without-others.ensures ∙ ap (without_bit a.able) c.from.ensures in
    rw (← e, ← c.minus.ensures, ← c.best_low-first.ensures, eq-eqb _ _ c.if-first-ne-ALL.false) c.best_low.ensures
