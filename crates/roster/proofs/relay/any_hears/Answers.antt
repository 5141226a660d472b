-- Assumes nothing.
use Rattle.bits.proofs.Loops.{any_pass, any_stop, any_end}
use mathlib.Core.Path.{refl, sym, ◌∙◌}
use Rattle.roster.specs.Relays.{any_hears}
use Rattle.roster.proofs.relay.any_hears.Goals as goal

pub loop-i-init : goal.loop-i-init
unfolding any_hears
loop-i-init c = refl

pub returns-then-hears_it : goal.returns-then-hears_it
returns-then-hears_it c =
    sym (any_stop _ _ _ c.loop-i-test.true (sym c.hears_it.ensures ∙ c.if-hears_it.true)) ∙ c.loop-i.invariant

pub loop-i-preserved : goal.loop-i-preserved
loop-i-preserved c =
    sym (any_pass _ _ _ c.loop-i-test.true (sym c.hears_it.ensures ∙ c.if-hears_it.false)) ∙ c.loop-i.invariant

pub returns : goal.returns
returns c = sym (any_end _ _ _ c.loop-i-test.false) ∙ c.loop-i.invariant
