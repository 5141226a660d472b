use Rattle.bits.proofs.Loops.{first_pass, first_stop, first_end}
use mathlib.Core.Path.{sym, ◌∙◌, ap}
use native.Mathlib.Omega.{arith}
use Rattle.bits.specs.Mask.{without_bit}
use Rattle.roster.proofs.Laws.{none_left, no_slot, at_slot}
use Rattle.roster.specs.Relays.{slot_or63}
use Rattle.roster.proofs.relay.relay_src_for.Goals as goal

pub returns-then-slot-ge62 : goal.returns-then-slot-ge62
returns-then-slot-ge62 c = sym (no_slot _ _ _ _ _ _ c.if-slot-ge62.true)

pub returns-then-left-eq0 : goal.returns-then-left-eq0
returns-then-left-eq0 c = sym (none_left _ _ _ _ _ _ (ap (without_bit c.args.needs) (sym c.from.ensures) ∙ sym c.without-left.ensures ∙ c.if-left-eq0.true))

pub loop-a-init : goal.loop-a-init
loop-a-init c = rw (c.without-left.ensures, c.from.ensures) (at_slot _ _ _ _ _ _ (omega arith))

pub returns-then-is_source : goal.returns-then-is_source
returns-then-is_source c =
    ap slot_or63 (sym (first_stop _ _ _ c.loop-a-test.true (sym c.is_source.ensures ∙ c.if-is_source.true))) ∙ c.loop-a.invariant

pub loop-a-preserved : goal.loop-a-preserved
loop-a-preserved c =
    ap slot_or63 (sym (first_pass _ _ _ c.loop-a-test.true (sym c.is_source.ensures ∙ c.if-is_source.false))) ∙ c.loop-a.invariant

pub returns : goal.returns
returns c = ap slot_or63 (sym (first_end _ _ _ c.loop-a-test.false)) ∙ c.loop-a.invariant
