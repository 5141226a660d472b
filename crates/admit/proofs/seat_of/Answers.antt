-- Assumes nothing.
use mathlib.Core.Path.{sym, ◌∙◌}
use Rattle.admit.proofs.Laws.{seat_known, seat_newcomer, seat_none}
use Rattle.admit.proofs.seat_of.Goals as goal

pub returns-in-Some : goal.returns-in-Some
returns-in-Some c =
    seat_known _ _ _ c.key_of.ensures _ (sym c.find_call.ensures ∙ c.in-Some.is)

pub returns-in-Some-lowest_free : goal.returns-in-Some-lowest_free
returns-in-Some-lowest_free c =
    seat_newcomer _ _ _ c.key_of.ensures _ (sym c.find_call.ensures ∙ c.in-None.is) (sym c.lowest_free.ensures ∙ c.in-Some-lowest_free.is)

pub returns-in-None-lowest_free : goal.returns-in-None-lowest_free
returns-in-None-lowest_free c =
    seat_none _ _ _ c.key_of.ensures (sym c.find_call.ensures ∙ c.in-None.is) (sym c.lowest_free.ensures ∙ c.in-None-lowest_free.is)
