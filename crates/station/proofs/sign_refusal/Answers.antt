-- Assumes nothing.
use borrow.Author.Tests.{lt-ltb, le-ltb}
use Rattle.station.specs.SignOff.{sign_off_refusal}
use Rattle.station.proofs.sign_refusal.Goals as goal

pub returns-then-slot-gt61 : goal.returns-then-slot-gt61
unfolding sign_off_refusal
returns-then-slot-gt61 c = rw (lt-ltb _ _ c.if-slot-gt61.true)

pub returns-then-is_member : goal.returns-then-is_member
unfolding sign_off_refusal
returns-then-is_member c = rw (le-ltb _ _ c.if-slot-gt61.false, ← c.is_member.ensures, c.if-is_member.true)

pub returns : goal.returns
unfolding sign_off_refusal
returns c = rw (le-ltb _ _ c.if-slot-gt61.false, ← c.is_member.ensures, c.if-is_member.false)
