-- Assumes nothing.
use borrow.Author.Tests.{lt-ltb, le-ltb}
use Rattle.station.specs.Entries.{post_refusal}
use Rattle.station.proofs.post_refusal.Goals as goal

pub returns-then-lent-lt126976 : goal.returns-then-lent-lt126976
unfolding post_refusal
returns-then-lent-lt126976 c = rw (lt-ltb _ _ c.if-lent-lt126976.true)

pub returns-then-slot-gt61 : goal.returns-then-slot-gt61
unfolding post_refusal
returns-then-slot-gt61 c = rw (le-ltb _ _ c.if-lent-lt126976.false, lt-ltb _ _ c.if-slot-gt61.true)

pub returns-then-is_member : goal.returns-then-is_member
unfolding post_refusal
returns-then-is_member c =
    rw (le-ltb _ _ c.if-lent-lt126976.false, le-ltb _ _ c.if-slot-gt61.false, ← c.is_member.ensures, c.if-is_member.true) c.space_refusal.ensures

pub returns : goal.returns
unfolding post_refusal
returns c =
    rw (le-ltb _ _ c.if-lent-lt126976.false, le-ltb _ _ c.if-slot-gt61.false, ← c.is_member.ensures, c.if-is_member.false)
