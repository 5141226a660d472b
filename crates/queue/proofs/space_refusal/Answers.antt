-- Assumes nothing.
use borrow.Author.Tests.{lt-ltb, le-ltb}
use Rattle.queue.specs.Queues.{space_refusal}
use Rattle.queue.proofs.space_refusal.Goals as goal

pub returns-then-n-gt2046 : goal.returns-then-n-gt2046
unfolding space_refusal
returns-then-n-gt2046 c = rw (lt-ltb _ _ c.if-n-gt2046.true)

pub returns-then-q-n : goal.returns-then-q-n
unfolding space_refusal
returns-then-q-n c = rw (le-ltb _ _ c.if-n-gt2046.false, lt-ltb _ _ c.if-q-n.true)

pub returns-then-q-n-gt16777215 : goal.returns-then-q-n-gt16777215
unfolding space_refusal
returns-then-q-n-gt16777215 c = rw (le-ltb _ _ c.if-n-gt2046.false, le-ltb _ _ c.if-q-n.false, lt-ltb _ _ c.if-q-n-gt16777215.true)

pub returns : goal.returns
unfolding space_refusal
returns c = rw (le-ltb _ _ c.if-n-gt2046.false, le-ltb _ _ c.if-q-n.false, le-ltb _ _ c.if-q-n-gt16777215.false)
