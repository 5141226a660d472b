-- Each answer of the code is the definition's, by the tests that led to it. Assumes nothing.
use borrow.Author.Tests.{le-ltb}
use Rattle.inbox.proofs.keep.shorter.Goals as goal

pub returns-then-offset-cell : goal.returns-then-offset-cell
returns-then-offset-cell c = simp (le-ltb _ _ c.if-offset-cell.true)
