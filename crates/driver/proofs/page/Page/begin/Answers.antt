use Rattle.driver.specs.Lines.{begun}
use Rattle.driver.proofs.page.Page.begin.Goals as goal

pub returns : goal.returns
unfolding begun
returns c = rw (c.room.ensures.end, c.room.ensures.bytes)
