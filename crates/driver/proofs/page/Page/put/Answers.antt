use Rattle.driver.proofs.Lines.{wrote_on}
use Rattle.driver.proofs.page.Page.put.Goals as goal

pub returns : goal.returns
returns c = wrote_on _ c.put.ensures
