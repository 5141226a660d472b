use Rattle.driver.proofs.Lines.{wrote_on}
use Rattle.driver.proofs.page.Page.small.Goals as goal

pub returns : goal.returns
returns c = wrote_on _ c.hex.ensures
