use Rattle.driver.proofs.Lines.{wrote_on}
use Rattle.driver.proofs.page.PageWrite.write_str.Goals as goal

pub returns : goal.returns
returns c = record { ok = λ _. rw c.as_bytes.ensures.value at (wrote_on c.args.self.now c.text.ensures) }
