use Rattle.std.proofs.Common.{◌/◌, ◌%◌, take}
use Rattle.driver.specs.Lines.{word_lines, mask_line}
use Rattle.driver.proofs.Lines.{masked, plain}
use Rattle.driver.proofs.page.Page.reception.Goals as goal

pub returns-then-drive : goal.returns-then-drive
returns-then-drive c =
    let a = c.args in
    masked a.self.now (word_lines (take a.n a.out.now)) (mask_line (a.mask / 4294967296)) (mask_line (a.mask % 4294967296)) c.if-drive.true
    (rw c.first.ensures at c.words.ensures) c.mask.ensures c.mask-then-drive.ensures

pub returns-else-drive : goal.returns-else-drive
returns-else-drive c =
    let a = c.args in
    plain a.self.now (word_lines (take a.n a.out.now)) (mask_line (a.mask / 4294967296)) (mask_line (a.mask % 4294967296)) c.if-drive.false
    (rw c.first.ensures at c.words.ensures)
