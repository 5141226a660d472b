use Rattle.std.proofs.Common.{false, [], ◌∷◌, ◌∙◌, sym}
use Rattle.text.specs.Digits.{digits_of}
use Rattle.driver.specs.Lines.{begun, word_line}
use Rattle.driver.proofs.Lines.{written_then, one_line}
use Rattle.driver.proofs.page.Page.word.Goals as goal

pub returns : goal.returns
returns c =
    let p = c.args.self.now in
    rw (c.put.ensures, c.big.ensures, c.from.ensures, c.begin.ensures)
    (written_then (begun p) (digits_of false c.args.w 8) (10 ∷ []) ∙ sym (one_line p (word_line c.args.w)))
