use Rattle.std.proofs.Common.{false, [], ◌∷◌, ◌∙◌, sym}
use Rattle.text.specs.Digits.{digits_of}
use Rattle.driver.specs.Lines.{begun, mask_line}
use Rattle.driver.proofs.Lines.{written_four, one_line}
use Rattle.driver.proofs.page.Page.mask.Goals as goal

pub returns : goal.returns
returns c =
    let p = c.args.self.now in
    rw (c.put-3.ensures, c.big.ensures, c.put-2.ensures, c.put.ensures, c.begin.ensures)
    (written_four (begun p) (77 ∷ []) (32 ∷ []) (digits_of false c.args.w 8) (10 ∷ []) ∙ sym (one_line p (mask_line c.args.w)))
