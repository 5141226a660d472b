use Rattle.std.proofs.Common.{[], ◌∷◌, ◌∙◌, sym}
use Rattle.driver.specs.Lines.{begun, byte_pairs, message_line}
use Rattle.driver.proofs.Lines.{written_four, one_line}
use Rattle.driver.proofs.page.Page.message.Goals as goal

pub returns : goal.returns
returns c =
    let p = c.args.self.now in
    rw (c.put-3.ensures, c.pairs.ensures, c.put-2.ensures, c.put.ensures, c.begin.ensures)
    (written_four (begun p) (82 ∷ []) (32 ∷ []) (byte_pairs c.args.m.now) (10 ∷ []) ∙ sym (one_line p (message_line c.args.m.now)))
