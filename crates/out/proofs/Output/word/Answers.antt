-- `out::Output::word` meets its contract. Assumes nothing.
use mathlib.Core.Path.{refl}
use Rattle.out.proofs.Laws.{word_in, word_past}
use Rattle.out.proofs.Output.word.Goals as goal

pub returns-then-self : goal.returns-then-self
returns-then-self c = let o = c.args.self.now in record { same = refl; wrote = word_in o.words.now o.at c.args.w c.if-self.true }

pub returns-else-self : goal.returns-else-self
returns-else-self c = let o = c.args.self.now in record { same = refl; wrote = word_past o.words.now o.at c.args.w c.if-self.false }
