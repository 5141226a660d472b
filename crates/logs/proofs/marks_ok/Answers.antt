use mathlib.Core.Path.{sym, ap, ◌∙◌}
use Rattle.logs.specs.Steps.{marks_end}
use Rattle.logs.proofs.Lists.{marks_walk}
use Rattle.logs.proofs.marks_ok.Goals as goal

pub returns-in-Some : goal.returns-in-Some
returns-in-Some c = ap marks_end (sym c.in-Some.is ∙ c.marks_read.ensures) ∙ marks_walk c.args.words.now

pub returns-in-None : goal.returns-in-None
returns-in-None c = ap marks_end (sym c.in-None.is ∙ c.marks_read.ensures) ∙ marks_walk c.args.words.now
