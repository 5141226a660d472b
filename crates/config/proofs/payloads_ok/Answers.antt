-- Assumes nothing.
use Rattle.std.proofs.Common.{◌∙◌, rules, tests}
use Rattle.std.proofs.lemmas.Iterator.{YieldsList-from_slice}
use Rattle.std.proofs.lemmas.Iterator.Search.{all_from_yields_List}
use Rattle.std.proofs.Common.{not, eqb}
use Rattle.config.specs.Checks.{payloads_ok}
use Rattle.config.proofs.Every.{every_in}
use Rattle.config.proofs.payloads_ok.Goals as goal

pub returns : goal.returns
unfolding payloads_ok
returns c =
    all_from_yields_List (λ x. not (eqb x 0)) _ _ _ c.all.ensures.ran (YieldsList-from_slice c.args.p.now cc) (λ x b q k. search (rules, tests))
    ∙ every_in (λ x. not (eqb x 0)) 0 c.args.p.now c.told-p
