-- Assumes nothing.
use Rattle.std.proofs.Common.{◌∙◌, rules, tests}
use Rattle.std.proofs.lemmas.Iterator.{YieldsList-from_slice}
use Rattle.std.proofs.lemmas.Iterator.Search.{all_from_yields_List}
use Rattle.std.specs.Float.{nan}
use Rattle.config.specs.Checks.{span_ok, data_ok}
use Rattle.config.proofs.Every.{every_in}
use Rattle.config.proofs.data_ok.Goals as goal

pub returns : goal.returns
unfolding data_ok
returns c =
    all_from_yields_List span_ok _ _ _ c.all.ensures.ran (YieldsList-from_slice c.args.d.now cc) (λ x b q k. search (rules, tests))
    ∙ every_in span_ok nan c.args.d.now c.told-d
