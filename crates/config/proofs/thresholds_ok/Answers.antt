-- Assumes nothing.
use Rattle.std.proofs.Common.{◌∙◌, rules, tests}
use Rattle.std.proofs.lemmas.Iterator.{YieldsList-from_slice}
use Rattle.std.proofs.lemmas.Iterator.Search.{all_from_yields_List}
use Rattle.std.specs.Float.{nan}
use Rattle.level.specs.Spans.{within}
use Rattle.config.specs.Checks.{thresholds_ok}
use Rattle.config.proofs.Every.{every_in}
use Rattle.config.proofs.thresholds_ok.Goals as goal

pub returns : goal.returns
unfolding thresholds_ok
returns c =
    all_from_yields_List (within 200) _ _ _ c.all.ensures.ran (YieldsList-from_slice c.args.t.now cc) (λ x b q k. search (rules, tests))
    ∙ every_in (within 200) nan c.args.t.now c.told-t
