use Rattle.std.proofs.Common.{◌+◌, drop, refl, sym, ap, ◌∙◌, arith}
use Rattle.driver.specs.declared.page.Page.{Page}
use Rattle.driver.specs.Lines.{byte_pairs, written}
use Rattle.driver.proofs.Lines.{pairs_turn, pairs_end}
use Rattle.driver.proofs.page.Page.pairs.Goals as goal

pub loop-x-init : goal.loop-x-init
loop-x-init c = refl

pub loop-x-preserved : goal.loop-x-preserved
loop-x-preserved c =
    let m = c.args.m.now in
    let i = c.loop-x.x-index in
    ap (λ (q : Page). written q (byte_pairs (drop (i + 1) m))) (rw c.from.ensures at c.big.ensures)
    ∙ sym (pairs_turn _ m i (omega arith))
    ∙ c.loop-x.invariant

pub returns : goal.returns
returns c = sym (pairs_end _ c.args.m.now c.loop-x.x-index (omega arith)) ∙ c.loop-x.invariant
