use Rattle.std.proofs.Common.{◌+◌, drop, refl, sym, ap, ◌∙◌, arith}
use Rattle.driver.specs.declared.page.Page.{Page}
use Rattle.driver.specs.Lines.{word_lines, lines_on}
use Rattle.driver.proofs.Lines.{lines_turn, lines_end}
use Rattle.driver.proofs.page.Page.words.Goals as goal

pub loop-w-init : goal.loop-w-init
loop-w-init c = refl

pub loop-w-preserved : goal.loop-w-preserved
loop-w-preserved c =
    let ws = c.args.ws.now in
    let i = c.loop-w.w-index in
    ap (λ (q : Page). lines_on q (word_lines (drop (i + 1) ws))) c.word.ensures
    ∙ sym (lines_turn _ ws i (omega arith))
    ∙ c.loop-w.invariant

pub returns : goal.returns
returns c = sym (lines_end _ c.args.ws.now c.loop-w.w-index (omega arith)) ∙ c.loop-w.invariant
