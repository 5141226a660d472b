use mathlib.Core.Path.{sym, ◌∙◌}
use native.Mathlib.Omega.{arith}
use Rattle.words.proofs.Laws.{payload_rest, payload_bad, payload_more, payload_done}
use Rattle.words.proofs.payload_ok.Goals as goal

pub returns-then-left-eq0 : goal.returns-then-left-eq0
returns-then-left-eq0 c = sym (c.loop-w.invariant ∙ payload_done _ _ c.if-left-eq0.true)

pub returns-then-not-word_ok : goal.returns-then-not-word_ok
returns-then-not-word_ok c =
    sym (c.loop-w.invariant
    ∙ payload_bad c.args.words.now c.loop-w.w-index c.loop-w.left (omega arith) (omega arith)
    (sym c.word_ok.ensures ∙ c.if-not-word_ok.true))

pub loop-w-preserved : goal.loop-w-preserved
loop-w-preserved c =
    c.loop-w.invariant
    ∙ payload_more c.args.words.now c.loop-w.w-index c.loop-w.left c.saturating_sub-left.result (omega arith) (omega arith)
    c.saturating_sub-left.ensures (sym c.word_ok.ensures ∙ c.if-not-word_ok.false)

pub returns : goal.returns
returns c = sym (c.loop-w.invariant ∙ payload_rest c.args.words.now c.loop-w.w-index c.loop-w.left (omega arith))
