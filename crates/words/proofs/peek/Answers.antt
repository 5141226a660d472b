-- `words::peek` meets its contract: each return is one law of `Read`. Assumes nothing.
use mathlib.Core.Path.{sym, ◌∙◌}
use Rattle.words.proofs.Read.{peek_end, peek_lost, peek_other}
use Rattle.words.proofs.peek.Goals as goal

pub returns-in_default : goal.returns-in_default
returns-in_default c = let a = c.args in sym (peek_end a.words.now a.at c.in_default.ensures.lookup.3)

pub returns-then-w : goal.returns-then-w
returns-then-w c = let a = c.args in let w = c.in-Some.ensures.lookup.3 in sym (peek_lost a.words.now a.at w.0 (sym (w.1 0) ∙ c.if-w.true))

pub returns : goal.returns
returns c =
    let a = c.args in
    let w = c.in-Some.ensures.lookup.3 in
    let e = w.1 0 in
    rw (e, c.word_or_zero-v.ensures) (sym (peek_other a.words.now a.at w.0 (λ h. c.if-w.false (e ∙ h))))
