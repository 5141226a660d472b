use mathlib.Core.Path.{◌≡◌, sym, ap, ◌∙◌}
use native.Mathlib.Omega.{arith}
use borrow.Author.Tests.{eqb-true, eqb-false}
use Rattle.words.specs.Words.{item_at, shape_of, last_shape}
use Rattle.words.proofs.Laws.{shape_end, shape_more, shape_full, item_within, parse_none, parse_head_bad, parse_head, from_all}
use Rattle.words.proofs.shape_of.Goals as goal

pub returns-then-is_empty : goal.returns-then-is_empty
returns-then-is_empty c = rw (parse_none c.args.words.now (eqb-true _ _ (sym c.is_empty.ensures ∙ c.if-is_empty.true)))

pub returns-then-not-head_ok : goal.returns-then-not-head_ok
returns-then-not-head_ok c =
    let a = c.args in
    let n = eqb-false _ _ (sym c.is_empty.ensures ∙ c.if-is_empty.false) in
    ap shape_of (sym (parse_head_bad a.words.now (omega arith) (sym c.head_ok.ensures ∙ c.if-not-head_ok.true)))

pub loop-n-init : goal.loop-n-init
loop-n-init c =
    let a = c.args in
    let n = eqb-false _ _ (sym c.is_empty.ensures ∙ c.if-is_empty.false) in (
      omega arith,
      parse_head a.words.now (omega arith) (sym c.head_ok.ensures ∙ c.if-not-head_ok.false),
    )

pub returns-then-size-eq0 : goal.returns-then-size-eq0
returns-then-size-eq0 c =
    let i = c.item_at-i in
    let e = i.ensures ∙ ap item_at (from_all c.args.words.now c.loop-n.at) in
    let s = c.size_of-size in
    c.last.ensures
    ∙ sym (c.loop-n.invariant.1 ∙ shape_end c.args.words.now c.loop-n.at c.loop-n.n i.result s.result e s.ensures (omega arith) c.if-size-eq0.true)

pub loop-n-preserved : goal.loop-n-preserved
loop-n-preserved c =
    let i = c.item_at-i in
    let e = i.ensures ∙ ap item_at (from_all c.args.words.now c.loop-n.at) in
    let s = c.size_of-size in (
      item_within c.args.words.now c.loop-n.at i.result s.result c.loop-n.invariant.0 e s.ensures,
      c.loop-n.invariant.1 ∙ shape_more c.args.words.now c.loop-n.at c.loop-n.n i.result s.result e s.ensures (omega arith) c.if-size-eq0.false,
    )

pub returns : goal.returns
returns c =
    let i = c.item_at in
    let w = i.ensures ∙ ap item_at (from_all c.args.words.now c.loop-n.at) in
    let e : c.loop-n.n ≡ 64 = omega arith in
    c.last-2.ensures
    ∙ sym (c.loop-n.invariant.1 ∙ shape_full c.args.words.now c.loop-n.at c.loop-n.n i.result w (omega arith) ∙ ap (last_shape i.result) e)
