use mathlib.Core.Path.{sym, ap, ◌∙◌}
use native.Mathlib.Omega.{arith}
use Rattle.words.proofs.Laws.{from_all}
use Rattle.logs.specs.Reading.{part_of}
use Rattle.logs.proofs.Parts.{part_within, parts_bad, parts_more, parts_end}
use Rattle.logs.proofs.sendings_ok.Goals as goal

pub overflow_add-at : goal.overflow_add-at
overflow_add-at c =
    let l = c.loop-at in
    let w = part_within c.args.words.now l.at l.room c.in-Some.p l.invariant.0 (sym c.in-Some.is ∙ c.part_at.ensures ∙ ap (part_of l.room) (from_all c.args.words.now l.at)) in omega (arith, w.1)

pub loop-at-smaller : goal.loop-at-smaller
loop-at-smaller c =
    let l = c.loop-at in
    let w = part_within c.args.words.now l.at l.room c.in-Some.p l.invariant.0 (sym c.in-Some.is ∙ c.part_at.ensures ∙ ap (part_of l.room) (from_all c.args.words.now l.at)) in omega (arith, w.0, w.1)

pub loop-at-preserved : goal.loop-at-preserved
loop-at-preserved c =
    let l = c.loop-at in
    let e = sym c.in-Some.is ∙ c.part_at.ensures ∙ ap (part_of l.room) (from_all c.args.words.now l.at) in
    let w = part_within c.args.words.now l.at l.room c.in-Some.p l.invariant.0 e in
    (w.1, l.invariant.1 ∙ parts_more c.args.words.now l.at l.room (omega arith) c.in-Some.p e w.0)

pub returns : goal.returns
returns c = sym (c.loop-at.invariant.1 ∙ parts_end c.args.words.now c.loop-at.at c.loop-at.room (omega arith))

pub returns-in_default : goal.returns-in_default
returns-in_default c =
    let l = c.loop-at in sym (l.invariant.1 ∙ parts_bad c.args.words.now l.at l.room (omega arith) (sym c.in_default.is ∙ c.part_at.ensures ∙ ap (part_of l.room) (from_all c.args.words.now l.at)))
