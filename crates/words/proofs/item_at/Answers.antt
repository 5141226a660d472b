-- `words::item_at` meets its contract: each return is one law of `Laws`, at the tests that led there. Assumes nothing.
use mathlib.Core.Path.{sym, ap, ◌∙◌}
use mathlib.Core.Bool.{true, false}
use mathlib.Core.List.{List}
use Prim.Native.Nat.{ℕ, ◌/◌, ◌%◌}
use native.Mathlib.Omega.{arith}
use lib.ListN.{get_or}
use Rattle.words.specs.Words.{payload_ok}
use Rattle.words.proofs.Laws.{item_end, item_lost, item_other, item_frame, frame_end, frame_other, frame_by, behind_two, behind_length, behind_first}
use Rattle.words.proofs.item_at.Goals as goal

pub returns-in_default : goal.returns-in_default
returns-in_default c = sym (item_end c.args.words.now 0 (omega arith))

pub returns-then-w : goal.returns-then-w
returns-then-w c = sym (item_lost c.args.words.now 0 (omega arith) c.if-w.true)

pub returns-then-w-ne40960 : goal.returns-then-w-ne40960
returns-then-w-ne40960 c = sym (item_other c.args.words.now 0 (omega arith) c.if-w.false c.if-w-ne40960.true)

pub returns-in_default-rest : goal.returns-in_default-rest
returns-in_default-rest c =
    let ws = c.args.words.now in
    let n = behind_length ws in
    sym (item_frame ws 0 (omega arith) c.if-w.false c.if-w-ne40960.false ∙ frame_end ws 1 _ (omega arith))

pub returns-then-v-ne176 : goal.returns-then-v-ne176
returns-then-v-ne176 c =
    let ws = c.args.words.now in
    let n = behind_length ws in
    sym (item_frame ws 0 (omega arith) c.if-w.false c.if-w-ne40960.false
    ∙ frame_other ws 1 _ (omega arith) (λ h. c.if-v-ne176.true (ap (λ (x : ℕ). x / 16777216) (behind_first ws) ∙ h)))

pub returns-then-not-payload_ok : goal.returns-then-not-payload_ok
returns-then-not-payload_ok c =
    let ws = c.args.words.now in
    let n = behind_length ws in
    let p = sym c.if-not-payload_ok.true ∙ c.payload_ok.ensures ∙ ap (λ (l : List ℕ). payload_ok l (get_or ws 0 0 % 256)) (behind_two ws) in
    sym (item_frame ws 0 (omega arith) c.if-w.false c.if-w-ne40960.false
    ∙ frame_by ws 1 _ false (omega arith) (ap (λ (x : ℕ). x / 16777216) (sym (behind_first ws)) ∙ c.if-v-ne176.false) p)

pub returns : goal.returns
returns c =
    let ws = c.args.words.now in
    let n = behind_length ws in
    let p = sym c.if-not-payload_ok.false ∙ c.payload_ok.ensures ∙ ap (λ (l : List ℕ). payload_ok l (get_or ws 0 0 % 256)) (behind_two ws) in
    rw (behind_first ws)
    (sym (item_frame ws 0 (omega arith) c.if-w.false c.if-w-ne40960.false
    ∙ frame_by ws 1 _ true (omega arith) (ap (λ (x : ℕ). x / 16777216) (sym (behind_first ws)) ∙ c.if-v-ne176.false) p))
