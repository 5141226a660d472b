-- The checks, then the passes one after the other. Assumes nothing.
use mathlib.Core.Path.{◌≡◌, ap, ◌∙◌}
use mathlib.Core.Bool.{true}
use mathlib.Core.List.{List}
use Prim.Native.Nat.{ℕ}
use Rattle.outbox.proofs.Turns as T
use Rattle.words.specs.Words.{least}
use Rattle.outbox.specs.Outbox as O
use Rattle.outbox.specs.Senders as S
use Rattle.out.proofs.Laws.{writes_as, writes_back}
use Rattle.outbox.specs.Bursts.{sent_words}
use Rattle.outbox.proofs.Bursting as B
use borrow.Author.Rules.{rules}
use Rattle.outbox.proofs.taking.take.Goals as goal

pub returns-in_err-check_take-clause-words : goal.returns-in_err-check_take-clause-words
returns-in_err-check_take-clause-words c =
    let a = c.args in
    B.no_words c.from_residual.result a.out.now (sent_words (O.take_out a.max a.room (S.outbox a.s.now a.bytes.now a.marks.now)).out) c.from_residual.ensures.0

pub returns : goal.returns
returns c =
    let a = c.args in
    let r = c.recut_all in
    let w = c.sweep_all-lost in
    let f = c.fresh_all-new in
    let v = c.sweep_all in
    let o = S.outbox a.s.now a.bytes.now a.marks.now in
    let n = S.count_of a.s.now in
    let en : S.count_of f.new.s ≡ S.count_of a.s.now = ap (λ (x : ℕ). least x 8) f.ensures.numbers.0 in
    let B1 = S.msgs a.s.now a.bytes.now r.new.marks (S.count_of a.s.now) 0 in
    let B2 = S.msgs a.s.now a.bytes.now w.new.marks (S.count_of a.s.now) 0 in
    let B3 = S.msgs f.new.s a.bytes.now f.new.marks (S.count_of a.s.now) 0 in
    let B4 = S.msgs f.new.s a.bytes.now v.new.marks (S.count_of f.new.s) 0 in
    let e3 = ap (λ (k : ℕ). S.msgs f.new.s a.bytes.now f.new.marks k 0) en in
    let e4 = v.ensures.msgs ∙ ap (O.sweep true f.result) e3 in
    let w3 = writes_as v.ensures.words (ap (λ (x : List O.OutMsg). sent_words (O.sweep_out true f.result x)) e3) in record {
      untouched = tt;
      refusal = c.in_ok-check_take.ensures;
      outbox =
          ap (λ (x : List O.OutMsg). record { msgs = x; next_seq = f.new.s.next })
          (B.take_msgs a.max a.room o B1 B2 B3 B4 w.result f.result (r.ensures a.bytes.now) w.ensures.msgs w.ensures.words w.ensures.left f.ensures.msgs f.ensures.words f.ensures.left e4 w3)
          ∙ ap (λ (x : ℕ). record { msgs = (O.take_out a.max a.room o).msgs; next_seq = x }) f.ensures.numbers.1;
      words =
          writes_back
          (B.take_words a.max a.room o B1 B2 B3 B4 w.result f.result (r.ensures a.bytes.now) w.ensures.msgs w.ensures.words w.ensures.left f.ensures.msgs f.ensures.words f.ensures.left e4 w3) (search rules);
    }
