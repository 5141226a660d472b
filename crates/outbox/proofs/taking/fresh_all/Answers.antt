use mathlib.Core.Path.{◌≡◌, refl, sym, ap, ◌∙◌}
use mathlib.Core.Bool.{false}
use mathlib.Core.List.{◌++◌, map}
use Prim.Native.Nat.{ℕ, ◌+◌, ◌-◌, ◌<◌}
use native.Mathlib.Omega.{arith}
use lib.ListN.{length}
use Rattle.outbox.specs.declared.sender.Sender.{Sender}
use Rattle.outbox.specs.Outbox as O
use Rattle.outbox.specs.Senders as S
use Rattle.outbox.proofs.Places as L
use Rattle.outbox.proofs.Sending as W
use lib.ListN.{length-map}
use Rattle.out.proofs.Laws.{writes_as}
use Rattle.outbox.specs.Bursts.{sent_words}
use Rattle.outbox.proofs.Bursting as B
use Rattle.outbox.proofs.taking.fresh_all.Goals as goal

pub loop-i-init : goal.loop-i-init
loop-i-init c =
    let n = c.count_of-n in
    let a = c.args in
    let p = c.requires in
    let z : n.result - 0 ≡ n.result = omega arith in (
      n.ensures.0,
      n.ensures.1,
      p.1.0,
      refl,
      refl,
      refl,
      L.msgs_begin a.s.now a.bytes.now a.marks.now (O.fresh a.max a.room) n.result,
      B.passing_as (B.passing_start (O.fresh_out a.max a.room (S.msgs a.s.now a.bytes.now a.marks.now n.result 0)) a.o.now a.room) (ap (λ (k : ℕ). O.fresh_out a.max a.room (S.msgs a.s.now a.bytes.now a.marks.now k 0)) (sym z)),
    )

pub loop-i-preserved : goal.loop-i-preserved
loop-i-preserved c =
    let a = c.args in
    let p = c.requires in
    let l = c.loop-i in
    let i = l.invariant in
    let t = c.fresh_at-c in
    let u = c.set_cut in
    let lt = c.loop-i-test.true in
    let n = c.count_of-n.result in
    let m = t.new.marks in
    let h : l.i < n = omega arith in
    let h8 : l.i < 8 = omega arith in
    let e = t.ensures in
    let qs = O.cut_up l.left a.max (S.cut_of l.s l.i) (S.total_of l.s l.i) false in
    let ps = map (O.sent_piece_of (S.message_at l.s l.i).seq (S.part a.bytes.now l.i (S.total_of l.s l.i))) (O.cut_up l.left a.max (S.cut_of l.s l.i) (S.total_of l.s l.i) false) in (
      i.0,
      i.1,
      i.2,
      t.auto.marks ∙ i.3,
      ap (λ (x : Sender). x.count) u.ensures.0 ∙ i.4,
      ap (λ (x : Sender). x.next) u.ensures.0 ∙ i.5,
      ap (λ (x : Sender). S.msgs x a.bytes.now m (l.i + 1) 0 ++ O.fresh a.max t.result.left (S.msgs x a.bytes.now m (n - (l.i + 1)) (l.i + 1))) u.ensures.0
          ∙ B.fresh_turn l.s a.bytes.now l.marks m l.i t.result.cut qs h8 u.ensures.1 p.0 e.marks e.cut.1 a.max l.left t.result.left n h i.1 refl e.cut.0 e.left ∙ i.6,
      B.passing_turn ps i.7 (B.fresh_rest l.s a.bytes.now l.marks m l.i t.result.cut qs h8 u.ensures.1 p.0 e.marks e.cut.1 a.max l.left t.result.left n h i.1 refl e.cut.0 e.left
          ∙ ap (λ (x : Sender). ps ++ O.fresh_out a.max t.result.left (S.msgs x a.bytes.now m (n - (l.i + 1)) (l.i + 1))) (sym u.ensures.0)) e.words
          (e.left ∙ ap (λ (x : ℕ). l.left - x) (sym (length-map (O.cut_up l.left a.max (S.cut_of l.s l.i) (S.total_of l.s l.i) false) (O.sent_piece_of (S.message_at l.s l.i).seq (S.part a.bytes.now l.i (S.total_of l.s l.i)))))),
    )

pub returns : goal.returns
returns c =
    let a = c.args in
    let l = c.loop-i in
    let i = l.invariant in
    let n = c.count_of-n.result in
    let z : n - l.i ≡ 0 = omega arith in
    let e = ap (λ (k : ℕ). O.fresh_out a.max l.left (S.msgs l.s a.bytes.now l.marks k l.i)) z ∙ ap (O.fresh_out a.max l.left) (L.msgs_none l.s a.bytes.now l.marks l.i) ∙ B.fresh_out_nil a.max l.left in record {
      msgs = ap (λ (k : ℕ). S.msgs l.s a.bytes.now l.marks k 0) (sym i.0) ∙ L.msgs_end l.s a.bytes.now l.marks (O.fresh a.max l.left) n l.i (omega arith) (B.fresh_nil a.max l.left) ∙ i.6
          ∙ ap (λ (k : ℕ). O.fresh a.max a.room (S.msgs a.s.now a.bytes.now a.marks.now k 0)) i.0;
      words = writes_as (B.passing_words i.7 e) (ap (λ (k : ℕ). sent_words (O.fresh_out a.max a.room (S.msgs a.s.now a.bytes.now a.marks.now k 0))) i.0);
      left = B.passing_left i.7 e ∙ ap (λ (k : ℕ). a.room - length (O.fresh_out a.max a.room (S.msgs a.s.now a.bytes.now a.marks.now k 0))) i.0;
      numbers = (i.4, i.5);
    }
