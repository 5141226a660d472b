use mathlib.Core.Path.{◌≡◌, refl, sym, ap, ◌∙◌}
use mathlib.Core.List.{[], map}
use Prim.Native.Nat.{ℕ, ◌-◌, ◌≤◌, ◌<◌}
use native.Mathlib.Omega.{arith}
use lib.ListN.{length}
use lib.Dec.{eqb}
use Rattle.outbox.specs.Outbox as O
use Rattle.outbox.specs.Senders as S
use Rattle.outbox.proofs.Places as L
use lib.ListN.{length-map}
use Rattle.out.proofs.Laws.{writes_as}
use Rattle.outbox.specs.Bursts.{sent_words, pass_pieces}
use Rattle.outbox.proofs.Bursting as B
use Rattle.outbox.proofs.taking.sweep_all.Goals as goal

pub loop-i-init : goal.loop-i-init
loop-i-init c =
    let n = c.count_of-n in
    let a = c.args in
    let p = c.requires in
    let z : n.result - 0 ≡ n.result = omega arith in (
      n.ensures.0,
      n.ensures.1,
      p.1.0,
      refl,
      L.msgs_begin a.s a.bytes.now a.marks.now (O.sweep (eqb a.mark 2) a.room) n.result,
      B.passing_as (B.passing_start (O.sweep_out (eqb a.mark 2) a.room (S.msgs a.s a.bytes.now a.marks.now n.result 0)) a.o.now a.room) (ap (λ (k : ℕ). O.sweep_out (eqb a.mark 2) a.room (S.msgs a.s a.bytes.now a.marks.now k 0)) (sym z)),
    )

pub loop-i-preserved : goal.loop-i-preserved
loop-i-preserved c =
    let a = c.args in
    let p = c.requires in
    let l = c.loop-i in
    let i = l.invariant in
    let t = c.sweep_at-left in
    let n = c.count_of-n.result in
    let m = t.new.marks in
    let h : l.i < n = omega arith in
    let r : 16384 ≤ length l.marks = omega arith in
    let ps = map (O.sent_piece_of (S.message_at a.s l.i).seq (S.part a.bytes.now l.i (S.total_of a.s l.i))) (pass_pieces a.mark l.left (S.part l.marks l.i (S.cut_of a.s l.i))) in (
      i.0,
      i.1,
      i.2,
      B.sweep_same a.mark p.1.1 a.s [] l.marks m n l.i l.left t.result h i.1 r t.ensures.left t.ensures.marks ∙ i.3,
      B.sweep_turn a.mark p.1.1 a.s a.bytes.now l.marks m n l.i l.left t.result h i.1 r t.ensures.left t.ensures.marks ∙ i.4,
      B.passing_turn ps i.5 (B.sweep_rest a.mark p.1.1 a.s a.bytes.now l.marks m n l.i l.left t.result h i.1 r t.ensures.left t.ensures.marks) t.ensures.words
          (t.ensures.left ∙ ap (λ (x : ℕ). l.left - x) (sym (length-map (pass_pieces a.mark l.left (S.part l.marks l.i (S.cut_of a.s l.i))) (O.sent_piece_of (S.message_at a.s l.i).seq (S.part a.bytes.now l.i (S.total_of a.s l.i)))))),
    )

pub returns : goal.returns
returns c =
    let a = c.args in
    let l = c.loop-i in
    let i = l.invariant in
    let n = c.count_of-n.result in
    let z : n - l.i ≡ 0 = omega arith in
    let e = ap (λ (k : ℕ). O.sweep_out (eqb a.mark 2) l.left (S.msgs a.s a.bytes.now l.marks k l.i)) z ∙ ap (O.sweep_out (eqb a.mark 2) l.left) (L.msgs_none a.s a.bytes.now l.marks l.i) ∙ B.out_nil (eqb a.mark 2) l.left in record {
      msgs = ap (λ (k : ℕ). S.msgs a.s a.bytes.now l.marks k 0) (sym i.0) ∙ L.msgs_end a.s a.bytes.now l.marks (O.sweep (eqb a.mark 2) l.left) n l.i (omega arith) (B.sweep_nil (eqb a.mark 2) l.left) ∙ i.4
          ∙ ap (λ (k : ℕ). O.sweep (eqb a.mark 2) a.room (S.msgs a.s a.bytes.now a.marks.now k 0)) i.0;
      words = writes_as (B.passing_words i.5 e) (ap (λ (k : ℕ). sent_words (O.sweep_out (eqb a.mark 2) a.room (S.msgs a.s a.bytes.now a.marks.now k 0))) i.0);
      left = B.passing_left i.5 e ∙ ap (λ (k : ℕ). a.room - length (O.sweep_out (eqb a.mark 2) a.room (S.msgs a.s a.bytes.now a.marks.now k 0))) i.0;
    }
