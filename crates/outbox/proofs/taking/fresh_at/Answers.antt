-- What is said of the lent parts is said of the whole. Assumes nothing.
use mathlib.Core.Path.{◌≡◌, refl, ap, ◌∙◌}
use mathlib.Core.Bool.{false}
use mathlib.Core.List.{List, ◌++◌, map}
use Prim.Native.Nat.{ℕ, ◌+◌, ◌-◌, ◌*◌}
use native.Mathlib.Omega.{arith}
use lib.ListN.{length, take, drop}
use borrow.Rule.Slice.PartMut.{put_mid}
use Rattle.outbox.specs.Outbox as O
use Rattle.outbox.specs.Marks as M
use Rattle.outbox.specs.Senders as S
use Rattle.outbox.proofs.Places as L
use Rattle.outbox.proofs.Sending as W
use Rattle.out.proofs.Laws.{writes_as}
use Rattle.outbox.specs.Bursts.{sent_words}
use Rattle.outbox.proofs.Bursting as B
use Rattle.outbox.proofs.taking.fresh_at.Goals as goal

pub returns : goal.returns
returns c =
    let a = c.args in
    let p = c.requires in
    let t = c.total-total in
    let k = c.cut-cut in
    let f = c.fresh in
    let et = t.ensures in
    let ek = k.ensures in
    let y = L.lent_length a.bytes.now a.i t.result p.0 (omega arith) p.1.0 ∙ et.0 in
    let zt : 2048 * a.i + t.result - 2048 * a.i ≡ S.total_of a.s a.i = omega arith in
    let w : List ℕ = take (2048 * a.i + t.result - 2048 * a.i) (drop (2048 * a.i) a.bytes.now) in
    let pt : take (2048 * a.i + t.result - 2048 * a.i) (drop (2048 * a.i) a.bytes.now) ≡ S.part a.bytes.now a.i (S.total_of a.s a.i) = ap (λ (n : ℕ). take n (drop (2048 * a.i) a.bytes.now)) zt in
    let q : O.cut_up a.room a.max k.result (length (take (2048 * a.i + t.result - 2048 * a.i) (drop (2048 * a.i) a.bytes.now))) false ≡ O.cut_up a.room a.max (S.cut_of a.s a.i) (S.total_of a.s a.i) false =
    ap (λ (x : ℕ). O.cut_up a.room a.max k.result x false) y ∙ ap (λ (x : ℕ). O.cut_up a.room a.max x (S.total_of a.s a.i) false) ek.0 in
    let fc = f.ensures.cut in
    let m = W.total_most a.s a.i in record {
      words = writes_as f.ensures.words (ap (λ (x : List O.Piece). sent_words (map (O.sent_piece_of (S.message_at a.s a.i).seq (take (2048 * a.i + t.result - 2048 * a.i) (drop (2048 * a.i) a.bytes.now))) x)) q
          ∙ ap (λ (x : List ℕ). sent_words (map (O.sent_piece_of (S.message_at a.s a.i).seq x) (O.cut_up a.room a.max (S.cut_of a.s a.i) (S.total_of a.s a.i) false))) pt);
      left = f.ensures.left ∙ ap (λ (x : List O.Piece). a.room - length x) q;
      cut = (fc.0 ∙ ap (λ (x : ℕ). x + O.lens (O.cut_up a.room a.max k.result (length (take (2048 * a.i + t.result - 2048 * a.i) (drop (2048 * a.i) a.bytes.now))) false)) ek.0 ∙ ap (λ (x : List O.Piece). S.cut_of a.s a.i + O.lens x) q, omega (arith, fc.1));
      marks = B.begun a.marks.now f.new.marks (put_mid (2048 * a.i) (2048 * a.i + 2048 - 2048 * a.i) a.marks.now f.new.marks) a.i (S.cut_of a.s a.i) f.result.cut (O.cut_up a.room a.max (S.cut_of a.s a.i) (S.total_of a.s a.i) false) p.0 p.1.1.0 f.auto.marks (omega (arith, fc.1)) (omega arith) refl
          (f.ensures.marks ∙ ap (λ (x : ℕ). M.pieces 0 (take x (take (2048 * a.i + 2048 - 2048 * a.i) (drop (2048 * a.i) a.marks.now))) ++ O.cut_up a.room a.max k.result (length (take (2048 * a.i + t.result - 2048 * a.i) (drop (2048 * a.i) a.bytes.now))) false) ek.0
          ∙ ap (λ (x : List O.Piece). M.pieces 0 (take (S.cut_of a.s a.i) (take (2048 * a.i + 2048 - 2048 * a.i) (drop (2048 * a.i) a.marks.now))) ++ x) q);
    }
