-- Turns of the loops over messages. Assumes nothing.
use mathlib.Core.Bool.{true, false, cond}
use mathlib.Core.List.{List, [], ◌∷◌, ◌++◌, map}
use mathlib.Core.Logic.{⊎_elim}
use mathlib.Core.Path.{◌≡◌, sym, ap, ◌∙◌}
use Prim.Native.Nat.{ℕ, ◌+◌, ◌-◌, ◌≤◌, ◌<◌}
use native.Mathlib.Omega.{arith}
use lib.Dec.{eqb, ltb, leb}
use lib.ListN.{length}
use borrow.Author.Tests.{ltb-false, leb-false}
use Rattle.bits.proofs.Lists.{cond_true, cond_false, cases}
use Rattle.refusal.specs.declared.Refusal.{Refusal}
use Rattle.std.specs.Prelude.{Result, Ok, Err, IsErr}
use Rattle.refusal.specs.Numbers.{number_of, number_in}
use Rattle.refusal.proofs.Numbers.{is_number}
use Rattle.outbox.specs.declared.sender.Sender.{Sender}
use Rattle.outbox.specs.Outbox.{Piece, OutMsg, Outbox, with_inflight, stale_in}
use Rattle.outbox.specs.Outbox as O
use Rattle.outbox.specs.Marks.{pieces, stale_marks}
use Rattle.outbox.specs.Senders.{cut_of, part, put, msg_at, msgs, post_refusal, memory_refusal, both_refusal, unless}
use Rattle.outbox.proofs.Places.{msgs_turn, made, unmade, made_length}
use Rattle.outbox.proofs.Sending.{total_most, cut_most, at_flight}
use Rattle.outbox.proofs.Acts.{stale_length, stale_pieces}

pub cut_room : (s : Sender) (j : ℕ) → cut_of s j ≤ 2048
cut_room s j = let a = total_most s j in let b = cut_most s j in omega arith

-- a loop that makes F of the marks of one message after the other
module _ (F : List ℕ → List ℕ) (f : (l : List ℕ) → length (F l) ≡ length l) (s : Sender) (bytes marks marks' : List ℕ) (n i : ℕ) (h : i < n) (k : n ≤ 8) (room : 16384 ≤ length marks)
    (e : marks' ≡ put marks i (F (part marks i (cut_of s i)))) where
  pub act_turn : (G H : List OutMsg → List OutMsg)
      → G (msg_at s bytes marks i ∷ msgs s bytes marks (n - (i + 1)) (i + 1)) ≡ with_inflight (msg_at s bytes marks i) (pieces 0 (F (part marks i (cut_of s i)))) ∷ H (msgs s bytes marks (n - (i + 1)) (i + 1))
      → msgs s bytes marks' (i + 1) 0 ++ H (msgs s bytes marks' (n - (i + 1)) (i + 1)) ≡ msgs s bytes marks i 0 ++ G (msgs s bytes marks (n - i) i)
  act_turn G H q =
      ap (λ (m : List ℕ). msgs s bytes m (i + 1) 0 ++ H (msgs s bytes m (n - (i + 1)) (i + 1))) e
      ∙ msgs_turn s s bytes marks bytes (put marks i (F (part marks i (cut_of s i)))) G H n i h k
      (unmade F f s bytes marks i (omega arith) room (cut_room s))
      (q ∙ ap (λ (m : OutMsg). m ∷ H (msgs s bytes marks (n - (i + 1)) (i + 1))) (sym (made F f s bytes marks i (omega arith) room (cut_room s))))

  pub act_length : length marks' ≡ length marks
  act_length = ap length e ∙ made_length F f s [] marks i (omega arith) room (cut_room s)

-- ### refusals
seven : (a x : ℕ) → cond (ltb a 16384) 7 x ≡ 0 → (16384 ≤ a) × (x ≡ 0)
seven a x e =
    ⊎_elim (λ t. let z : ◌≡◌ {A = ℕ} 7 0 = sym (cond_true (ltb a 16384) 7 x t) ∙ e in absurd (omega arith))
    (λ t. (ltb-false a 16384 t, sym (cond_false (ltb a 16384) 7 x t) ∙ e)) (cases (ltb a 16384))

pub post_open : (s : Sender) (room n : ℕ) → post_refusal s.count room n ≡ 0 → (16384 ≤ room) × (n ≤ 2046) × (s.count < 8)
post_open s room n e =
    let a = seven room (cond (ltb 2046 n) 29 (cond (leb 8 s.count) 28 0)) e in
    ⊎_elim (λ t. let z : ◌≡◌ {A = ℕ} 29 0 = sym (cond_true (ltb 2046 n) 29 (cond (leb 8 s.count) 28 0) t) ∙ a.1 in absurd (omega arith))
    (λ t.
    let b = sym (cond_false (ltb 2046 n) 29 (cond (leb 8 s.count) 28 0) t) ∙ a.1 in
    ⊎_elim (λ u. let z : ◌≡◌ {A = ℕ} 28 0 = sym (cond_true (leb 8 s.count) 28 0 u) ∙ b in absurd (omega arith))
    (λ u. (a.0, ltb-false 2046 n t, leb-false 8 s.count u)) (cases (leb 8 s.count)))
    (cases (ltb 2046 n))

pub both_open : (a b : ℕ) → both_refusal a b ≡ 0 → (16384 ≤ a) × (16384 ≤ b)
both_open a b e = let p = seven a (memory_refusal b) e in let q = seven b 0 p.1 in (p.0, q.0)

-- a refused call leaves what was
pub kept : {A : Type 0} (x : Result A Refusal) (old new : Outbox) → IsErr x → old ≡ unless (number_in x) old new
kept (Ok v) old new h = let z : false ≡ true = h in cc
kept (Err r) old new h = sym (cond_false (eqb (number_of r) 0) new old (is_number r))

-- ### stale
map_stale : (m : OutMsg) (ms : List OutMsg) (x : List Piece) → m.inflight ≡ x → map stale_in (m ∷ ms) ≡ with_inflight m (map O.staled x) ∷ map stale_in ms
map_stale m ms x e = ap (λ (y : List Piece). with_inflight m (map O.staled y) ∷ map stale_in ms) e

module _ (s : Sender) (bytes marks marks' : List ℕ) (n i : ℕ) (h : i < n) (k : n ≤ 8) (room : 16384 ≤ length marks)
    (e : marks' ≡ put marks i (stale_marks (part marks i (cut_of s i)))) where
  pub stale_turn : msgs s bytes marks' (i + 1) 0 ++ map stale_in (msgs s bytes marks' (n - (i + 1)) (i + 1)) ≡ msgs s bytes marks i 0 ++ map stale_in (msgs s bytes marks (n - i) i)
  stale_turn =
      act_turn stale_marks stale_length s bytes marks marks' n i h k room e (map stale_in) (map stale_in)
      (map_stale (msg_at s bytes marks i) (msgs s bytes marks (n - (i + 1)) (i + 1)) (pieces 0 (part marks i (cut_of s i))) (at_flight s bytes marks i)
      ∙ ap (λ (x : List Piece). with_inflight (msg_at s bytes marks i) x ∷ map stale_in (msgs s bytes marks (n - (i + 1)) (i + 1))) (sym (stale_pieces 0 (part marks i (cut_of s i)))))
