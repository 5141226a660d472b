-- What the contracts of `outbox` say is what the steps do. Assumes nothing.
use mathlib.Core.Bool.{Bool, true, false, cond}
use mathlib.Core.List.{List, [], ◌∷◌}
use mathlib.Core.Logic.{⊎_elim}
use mathlib.Core.Path.{◌≡◌, refl, sym, ap, ◌∙◌}
use Prim.Native.Nat.{ℕ, zero, suc, ◌+◌}
use native.Mathlib.Omega.{arith}
use lib.Dec.{eqb, ltb, leb}
use lib.ListN.{length}
use borrow.Author.Tests.{lt-ltb, le-ltb, le-leb}
use Rattle.bits.proofs.Lists.{le_or_lt}
use Rattle.words.specs.Words.{least}
use Rattle.outbox.specs.Outbox.{push_msg}
use Rattle.outbox.specs.Senders.{count_of, msgs, outbox, unless, post_refusal, take_refusal, memory_refusal, both_refusal}
use Rattle.outbox.specs.declared.sender.Sender.{Sender}
use Rattle.sending.specs.Runs.{Run, Event, Post, Take, Ack, Stale, Held}
use Rattle.sending.specs.Runs as runs
use Rattle.sending.specs.Sending.{done, done_by, run_after}
use Rattle.sending.specs.Follows.{run_of, AllFollow}

msgs_many : (s : Sender) (bytes marks : List ℕ) (n i : ℕ) → length (msgs s bytes marks n i) ≡ n
unfolding msgs
msgs_many s bytes marks zero i = refl
msgs_many s bytes marks (suc n) i = let e = msgs_many s bytes marks n (i + 1) in omega arith

-- eight are held, or more are said to be
full_same : (c : ℕ) → leb 8 (least c 8) ≡ leb 8 c
full_same c =
    ⊎_elim (λ h. ap (λ (t : Bool). leb 8 (cond t c 8)) (le-ltb c 8 h) ∙ sym (le-leb 8 c h)) (λ h. ap (λ (t : Bool). leb 8 (cond t c 8)) (lt-ltb c 8 h)) (le_or_lt 8 c)

refusal_same : (s : Sender) (bytes marks : List ℕ) (memory n : ℕ) → post_refusal s.count memory n ≡ post_refusal (length (outbox s bytes marks).msgs) memory n
refusal_same s bytes marks memory n =
    ap (λ (t : Bool). cond (ltb memory 16384) 7 (cond (ltb 2046 n) 29 (cond t 28 0)))
    (sym (ap (λ (c : ℕ). leb 8 c) (msgs_many s bytes marks (count_of s) 0) ∙ full_same s.count))

-- one event, or none where the call is refused
one : (x : ℕ) (r : Run) (e : Event) → unless x r.box (runs.step r e).box ≡ (run_after (done x (e ∷ [])) r).box
unfolding run_after
one x r e = at (eqb x 0)
  where
    at : (t : Bool) → cond t (runs.step r e).box r.box ≡ (run_after (cond t (e ∷ []) []) r).box
    at true = refl
    at false = refl

pub follows : AllFollow
unfolding done_by runs.step
follows s bytes marks bursts =
    record {
      posts = λ body memory.
          ap (λ (x : ℕ). unless x (outbox s bytes marks) (push_msg (outbox s bytes marks) body)) (refusal_same s bytes marks memory (length body))
          ∙ one (post_refusal (length (outbox s bytes marks).msgs) memory (length body)) (run_of s bytes marks bursts) (Post body);
      takes = λ max room out a b. one (take_refusal out a b max room) (run_of s bytes marks bursts) (Take max room);
      stales = λ a. one (memory_refusal a) (run_of s bytes marks bursts) Stale;
      helds = λ next also a b. one (both_refusal a b) (run_of s bytes marks bursts) (Held next also);
      acks = λ sent j a b. one (both_refusal a b) (run_of s bytes marks bursts) (Ack sent j);
    }
