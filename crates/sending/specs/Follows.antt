-- The calls of the code are the steps of `Sending`: what the contracts of `outbox` say a call leaves is what the step leaves, of every sender and every memory.
use Rattle.std.specs.Prelude.{List, [], ◌∷◌, ◌≡◌, ℕ, length}
use Rattle.outbox.specs.Outbox.{Sent, push_msg, with_msgs, take_out, stale, ack, held}
use Rattle.outbox.specs.Senders.{outbox, unless, post_refusal, take_refusal, memory_refusal, both_refusal}
use Rattle.outbox.specs.declared.sender.Sender.{Sender}
use Rattle.sending.specs.Runs.{Run, Ack, piece}
use Rattle.sending.specs.Sending.{done, run_after, sender}
use Rattle.sending.specs.Sending as step

-- a run whose outbox is the one that the sender's numbers and memories hold
abbrev pub run_of : Sender → List ℕ → List ℕ → List (List Sent) → Run
run_of s bytes marks bursts = record { box = outbox s bytes marks; bursts = bursts }

-- on the left as the contracts of `post`, `take`, `stale`, `held` and `ack` have it; an acknowledgement is a call of `ack` for each bit that counts
pub record Follows (s : Sender) (bytes marks : List ℕ) (bursts : List (List Sent)) : Type 0 where
  pub posts : (body : List ℕ) (memory : ℕ)
      → unless (post_refusal s.count memory (length body)) (outbox s bytes marks) (push_msg (outbox s bytes marks) body)
      ≡ (sender (step.post body memory) (run_of s bytes marks bursts)).box
  pub takes : (max room out a b : ℕ)
      → unless (take_refusal out a b max room) (outbox s bytes marks) (with_msgs (outbox s bytes marks) (take_out max room (outbox s bytes marks)).msgs)
      ≡ (sender (step.take max room out a b) (run_of s bytes marks bursts)).box
  pub stales : (a : ℕ)
      → unless (memory_refusal a) (outbox s bytes marks) (stale (outbox s bytes marks))
      ≡ (sender (step.stale a) (run_of s bytes marks bursts)).box
  pub helds : (next : ℕ) (also : List ℕ) (a b : ℕ)
      → unless (both_refusal a b) (outbox s bytes marks) (held (outbox s bytes marks) next also)
      ≡ (sender (step.held next also a b) (run_of s bytes marks bursts)).box
  pub acks : (sent j a b : ℕ)
      → unless (both_refusal a b) (outbox s bytes marks) (ack (outbox s bytes marks) (piece bursts sent j).seq (piece bursts sent j).off)
      ≡ (run_after (done (both_refusal a b) (Ack sent j ∷ [])) (run_of s bytes marks bursts)).box

abbrev pub AllFollow : Type 0
AllFollow = (s : Sender) (bytes marks : List ℕ) (bursts : List (List Sent)) → Follows s bytes marks bursts
