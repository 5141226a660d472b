-- A loop that fills an array with f of another's elements, by index: one turn more, and the whole. Assumes nothing.
use mathlib.Core.Path.{◌≡◌, refl, sym, ◌∙◌}
use mathlib.Core.List.{List, [], ◌∷◌, map}
use mathlib.Core.Logic.{⊎_elim}
use Prim.Native.Nat.{ℕ, zero, suc, ◌+◌, ◌-◌, ◌<◌}
use native.Mathlib.Omega.{arith}
use lib.ListN.{length, get_or, set, length-map, get_or-map}
use lib.Seq.{ext_get_or, get_or-set_same, get_or-set_other}
use Rattle.bits.proofs.Lists.{le_or_lt}
use Rattle.std.specs.Prelude.{Result, Ok, Err, OnErr}
use Rattle.refusal.specs.declared.Refusal.{Refusal}
use Rattle.refusal.specs.Numbers.{number_in}
use Rattle.outbox.specs.declared.sender.Message.{Message}
use Rattle.outbox.specs.Senders.{no_message}
use Rattle.shore.specs.Sending.{messages_of}

-- the first i elements are done; d is what an element past the end is taken for
abbrev pub Filled : {A B : Type 0} → (A → B) → A → List A → List B → ℕ → Type 0
Filled {A} {B} f d xs out i = (j : ℕ) → j < i → get_or out j (f d) ≡ f (get_or xs j d)

module _ {A B : Type 0} (f : A → B) (d : A) (xs : List A) (out : List B) where
  pub one_more : (i : ℕ) (b : B) → i < length out → b ≡ f (get_or xs i d) → Filled f d xs out i → Filled f d xs (set out i b) (i + 1)
  one_more i b h e p j l =
      ⊎_elim
      (λ t. let k : j ≡ i = omega arith in rw k (get_or-set_same out i b (f d) h ∙ e))
      (λ t. get_or-set_other out i j b (f d) (λ k. absurd (omega arith)) ∙ p j t)
      (le_or_lt i j)

  pub whole : (n : ℕ) → length xs ≡ n → length out ≡ n → Filled f d xs out n → out ≡ map f xs
  whole n e g p =
      ext_get_or (f d) out (map f xs) (g ∙ sym e ∙ sym (length-map xs f))
      (λ i l. p i (omega arith) ∙ sym (get_or-map f xs i d))

-- what a call that may be refused leaves, where its number is not 0
pub if_refused : {A P : Type 0} (x : Result A Refusal) → OnErr x P → (number_in x ≡ 0 → ⊥) → P
if_refused (Ok v) h z = absurd (z refl)
if_refused (Err r) h z = h

-- message j of three arrays
abbrev pub three : List ℕ → List ℕ → List ℕ → ℕ → Message
three qs ts cs j = record { seq = get_or qs j 0; total = get_or ts j 0; cut = get_or cs j 0 }

pub message_more : (qs ts cs : List ℕ) (out : List Message) (i : ℕ) → i < length out → ((j : ℕ) → j < i → get_or out j no_message ≡ three qs ts cs j)
    → (j : ℕ) → j < i + 1 → get_or (set out i (three qs ts cs i)) j no_message ≡ three qs ts cs j
message_more qs ts cs out i h p j l =
    ⊎_elim
    (λ t. let k : j ≡ i = omega arith in rw k (get_or-set_same out i (three qs ts cs i) no_message h))
    (λ t. get_or-set_other out i j (three qs ts cs i) no_message (λ k. absurd (omega arith)) ∙ p j t)
    (le_or_lt i j)

-- an array of messages of three arrays
pub from_three : (qs ts cs : List ℕ) (out : List Message) (n : ℕ) → length qs ≡ n → length ts ≡ n → length cs ≡ n → length out ≡ n
    → ((j : ℕ) → j < n → get_or out j no_message ≡ three qs ts cs j) → out ≡ messages_of qs ts cs
unfolding messages_of
from_three qs ts cs out n a b c d f = ext_get_or no_message out (messages_of qs ts cs) (d ∙ sym (length_of qs ts cs n a b c)) (λ j l. f j (omega arith) ∙ sym (at_of qs ts cs j (omega arith) (omega arith) (omega arith)))
  where
    length_of : (qs ts cs : List ℕ) (n : ℕ) → length qs ≡ n → length ts ≡ n → length cs ≡ n → length (messages_of qs ts cs) ≡ n
    length_of [] ts cs n a b c = a
    length_of (q ∷ qs) [] cs n a b c = absurd (omega arith)
    length_of (q ∷ qs) (t ∷ ts) [] n a b c = absurd (omega arith)
    length_of (q ∷ qs) (t ∷ ts) (r ∷ cs) n a b c = let e = length_of qs ts cs (n - 1) (omega arith) (omega arith) (omega arith) in omega arith

    at_of : (qs ts cs : List ℕ) (j : ℕ) → j < length qs → j < length ts → j < length cs → get_or (messages_of qs ts cs) j no_message ≡ three qs ts cs j
    at_of [] ts cs j a b c = absurd (omega arith)
    at_of (q ∷ qs) [] cs j a b c = absurd (omega arith)
    at_of (q ∷ qs) (t ∷ ts) [] j a b c = absurd (omega arith)
    at_of (q ∷ qs) (t ∷ ts) (r ∷ cs) zero a b c = refl
    at_of (q ∷ qs) (t ∷ ts) (r ∷ cs) (suc j) a b c = at_of qs ts cs j (omega arith) (omega arith) (omega arith)
