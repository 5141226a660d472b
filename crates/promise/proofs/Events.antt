-- Which words are events 2. Assumes nothing.
use mathlib.Core.Path.{◌≡◌, refl, ap, ◌∙◌}
use mathlib.Core.Bool.{Bool, true, false, cond}
use mathlib.Core.List.{List, [], ◌∷◌, ◌++◌}
use Prim.Native.Nat.{ℕ, ◌+◌, ◌*◌, ◌/◌, ◌%◌, ◌<◌}
use native.Mathlib.Omega.{arith}
use lib.Dec.{eqb}
use borrow.Author.Tests.{eq-eqb, ne_eqb}
use Rattle.out.specs.Encode.{event_word, message_word, missed_word}
use Rattle.promise.specs.Promise.{Event2, event_of, events_in}

pub events_none : events_in [] ≡ []
unfolding events_in
events_none = refl

pub event_other : (w : ℕ) (ws : List ℕ) → (w / 268435456 ≡ 2 → ⊥) → events_in (w ∷ ws) ≡ events_in ws
unfolding events_in
event_other w ws n = rw (ne_eqb (w / 268435456) 2 n)

pub event_this : (w : ℕ) (ws : List ℕ) → w / 268435456 ≡ 2 → events_in (w ∷ ws) ≡ event_of w ∷ events_in ws
unfolding events_in
event_this w ws n = rw (eq-eqb (w / 268435456) 2 n)

pub events_append : (a b : List ℕ) → events_in (a ++ b) ≡ events_in a ++ events_in b
unfolding events_in
events_append [] b = refl
events_append (w ∷ a) b = at (eqb (w / 268435456) 2) (events_append a b)
  where
    at : (t : Bool) → events_in (a ++ b) ≡ events_in a ++ events_in b
        → cond t (event_of w ∷ events_in (a ++ b)) (events_in (a ++ b)) ≡ cond t (event_of w ∷ events_in a) (events_in a) ++ events_in b
    at true q = ap (λ (l : List Event2). event_of w ∷ l) q
    at false q = q

pub append_quiet : (a b : List ℕ) (es : List Event2) → events_in a ≡ es → events_in b ≡ [] → events_in (a ++ b) ≡ es ++ []
append_quiet a b es p q = events_append a b ∙ ap (λ (l : List Event2). l ++ events_in b) p ∙ ap (λ (l : List Event2). es ++ l) q

-- the words that are none
pub relayed_word : (slot via : ℕ) (ws : List ℕ) → events_in (event_word 4 slot via ∷ ws) ≡ events_in ws
relayed_word slot via ws = event_other (event_word 4 slot via) ws (λ e. omega arith)

pub missed_word_lem : (slot : ℕ) (ws : List ℕ) → events_in (missed_word slot ∷ ws) ≡ events_in ws
missed_word_lem slot ws = event_other (missed_word slot) ws (λ e. omega arith)

-- the parts of the one that is
parts : (w n c s : ℕ) → w ≡ 536870912 + n * 8192 + c * 64 + s → n < 256 → c < 64 → s < 64
    → (w / 268435456 ≡ 2) × (w % 64 ≡ s) × (w / 64 % 128 ≡ c) × (w / 8192 % 256 ≡ n)
parts w n c s e a b d =
    let q : w / 64 ≡ 8388608 + n * 128 + c = omega arith in
    let r : w / 8192 ≡ 65536 + n = omega arith in
    (omega arith, omega arith, omega arith, omega arith)

word_is : (slot cell number : ℕ) → slot < 64 → cell < 64 → message_word slot cell number ≡ 536870912 + number % 256 * 8192 + cell * 64 + slot
word_is slot cell number a b =
    let p : slot % 64 ≡ slot = omega arith in
    let q : cell % 128 ≡ cell = omega arith in
    omega arith

-- and that one
pub message_word_lem : (slot cell number : ℕ) (ws : List ℕ) → slot < 64 → cell < 64
    → events_in (message_word slot cell number ∷ ws) ≡ record { slot = slot; cell = cell; number = number % 256 } ∷ events_in ws
message_word_lem slot cell number ws a b =
    let w = message_word slot cell number in
    let r = parts w (number % 256) cell slot (word_is slot cell number a b) (omega arith) b a in
    event_this w ws r.0
    ∙ ap (λ (y : ℕ). record { slot = y; cell = w / 64 % 128; number = w / 8192 % 256 } ∷ events_in ws) r.1
    ∙ ap (λ (y : ℕ). record { slot = slot; cell = y; number = w / 8192 % 256 } ∷ events_in ws) r.2
    ∙ ap (λ (y : ℕ). record { slot = slot; cell = cell; number = y } ∷ events_in ws) r.3
