-- A landed message stands in the store behind the two bytes of its length, as many bytes as it has. Assumes nothing.
use mathlib.Core.Path.{◌≡◌, refl, sym, ap, ◌∙◌}
use mathlib.Core.List.{List, [], ◌∷◌}
use mathlib.Core.Logic.{⊎_elim}
use Prim.Native.Nat.{ℕ, zero, suc, ◌+◌, ◌*◌}
use lib.ListN.{length, take, drop}
use Rattle.bits.proofs.Lists.{le_or_lt}
use Rattle.inbox.specs.Messages.{announced}
use Rattle.inbox.specs.Stores.{cell_of, message_of}
use Rattle.inbox.proofs.Parts.{message_short, message_long}

take_own : (n : ℕ) (l : List ℕ) → take (length (take n l)) l ≡ take n l
take_own zero l = refl
take_own (suc n) [] = refl
take_own (suc n) (x ∷ l) = ap (λ (r : List ℕ). x ∷ r) (take_own n l)

taken : (n : ℕ) (l m : List ℕ) → take n l ≡ m → take (length m) l ≡ m
taken n l m e = ap (λ (r : List ℕ). take (length r) l) (sym e) ∙ take_own n l ∙ e

pub own_part : (s : List ℕ) (c : ℕ) → take (length (message_of s c)) (drop (6400 * c + 2) s) ≡ message_of s c
own_part s c =
    ⊎_elim
    (λ h. taken (announced (cell_of s c)) (drop (6400 * c + 2) s) (message_of s c) (message_short s c (announced (cell_of s c)) refl h))
    (λ h. taken 2046 (drop (6400 * c + 2) s) (message_of s c) (message_long s c (announced (cell_of s c)) refl h))
    (le_or_lt (announced (cell_of s c)) 2046)
