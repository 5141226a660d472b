-- `every` over the indices of a list is std's `list_all` of the list. Assumes nothing.
use Rattle.std.proofs.Common.{◌≡◌, ℕ, zero, suc, Bool, ◌&&◌, List, [], ◌∷◌, length, get_or, refl, sym, ap, ◌∙◌}
use Rattle.std.specs.List.{list_all}
use Rattle.bits.specs.Loop.{every}

every_shift : (q : ℕ → Bool) (n i : ℕ) → every q n (suc i) ≡ every (λ k. q (suc k)) n i
unfolding every
every_shift q zero i = refl
every_shift q (suc n) i = ap (λ (b : Bool). q (suc i) && b) (every_shift q n (suc i))

every_list : {X : Type 0} (p : X → Bool) (d : X) (xs : List X) → every (λ k. p (get_or xs k d)) (length xs) 0 ≡ list_all p xs
unfolding every
every_list p d [] = refl
every_list p d (x ∷ xs) = ap (λ (b : Bool). p x && b) (every_shift (λ k. p (get_or (x ∷ xs) k d)) (length xs) 0 ∙ every_list p d xs)

-- of an array of n
pub every_in : {X : Type 0} (p : X → Bool) (d : X) (xs : List X) {n : ℕ} → length xs ≡ n → list_all p xs ≡ every (λ k. p (get_or xs k d)) n 0
every_in p d xs e = rw (← e) (sym (every_list p d xs))
