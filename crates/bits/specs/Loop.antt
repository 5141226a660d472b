-- What a loop over slots computes (document 01, 'Rust forms': iterator chains are loops). Each definition takes how many turns are left
-- and the slot that is next, as the loop has them: `first p 62 0` is the least slot below 62 at which p holds, `every p 7 0` whether p
-- holds at each number below 7, `any p 7 0` whether it holds at one of them, and `fold f 62 0 a` is f at slot 61 of .. of f at slot 0 of a.
use Rattle.std.specs.Prelude.{ℕ, zero, suc, Bool, true, false, cond, ◌&&◌, ◌||◌, Option, Some, None}

unfoldable pub first : (ℕ → Bool) → ℕ → ℕ → Option ℕ
first p zero i = None
first p (suc n) i = cond (p i) (Some i) (first p n (suc i))

unfoldable pub fold : {A : Type 0} → (ℕ → A → A) → ℕ → ℕ → A → A
fold f zero i a = a
fold f (suc n) i a = fold f n (suc i) (f i a)

unfoldable pub every : (ℕ → Bool) → ℕ → ℕ → Bool
every p zero i = true
every p (suc n) i = p i && every p n (suc i)

unfoldable pub any : (ℕ → Bool) → ℕ → ℕ → Bool
any p zero i = false
any p (suc n) i = p i || any p n (suc i)
