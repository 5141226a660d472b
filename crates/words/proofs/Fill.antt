-- An array of zeros that is filled from its start.
-- Assumes nothing.
use mathlib.Core.Path.{◌≡◌}
use mathlib.Core.List.{List, [], ◌∷◌, ◌++◌, append_assoc}
use Prim.Native.Nat.{ℕ, suc, ◌+◌, ◌-◌, ◌<◌}
use native.Mathlib.Omega.{arith}
use lib.ListN.{length, set, replicate}
use lib.Seq.{set_at}

-- one element more
pub fill : (xs : List ℕ) (n k v : ℕ) → k < n → length xs ≡ k → set (xs ++ replicate (n - k) 0) k v ≡ (xs ++ (v ∷ [])) ++ replicate (n - (k + 1)) 0
fill xs n k v h e =
    let s : n - k ≡ suc (n - (k + 1)) = omega arith in
    rw (s, append_assoc) (set_at xs 0 (replicate (n - (k + 1)) 0) v k e)
