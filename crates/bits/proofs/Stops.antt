-- The laws of `stop`. Assumes nothing.
use mathlib.Core.Path.{◌≡◌, refl}
use mathlib.Core.Bool.{Bool, true, false, cond}
use mathlib.Core.Logic.{⊎_elim}
use Prim.Native.Nat.{ℕ, ◌≤◌, ◌<◌, min}
use native.Mathlib.Omega.{arith}
use lib.Dec.{leb}
use borrow.Author.Tests.{le-leb, leb-true, leb-false}
use Rattle.bits.specs.Stop.{stop}
use Rattle.bits.proofs.Lists.{le_or_lt}

pub stop_is : (n : ℕ) → n ≤ 4294967295 → stop n ≡ n
unfolding stop
stop_is n h = rw (le-leb _ _ h)

pub stop_at : (n : ℕ) → 4294967295 ≤ n → stop n ≡ 4294967295
unfolding stop
stop_at n h = go (leb n 4294967295) refl
  where
    go : (b : Bool) → leb n 4294967295 ≡ b → cond b n 4294967295 ≡ 4294967295
    go true e = let l : n ≤ 4294967295 = leb-true n 4294967295 e in omega arith
    go false e = refl

pub stop_most : (n : ℕ) → stop n ≤ 4294967295
unfolding stop
stop_most n = go (leb n 4294967295) refl
  where
    go : (b : Bool) → leb n 4294967295 ≡ b → cond b n 4294967295 ≤ 4294967295
    go true e = leb-true _ _ e
    go false e = omega arith

pub stop_below : (n : ℕ) → stop n ≤ n
unfolding stop
stop_below n = go (leb n 4294967295) refl
  where
    go : (b : Bool) → leb n 4294967295 ≡ b → cond b n 4294967295 ≤ n
    go true e = omega arith
    go false e = let l : 4294967295 < n = leb-false n 4294967295 e in omega arith

pub stop_mono : (m n : ℕ) → m ≤ n → stop m ≤ stop n
stop_mono m n h =
    ⊎_elim
    (λ l. let e = stop_is n l in let f = stop_is m (omega arith) in omega arith)
    (λ l. let e = stop_at n (omega arith) in let f = stop_most m in omega arith)
    (le_or_lt n 4294967295)

-- a counter never falls
pub stop_up : (n k : ℕ) → k ≤ 4294967295 → k ≤ n → k ≤ stop n
stop_up n k l h = let e = stop_is k l in let m = stop_mono k n h in omega arith

-- it is `saturating_add`'s minimum
pub stop_min : (n : ℕ) → min n 4294967295 ≡ stop n
stop_min n =
    ⊎_elim
    (λ l. let e = stop_is n l in omega arith)
    (λ l. let e = stop_at n (omega arith) in omega arith)
    (le_or_lt n 4294967295)
