-- Laws of charges: a charge is its tenth rounded down and its nine tenths rounded up; the charge by how far the bytes go, and the most it comes to.
-- Assumes nothing.
use mathlib.Core.Path.{◌≡◌}
use mathlib.Core.Bool.{Bool, true, false, cond}
use Prim.Native.Nat.{ℕ, ◌+◌, ◌-◌, ◌*◌, ◌≤◌, min}
use native.Mathlib.Nat.{min-eq_left, min-eq_right}
use native.Mathlib.Omega.{arith}
use mathlib.Core.Logic.{⊎_elim}
use Rattle.bits.proofs.Lists.{le_or_lt}
use Rattle.net.specs.Net.{is_member}
use Rattle.dues.specs.Dues.{started256, charge_of, tenth_of, nine_tenths, charge_by}

-- law of dues: the charge less its tenth, rounded down, is its nine tenths, rounded up
pub less_tenth : (cents : ℕ) → cents - tenth_of cents ≡ nine_tenths cents
less_tenth cents = omega arith

pub whole : (cents : ℕ) → cents ≡ tenth_of cents + nine_tenths cents
whole cents = omega arith

started_most : (n k : ℕ) → n ≤ 256 * k → started256 n ≤ k
unfolding started256
started_most n k h = omega arith

-- the charge of bytes that are all free, that go up to 16,384, and that go on
pub charge_free : (n : ℕ) → n ≤ 1024 → 0 ≡ charge_of n
unfolding charge_of started256
charge_free n h = let e : min n 16384 ≡ n = min-eq_left (omega arith) in rw e (omega arith)

pub charge_low : (n : ℕ) → n ≤ 16384 → 35 * started256 (n - 1024) ≡ charge_of n
unfolding charge_of started256
charge_low n h = let e : min n 16384 ≡ n = min-eq_left h in rw e (omega arith)

pub charge_high : (n : ℕ) → 16384 ≤ n → 2100 + 20 * started256 (n - 16384) ≡ charge_of n
unfolding charge_of started256
charge_high n h = let e : min n 16384 ≡ 16384 = min-eq_right h in rw e (omega arith)

-- a figure that is not refused is charged at most 78,125,820 cents
pub charge_most : (n : ℕ) → n ≤ 1000000000 → charge_of n ≤ 78125820
charge_most n h =
    ⊎_elim
    (λ l. let a = started_most (n - 1024) 60 (omega arith) in omega (arith, charge_low n l))
    (λ l. let a = started_most (n - 16384) 3906186 (omega arith) in omega (arith, charge_high n (omega arith)))
    (le_or_lt n 16384)

pub slot_most : (used slot n : ℕ) → n ≤ 1000000000 → charge_by used slot n ≤ 78125820
slot_most used slot n h = go (is_member used slot)
  where
    go : (b : Bool) → cond b (charge_of n) 0 ≤ 78125820
    go true = charge_most n h
    go false = omega arith
