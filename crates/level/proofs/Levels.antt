-- The recursion of `level_below`, one turn of the loop at a time; a level is below 17. Assumes nothing.
use mathlib.Core.Path.{◌≡◌, ap, ◌∙◌}
use mathlib.Core.Bool.{Bool, true, false, cond}
use mathlib.Core.List.{List}
use Prim.Native.Nat.{ℕ, zero, suc, ◌-◌, ◌<◌}
use native.Mathlib.Omega.{arith}
use lib.ListN.{get_or}
use lib.Ieee.{Float, nan, binary32, add, le}
use Rattle.level.specs.Levels.{level_below, level_of, level_for}
use Rattle.level.specs.declared.Level.{Level}
use Rattle.level.specs.declared.Level.TheVariants.{Unheard, Decibels}

back : (l : ℕ) → 0 < l → l ≡ suc (l - 1)
back l h = omega arith

module _ (th : List Float) (margin snr : Float) (l : ℕ) (h : 0 < l) where
  step : level_below th margin snr l ≡ cond (le (add binary32 (get_or th (l - 1) nan) margin) snr) (l - 1) (level_below th margin snr (l - 1))
  unfolding level_below
  step = ap (level_below th margin snr) (back l h)

  pub hit : le (add binary32 (get_or th (l - 1) nan) margin) snr ≡ true → level_below th margin snr l ≡ l - 1
  hit t = step ∙ ap (λ (b : Bool). cond b (l - 1) (level_below th margin snr (l - 1))) t

  pub miss : le (add binary32 (get_or th (l - 1) nan) margin) snr ≡ false → level_below th margin snr l ≡ level_below th margin snr (l - 1)
  miss t = step ∙ ap (λ (b : Bool). cond b (l - 1) (level_below th margin snr (l - 1))) t

-- ---- a level is below the ladder's length
chosen : (b : Bool) (l k : ℕ) → k < suc l → cond b l k < suc l
chosen true l k h = omega arith
chosen false l k h = h

module _ (th : List Float) (margin snr : Float) where
  below_lt : (n : ℕ) → level_below th margin snr (suc n) < suc n
  unfolding level_below
  below_lt zero = chosen (le (add binary32 (get_or th 0 nan) margin) snr) 0 0 (omega arith)
  below_lt (suc n) = chosen (le (add binary32 (get_or th (suc n) nan) margin) snr) (suc n) (level_below th margin snr (suc n)) (let h = below_lt n in omega arith)

  pub level_of_lt : level_of th margin snr < 17
  level_of_lt = below_lt 16

pub level_for_lt : (th : List Float) (margin : Float) (x : Level) → level_for th margin x < 17
level_for_lt th margin Unheard = omega arith
level_for_lt th margin (Decibels snr) = level_of_lt th margin snr
