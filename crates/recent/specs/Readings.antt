-- Request U13 of document 02: 'Keep the last 32 reception levels that updated a boat's up level, fewer at first, and give the lowest.' Definitions only.
use Rattle.std.specs.Prelude.{ℕ, zero, suc, ◌+◌, ◌%◌, ◌≡◌, false, cond, T, ltb, get_or, set, replicate, Float}
use mathlib.Core.List.{List, [], ◌∷◌, Memᴰ}
use Rattle.std.specs.Float.{nan, binary32}
use Rattle.std.specs.Float.Ieee.{of_bits}
use Rattle.std.specs.Float.Ieee.Scale.{finite}
use Rattle.level.specs.declared.Level.{Level}
use Rattle.level.specs.declared.Level.TheVariants.{Unheard, Decibels}
use Rattle.level.specs.Order.{total_lt}
use Rattle.recent.specs.declared.Recent.{Recent}

-- ---- the lowest of some levels

-- -0 is below +0
abbrev pub lower : Level → Float → Level
lower Unheard x = Decibels x
lower (Decibels y) x = cond (total_lt x y) (Decibels x) (Decibels y)

unfoldable pub least_from : Level → List Float → Level
least_from low [] = low
least_from low (x ∷ xs) = least_from (lower low x) xs

-- law `lowest`
abbrev pub least_of : List Float → Level
least_of xs = least_from Unheard xs

-- ---- what the lowest of the levels xs is

-- one of them; unheard where there are none
abbrev pub OneOf : Level → List Float → Type 0
OneOf Unheard xs = xs ≡ []
OneOf (Decibels y) xs = Memᴰ y xs

-- x is not below it, -0 being below +0
abbrev pub NotBelow : Level → Float → Type 0
NotBelow Unheard x = ⊥
NotBelow (Decibels y) x = total_lt x y ≡ false

abbrev pub Finite : List Float → Type 0
Finite [] = Unit {0}
Finite (x ∷ xs) = T (finite x) × Finite xs

pub record Lowest (l : Level) (xs : List Float) : Type 0 where
  pub one : OneOf l xs
  pub none : Finite xs → (x : Float) → Memᴰ x xs → NotBelow l x

-- ---- the ring: the next reading goes to place `at`, and the `count` places before it hold the last ones

-- what an element past an array's end is taken for
abbrev pub no_recent : Recent
no_recent = record { levels = []; count = 0; at = 0 }

abbrev pub empty : Recent
empty = record { levels = replicate 32 (of_bits binary32 0); count = 0; at = 0 }

abbrev pub noted : Recent → Float → Recent
noted r x = record { levels = set r.levels (r.at % 32) x; count = cond (ltb r.count 32) (r.count + 1) 32; at = (r.at % 32 + 1) % 32 }

-- at most 32
abbrev pub kept : ℕ → ℕ
kept count = cond (ltb count 32) count 32

-- the n readings before place p, the newest first
unfoldable pub back_from : List Float → ℕ → ℕ → List Float
back_from levels p zero = []
back_from levels p (suc n) = get_or levels ((p + 31) % 32) nan ∷ back_from levels ((p + 31) % 32) n

-- those that the ring holds; with one more they are the newest 32 (law `noted_readings`)
unfoldable pub readings : Recent → List Float
readings r = back_from r.levels (r.at % 32) (kept r.count)

unfoldable pub worst : Recent → Level
worst r = least_of (readings r)
