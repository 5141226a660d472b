-- Small runs, by computation: one reading, 32 and 33 of them, the lowest falling out, -0 and +0, none. Assumes nothing.
use mathlib.Core.Path.{◌≡◌, refl}
use Prim.Native.Nat.{ℕ, zero, suc}
use lib.Ieee.{Float, binary32, of_bits, lt, eq}
use Rattle.level.specs.declared.Level.TheVariants.{Unheard, Decibels}
use Rattle.level.specs.Order.{total_lt}
use Rattle.recent.specs.declared.Recent.{Recent}
use Rattle.recent.specs.Readings.{least_from, empty, noted, back_from, readings, worst}

abbrev low : Float
low = of_bits binary32 0xc1200000

abbrev high : Float
high = of_bits binary32 0x41200000

abbrev plus_zero : Float
plus_zero = of_bits binary32 0x00000000

abbrev minus_zero : Float
minus_zero = of_bits binary32 0x80000000

-- the same reading n times
abbrev again : ℕ → Float → Recent → Recent
again zero x r = r
again (suc n) x r = again n x (noted r x)

none : worst empty ≡ Unheard
unfolding worst readings back_from least_from
none = refl

one : worst (noted empty low) ≡ Decibels low
unfolding worst readings back_from least_from of_bits
one = refl

-- -10 decibels, then 31 times 10: it is the oldest of 32
thirty_two : worst (again 31 high (noted empty low)) ≡ Decibels low
unfolding worst readings back_from least_from of_bits total_lt lt eq
thirty_two = refl

-- once more: it is gone
thirty_three : worst (again 32 high (noted empty low)) ≡ Decibels high
unfolding worst readings back_from least_from of_bits total_lt lt eq
thirty_three = refl

zeros : worst (noted (noted empty plus_zero) minus_zero) ≡ Decibels minus_zero
unfolding worst readings back_from least_from of_bits total_lt lt eq
zeros = refl

zeros_back : worst (noted (noted empty minus_zero) plus_zero) ≡ Decibels minus_zero
unfolding worst readings back_from least_from of_bits total_lt lt eq
zeros_back = refl
