-- The float constants of net.rs, ncs.rs and wire.rs by their bit patterns, as the compiler has them, each with the law that says which decimal it is:
-- the fraction of two whole numbers, rounded once to the nearest value of the format.
use Rattle.std.specs.Prelude.{◌≡◌, refl, false, Float}
use Rattle.std.specs.Float.{binary32, binary64}
use Rattle.std.specs.Float.Ieee.{of_bits, round}

-- 0.0
abbrev pub zero_time : Float
zero_time = of_bits binary64 0x0000_0000_0000_0000

pub zero_time_is : zero_time ≡ round binary64 false 0 1
unfolding of_bits round
zero_time_is = refl

-- 1.0
abbrev pub one : Float
one = of_bits binary64 0x3ff0_0000_0000_0000

pub one_is : one ≡ round binary64 false 1 1
unfolding of_bits round
one_is = refl

-- 2.0
abbrev pub two : Float
two = of_bits binary64 0x4000_0000_0000_0000

pub two_is : two ≡ round binary64 false 2 1
unfolding of_bits round
two_is = refl

-- 3.0
abbrev pub three : Float
three = of_bits binary64 0x4008_0000_0000_0000

pub three_is : three ≡ round binary64 false 3 1
unfolding of_bits round
three_is = refl

-- 0.3: SLOT_SLACK_S, the slack at the end of a check-in slot
abbrev pub slot_slack : Float
slot_slack = of_bits binary64 0x3fd3_3333_3333_3333

pub slot_slack_is : slot_slack ≡ round binary64 false 3 10
unfolding of_bits round
slot_slack_is = refl

-- 0.5 as f32
abbrev pub half : Float
half = of_bits binary32 0x3f00_0000

pub half_is : half ≡ round binary32 false 1 2
unfolding of_bits round
half_is = refl

-- 24.0 as f32
abbrev pub twenty_four : Float
twenty_four = of_bits binary32 0x41c0_0000

pub twenty_four_is : twenty_four ≡ round binary32 false 24 1
unfolding of_bits round
twenty_four_is = refl
