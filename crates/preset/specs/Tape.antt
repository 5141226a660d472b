-- Document 01, 'Words': the settings of `tape`: call `0`, name `PORT`, durations 1.0, thresholds -20 + 2 × level, `prime` false, else `NetConfig::new`
-- (net.rs). Floats stand by their bit patterns; the laws below say which decimals they are.
use Rattle.std.specs.Prelude.{◌≡◌, refl, true, false, List, [], ◌∷◌, ℕ, Float, replicate}
use Rattle.std.specs.Float.{binary32, binary64}
use Rattle.std.specs.Float.Ieee.{of_bits, round}
use Rattle.wire.specs.Call.{bytes_of}
use Rattle.net.specs.declared.Settings.{Settings}
use Rattle.net.specs.declared.Station.{Station}
use Rattle.net.specs.Net.{new_station}
use Rattle.config.specs.declared.Given.{Given}
use Rattle.config.specs.Checks.{settings_of}

-- -20 + 2 × level, level 0 first
abbrev pub ladder : List Float
ladder =
    of_bits binary32 0xc1a0_0000 ∷ of_bits binary32 0xc190_0000 ∷ of_bits binary32 0xc180_0000 ∷ of_bits binary32 0xc160_0000 ∷
    of_bits binary32 0xc140_0000 ∷ of_bits binary32 0xc120_0000 ∷ of_bits binary32 0xc100_0000 ∷ of_bits binary32 0xc0c0_0000 ∷
    of_bits binary32 0xc080_0000 ∷ of_bits binary32 0xc000_0000 ∷ of_bits binary32 0x0000_0000 ∷ of_bits binary32 0x4000_0000 ∷
    of_bits binary32 0x4080_0000 ∷ of_bits binary32 0x40c0_0000 ∷ of_bits binary32 0x4100_0000 ∷ of_bits binary32 0x4120_0000 ∷
    of_bits binary32 0x4140_0000 ∷ []

pub ladder_is : ladder ≡
    round binary32 true 20 1 ∷ round binary32 true 18 1 ∷ round binary32 true 16 1 ∷ round binary32 true 14 1 ∷ round binary32 true 12 1 ∷ round binary32 true 10 1 ∷
    round binary32 true 8 1 ∷ round binary32 true 6 1 ∷ round binary32 true 4 1 ∷ round binary32 true 2 1 ∷ round binary32 false 0 1 ∷ round binary32 false 2 1 ∷
    round binary32 false 4 1 ∷ round binary32 false 6 1 ∷ round binary32 false 8 1 ∷ round binary32 false 10 1 ∷ round binary32 false 12 1 ∷ []
unfolding of_bits round
ladder_is = refl

-- the largest payloads are the Rust's: its frames have 32 bytes at levels 0 to 4 and 180 from level 5 on, 10 of them not payload (U1)
abbrev pub payloads : List ℕ
payloads = 22 ∷ 22 ∷ 22 ∷ 22 ∷ 22 ∷ 170 ∷ 170 ∷ 170 ∷ 170 ∷ 170 ∷ 170 ∷ 170 ∷ 170 ∷ 170 ∷ 170 ∷ 170 ∷ 170 ∷ []

-- the call is 3010936384, the call `0`, in five bytes; the name is PORT and two spaces
abbrev pub tape_settings : Given
tape_settings = record {
  settings = record {
    turnaround = of_bits binary64 0x3fd3_3333_3333_3333;
    maxburst = of_bits binary64 0x4020_0000_0000_0000;
    replyslack = of_bits binary64 0x3ff0_0000_0000_0000;
    detect = of_bits binary64 0x3ff0_0000_0000_0000;
    beaconevery = of_bits binary64 0x4072_c000_0000_0000;
    quickbeacon = of_bits binary64 0x4046_8000_0000_0000;
    idleroundgap = of_bits binary64 0x402e_0000_0000_0000;
    durations = replicate 4 (of_bits binary64 0x3ff0_0000_0000_0000);
    thresholds = ladder;
    margin = of_bits binary32 0x3f80_0000;
    relaysnr = of_bits binary32 0xc100_0000;
    misslimit = 2;
    beaconlevel = 0;
    windowslots = 4;
    call = replicate 7 32;
    name = 80 ∷ 79 ∷ 82 ∷ 84 ∷ 32 ∷ 32 ∷ [];
    prime = false;
    lead = of_bits binary64 0x0000_0000_0000_0000;
    latency = of_bits binary64 0x0000_0000_0000_0000;
    rooms = replicate 17 0;
    payloads = replicate 17 0;
  };
  call = bytes_of 5 3010936384;
  times = replicate 1088 (of_bits binary64 0x3ff0_0000_0000_0000);
  payloads = payloads;
}

-- the decimals of NetConfig::new
abbrev pub g : Settings
g = tape_settings.settings

pub seconds_are : g.turnaround ∷ g.maxburst ∷ g.replyslack ∷ g.detect ∷ g.beaconevery ∷ g.quickbeacon ∷ g.idleroundgap ∷ g.lead ∷ [] ≡
    round binary64 false 3 10 ∷ round binary64 false 8 1 ∷ round binary64 false 1 1 ∷ round binary64 false 1 1 ∷ round binary64 false 300 1 ∷ round binary64 false 45 1 ∷ round binary64 false 15 1 ∷ round binary64 false 0 1 ∷ []
unfolding of_bits round
seconds_are = refl

pub decibels_are : g.margin ∷ g.relaysnr ∷ [] ≡ round binary32 false 1 1 ∷ round binary32 true 8 1 ∷ []
unfolding of_bits round
decibels_are = refl

-- a station for a first start: no cell, nobody
abbrev pub blank : Station
blank = new_station (settings_of tape_settings) 0
