-- `snr_from_q` and `Caps::from_byte` of wire.rs. Definitions only.
use Rattle.std.specs.Prelude.{ℕ, ◌/◌, ◌%◌, Bool, cond, eqb, pos, Float}
use Rattle.std.specs.Float.{binary32}
use Rattle.std.specs.Float.Ieee.{sub, of_int}
use Rattle.level.specs.Consts.{twenty_four}
use Rattle.level.specs.declared.Level.{Level}
use Rattle.level.specs.declared.Level.TheVariants.{Unheard, Decibels}

-- the low six bits, less 24
unfoldable pub field_db : ℕ → Float
field_db q = sub binary32 (of_int binary32 (pos (q % 64))) twenty_four

-- the level that a field says: 63 in its low six bits is a boat that measured nothing
unfoldable pub snr_from_q : ℕ → Level
snr_from_q q = cond (eqb (q % 64) 63) Unheard (Decibels (field_db q))

-- qsy 1, wide 2, relay 4, attended 8, chorus 16; the other bits are dropped
abbrev pub caps_of : ℕ → ℕ
caps_of b = b % 32

-- willing to relay for others
abbrev pub relays : ℕ → Bool
relays caps = eqb (caps / 4 % 2) 1
