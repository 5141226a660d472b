-- `widen8` of wire.rs; document 01, 'Message number'. Definitions only.
use Rattle.std.specs.Prelude.{Bool, false, cond, ◌&&◌, ◌||◌, ℕ, ◌+◌, ◌-◌, ◌%◌, ltb, Option, Some, None}

-- no message has this number or one above it
abbrev pub numbers : ℕ
numbers = 4294967040

-- d = (s - next) mod 256
abbrev pub distance : ℕ → ℕ → ℕ
distance s next = (s + 256 - next % 256) % 256

-- below 128 the number is next + d; otherwise it is next - (256 - d), or none if that is negative
unfoldable pub widened_at : ℕ → ℕ → Option ℕ
widened_at s next =
    cond (ltb (distance s next) 128) (Some (next + distance s next))
    (cond (ltb next (256 - distance s next)) None (Some (next - (256 - distance s next))))

-- for every next that a station can have, that; one above, which none has, is read as `numbers`
unfoldable pub widened : ℕ → ℕ → Option ℕ
widened s next = cond (ltb numbers next) (widened_at s numbers) (widened_at s next)

-- RFC 1982, section 3.2: i1 is less than i2, where half is 2 ^ (SERIAL_BITS - 1). At the distance half, which it leaves undefined, neither is less
abbrev pub serial_lt : ℕ → ℕ → ℕ → Bool
serial_lt half i1 i2 = (ltb i1 i2 && ltb (i2 - i1) half) || (ltb i2 i1 && ltb half (i1 - i2))

-- the number made whole is above next
abbrev pub is_above : Option ℕ → ℕ → Bool
is_above (Some k) next = ltb next k
is_above None next = false
