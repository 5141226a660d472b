-- The digits from here on say whether all are digits, and make the value that all make.
use Rattle.std.proofs.Common.{◌≡◌, ◌%◌, ◌^◌, drop}
use Rattle.std.specs.Str.Parse.{AllDigits, digits_value, digits_value_after}
use Rattle.text.proofs.number.hex_value.Given as goal

abbrev pub invariant-loop-b : goal.invariant-loop-b
invariant-loop-b l =
    (AllDigits 16 l.digits → AllDigits 16 (drop l.b-index l.digits))
    × (AllDigits 16 (drop l.b-index l.digits) → AllDigits 16 l.digits)
    × (digits_value_after 16 l.value (drop l.b-index l.digits) % 2 ^ 32 ≡ digits_value 16 l.digits % 2 ^ 32)
