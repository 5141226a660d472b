-- Request U3 of document 02: a boat signs off, the entry point: 8 slot above 61; 21 no member in the slot.
use Rattle.std.specs.Prelude.{ℕ, cond, [], ltb}
use Rattle.net.specs.declared.Station.{Station}
use Rattle.net.specs.Net.{is_member}
use Rattle.station.specs.Entries.{Outcome, done, unless}
use Rattle.signoff.specs.SignOff.{sign_off}

unfoldable pub sign_off_refusal : ℕ → ℕ → ℕ
sign_off_refusal used slot = cond (ltb 61 slot) 8 (cond (is_member used slot) 0 21)

unfoldable pub sign_off_of : Station → ℕ → Outcome
sign_off_of s slot = unless (sign_off_refusal s.used slot) s [] (done (sign_off s slot) [] [])
