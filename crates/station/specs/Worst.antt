-- Request U13 of document 02: 'Before a crossing the dispatcher wants a boat's poorest signal of late.' The entry point, checks 8 and 21; the station is only read.
use Rattle.std.specs.Prelude.{ℕ, cond, eqb, Float, Option, None, Result, Ok, Err}
use Rattle.refusal.specs.declared.Refusal.{Refusal}
use Rattle.refusal.specs.Numbers.{number_in}
use Rattle.level.specs.declared.Level.{Level}
use Rattle.level.specs.Levels.{decibels_in}
use Rattle.recent.specs.Readings.{worst}
use Rattle.net.specs.declared.Station.{Station}
use Rattle.net.specs.State.{index_of, recent_at}
use Rattle.station.specs.Refusals.{refusal_of}
use Rattle.station.specs.SignOff.{sign_off_refusal}

-- the lowest of the boat's last 32 reception levels, unheard where there are none; the checks are those of signing off
unfoldable pub worst_of : Station → ℕ → Result Level Refusal
worst_of s slot =
    cond (eqb (sign_off_refusal s.used slot) 0) (Ok (worst (recent_at s (index_of slot)))) (Err (refusal_of (sign_off_refusal s.used slot)))

-- the number of document 01 that an answer is; 0 for none
abbrev pub refusal_in : Result Level Refusal → ℕ
refusal_in x = number_in x

-- the decibels that an answer is; none for a refusal, and where nothing was heard
abbrev pub decibels_of : Result Level Refusal → Option Float
decibels_of (Ok level) = decibels_in level
decibels_of (Err r) = None
