-- A boat takes its seat part by part. Assumes nothing.
use mathlib.Core.Path.{◌≡◌, refl}
use mathlib.Core.List.{List}
use Prim.Native.Nat.{ℕ}
use lib.Ieee.{Float}
use lib.Seq.{set-get_or}
use Rattle.net.specs.declared.Station.{Station}
use Rattle.admit.specs.declared.Seat.{Seat}
use Rattle.admit.specs.declared.Seat.TheVariants.{Known, Free, Full}
use Rattle.admit.specs.Admission.{admit_by}
use Rattle.admit.specs.Code.Seats.{seated_as, seat_words}

pub seat_station : (seat : Seat) (s : Station) (call : List ℕ) (via : ℕ) (now : Float) → seated_as seat s call via now ≡ (admit_by seat s call via now).station
seat_station (Known i) s call via now = rw (set-get_or, set-get_or, set-get_or)
seat_station (Free i) s call via now = refl
seat_station Full s call via now = rw (set-get_or, set-get_or, set-get_or)

pub seat_words_lem : (seat : Seat) (s : Station) (call : List ℕ) (via : ℕ) (now : Float) → seat_words seat via ≡ (admit_by seat s call via now).words
seat_words_lem (Known i) s call via now = refl
seat_words_lem (Free i) s call via now = refl
seat_words_lem Full s call via now = refl
