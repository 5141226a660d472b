-- Relays of relays arise: three boats admitted directly, each with the one before for its relay, and two steps lead from the last, not one. Their dues
-- put credits on two lines. Definitions run.
-- Assumes nothing.
use mathlib.Core.Path.{◌≡◌, refl}
use Prim.Native.Nat.{ℕ}
use mathlib.Core.Bool.{true, false}
use mathlib.Core.List.{List, [], ◌∷◌}
use lib.ListN.{replicate}
use lib.Ieee.{of_bits}
use Rattle.level.specs.Consts.{zero_time}
use Rattle.bits.specs.Loop.{first, every}
use Rattle.bits.specs.Mask.{has_bit, with_bit, lowest_free}
use Rattle.wire.specs.Call.{digit, char, trim_start, trim_end, unpacked, shifted}
use Rattle.admit.specs.Admission.{seat_of, find_call, leads_to}
use Rattle.station.specs.Entries.{admit_of, admit_refusal}
use Rattle.net.specs.declared.Station.{Station}
use Rattle.net.specs.declared.Settings.{Settings}
use Rattle.net.specs.Net.{is_member, new_station}
use Rattle.std.specs.Prelude.{Ok}
use Rattle.dues.specs.Dues.{slots_from, total, started256, charge_of, credit_of, takings_of, figures_ok, bill_of, dues_of}
use Rattle.promise.specs.Promise.{net, Call, admission, result, step, after, leads}

abbrev pub three : List Call
three =
    admission (0 ∷ 0 ∷ 0 ∷ 0 ∷ 1 ∷ []) 63 zero_time 8192
    ∷ admission (0 ∷ 0 ∷ 0 ∷ 0 ∷ 2 ∷ []) 0 zero_time 8192
    ∷ admission (0 ∷ 0 ∷ 0 ∷ 0 ∷ 3 ∷ []) 1 zero_time 8192
    ∷ []

abbrev pub line : Settings → List ℕ → Station
line g store = (after three (net (new_station g 1) store)).station

pub chain : (g : Settings) (store : List ℕ) → (leads (line g store) 2 2 ≡ true) × (leads (line g store) 1 2 ≡ false)
unfolding leads after step result new_station admit_of admit_refusal is_member has_bit with_bit seat_of find_call first lowest_free leads_to digit char trim_start trim_end unpacked shifted of_bits
chain g store = (refl, refl)

-- 1,025 bytes each
pub chain_dues : (g : Settings) (store : List ℕ)
    → dues_of (line g store) (1025 ∷ 1025 ∷ 1025 ∷ replicate 59 0)
    ≡ Ok (record { charges = 35 ∷ 35 ∷ 35 ∷ replicate 59 0; credits = 3 ∷ 3 ∷ replicate 60 0; takings = 99 })
unfolding after step result new_station admit_of admit_refusal is_member has_bit with_bit seat_of find_call first lowest_free leads_to digit char trim_start trim_end unpacked shifted of_bits dues_of bill_of figures_ok every slots_from total started256 charge_of credit_of takings_of
chain_dues g store = refl
