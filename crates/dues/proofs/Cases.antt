-- Definitions run: charges where the rate changes, a boat with a relay, one with an empty relay slot, and figures that are refused. Assumes nothing.
use mathlib.Core.Path.{◌≡◌, refl}
use mathlib.Core.Bool.{Bool, true, false}
use Rattle.std.specs.Prelude.{Ok}
use Rattle.refusal.specs.Numbers.{number_in}
use mathlib.Core.List.{List, [], ◌∷◌, ◌++◌}
use Prim.Native.Nat.{ℕ}
use lib.ListN.{replicate}
use Rattle.bits.specs.Loop.{every}
use Rattle.bits.specs.Mask.{has_bit}
use Rattle.level.specs.Consts.{zero_time}
use Rattle.roster.specs.Members.{new_member}
use Rattle.net.specs.declared.Station.{Station}
use Rattle.net.specs.declared.Settings.{Settings}
use Rattle.net.specs.State.{with_used, with_members}
use Rattle.net.specs.Net.{is_member, blank_call, new_station}
use Rattle.dues.specs.Dues.{slots_from, total, started256, charge_of, credit_of, takings_of, figures_ok, dues_refusal, bill_of, dues_of}

pub charge_cases : (charge_of 0 ≡ 0) × (charge_of 1024 ≡ 0) × (charge_of 1025 ≡ 35) × (charge_of 1280 ≡ 35) × (charge_of 1281 ≡ 70)
    × (charge_of 16384 ≡ 2100) × (charge_of 16385 ≡ 2120) × (charge_of 16640 ≡ 2120) × (charge_of 16641 ≡ 2140) × (charge_of 1000000000 ≡ 78125820)
unfolding charge_of started256
charge_cases = (refl, refl, refl, refl, refl, refl, refl, refl, refl, refl)

-- two boats, in slots 0 and 1; the relay of the second is in slot r
abbrev two : Settings → ℕ → Station
two g r =
    with_used (with_members (new_station g 1) (new_member blank_call 63 zero_time ∷ new_member blank_call r zero_time ∷ replicate 60 (new_member blank_call 63 zero_time))) 3

-- the figure of slot 2, which is empty, is charged nothing
abbrev month : List ℕ
month = 16385 ∷ 1025 ∷ 5000 ∷ replicate 59 0

-- of 35 cents a tenth is 3 and nine tenths are 32
pub relayed : (g : Settings) → dues_of (two g 0) month ≡ Ok (record { charges = 2120 ∷ 35 ∷ replicate 60 0; credits = 3 ∷ replicate 61 0; takings = 2152 })
unfolding dues_of bill_of figures_ok every slots_from total charge_of started256 credit_of takings_of is_member has_bit
relayed g = refl

pub empty_relay : (g : Settings) → dues_of (two g 2) month ≡ Ok (record { charges = 2120 ∷ 35 ∷ replicate 60 0; credits = replicate 62 0; takings = 2152 })
unfolding dues_of bill_of figures_ok every slots_from total charge_of started256 credit_of takings_of is_member has_bit
empty_relay g = refl

pub refusals : (dues_refusal (replicate 62 1000000000) ≡ 0) × (dues_refusal (replicate 61 0) ≡ 26) × (dues_refusal (replicate 63 0) ≡ 26)
    × (dues_refusal (replicate 61 0 ++ (1000000001 ∷ [])) ≡ 26)
unfolding figures_ok every
refusals = (refl, refl, refl, refl)

-- a refused month is refused with the number that `dues_refusal` gives
pub refusal_said : (s : Station) (figures : List ℕ) → number_in (dues_of s figures) ≡ dues_refusal figures
unfolding dues_of
refusal_said s figures = go (figures_ok figures) refl
  where
    go : (b : Bool) → figures_ok figures ≡ b → number_in (dues_of s figures) ≡ dues_refusal figures
    go true e = rw e
    go false e = rw e
