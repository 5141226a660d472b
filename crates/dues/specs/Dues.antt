-- Airtime dues: what each slot is charged and credited in cents, and what the port takes, from the month's bytes.
-- `figures` are the bytes landed in the month, one figure for each of the 62 slots. A boat's relay is a slot, and 63 is none.
use Rattle.std.specs.Prelude.{ℕ, zero, suc, ◌+◌, ◌-◌, ◌*◌, ◌/◌, min, Bool, cond, ◌&&◌, List, [], ◌∷◌, eqb, leb, length, get_or, Result, Ok, Err}
use Rattle.refusal.specs.declared.Refusal.{Refusal}
use Rattle.refusal.specs.declared.Refusal.TheVariants.{Figures}
use Rattle.bits.specs.Loop.{every}
use Rattle.net.specs.declared.Station.{Station}
use Rattle.net.specs.State.{member_at}
use Rattle.net.specs.Net.{is_member}
use Rattle.dues.specs.declared.Bill.{Bill}

-- ---- slots

-- what f says of each of n slots, from slot i on
unfoldable pub slots_from : (ℕ → ℕ) → ℕ → ℕ → List ℕ
slots_from f zero i = []
slots_from f (suc n) i = f i ∷ slots_from f n (suc i)

-- and of each of the 62
abbrev pub per_slot : (ℕ → ℕ) → List ℕ
per_slot f = slots_from f 62 0

-- their sum
unfoldable pub total : List ℕ → ℕ
total [] = 0
total (x ∷ xs) = x + total xs

-- ---- cents

-- how many times 256 bytes are started
unfoldable pub started256 : ℕ → ℕ
started256 n = (n + 255) / 256

-- the first 1,024 bytes free, then 35 cents for each started 256 up to 16,384, then 20 for each started 256
unfoldable pub charge_of : ℕ → ℕ
charge_of n = 35 * started256 (min n 16384 - 1024) + 20 * started256 (n - 16384)

-- a tenth, rounded down to a cent
abbrev pub tenth_of : ℕ → ℕ
tenth_of cents = cents / 10

-- nine tenths, rounded up to a cent
abbrev pub nine_tenths : ℕ → ℕ
nine_tenths cents = (9 * cents + 9) / 10

-- ---- a slot's line: its charge, its credit, and what the port takes of the charge

-- an empty slot is charged nothing
abbrev pub charge_by : ℕ → ℕ → ℕ → ℕ
charge_by used slot n = cond (is_member used slot) (charge_of n) 0

-- the charge of slot i
abbrev pub charge_at : Station → List ℕ → ℕ → ℕ
charge_at s figures i = charge_by s.used i (get_or figures i 0)

-- the relay that the record of the boat in slot i names
abbrev pub relay_of : Station → ℕ → ℕ
relay_of s i = (member_at s i).via

-- what slot r is credited of the charge of slot i: a tenth, where r is its relay
abbrev pub credit_from : Station → List ℕ → ℕ → ℕ → ℕ
credit_from s figures r i = cond (eqb (relay_of s i) r) (tenth_of (charge_at s figures i)) 0

-- and of all charges; an empty slot is credited nothing
unfoldable pub credit_of : Station → List ℕ → ℕ → ℕ
credit_of s figures r = cond (is_member s.used r) (total (per_slot (credit_from s figures r))) 0

-- the same from the charge's side, as the code has it: what a relay is credited of it
abbrev pub tenth_to : ℕ → ℕ → ℕ → ℕ
tenth_to used relay cents = cond (is_member used relay) (tenth_of cents) 0

-- what the port takes of a charge: the whole, or nine tenths for a boat with a relay
abbrev pub taking_by : ℕ → ℕ → ℕ
taking_by relay cents = cond (eqb relay 63) cents (nine_tenths cents)

-- what it takes of slot i's
abbrev pub taking_of : Station → List ℕ → ℕ → ℕ
taking_of s figures i = taking_by (relay_of s i) (charge_at s figures i)

-- its takings, boat by boat
unfoldable pub takings_of : Station → List ℕ → ℕ
takings_of s figures = total (per_slot (taking_of s figures))

-- ---- the answer

-- 62 figures, each up to 1,000,000,000, those of empty slots too
unfoldable pub figures_ok : List ℕ → Bool
figures_ok figures = eqb (length figures) 62 && every (λ i. leb (get_or figures i 0) 1000000000) 62 0

-- 26: a figure too large, or not 62 figures
abbrev pub dues_refusal : List ℕ → ℕ
dues_refusal figures = cond (figures_ok figures) 0 26

-- each slot's charge and credit, and the takings
unfoldable pub bill_of : Station → List ℕ → Bill
bill_of s figures =
    record { charges = per_slot (charge_at s figures); credits = per_slot (credit_of s figures); takings = takings_of s figures }

-- the bill, or the refusal of that number (law `refusal_said`)
unfoldable pub dues_of : Station → List ℕ → Result Bill Refusal
dues_of s figures = cond (eqb (dues_refusal figures) 0) (Ok (bill_of s figures)) (Err Figures)
