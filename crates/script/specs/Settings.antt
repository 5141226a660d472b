-- The settings in the bytes p of `drive`: 182, or 199 with those of the beacon's timing (prime, lead, latency) behind them.
use Rattle.std.specs.Prelude.{ℕ, zero, suc, ◌+◌, ◌*◌, Bool, not, cond, ◌||◌, List, [], ◌∷◌, eqb, ltb, get_or, replicate, Float}
use Rattle.bits.specs.Loop.{any}
use Rattle.net.specs.declared.Settings.{Settings}
use Rattle.config.specs.declared.Given.{Given}
use Rattle.script.specs.Numbers.{u32_at, f32_at, f64_at, nan32_at, nan64_at}

-- one of the eleven f64 from byte 0 on, of the nineteen f32 from byte 88 on, of lead and latency has a NaN's pattern
unfoldable pub has_nan64 : List ℕ → Bool
has_nan64 p = any (λ i. nan64_at p (8 * i)) 11 0

unfoldable pub has_nan32 : List ℕ → Bool
has_nan32 p = any (λ i. nan32_at p (88 + 4 * i)) 19 0

abbrev pub has_nan : List ℕ → Bool
has_nan p = has_nan64 p || has_nan32 p || nan64_at p 183 || nan64_at p 191

-- n f32, the first at `at`
unfoldable pub f32s_at : List ℕ → ℕ → ℕ → List Float
f32s_at p zero at = []
f32s_at p (suc n) at = f32_at p at ∷ f32s_at p n (4 + at)

abbrev pub thresholds_at : List ℕ → List Float
thresholds_at p = f32s_at p 17 88

abbrev pub durations_at : List ℕ → List Float
durations_at p = f64_at p 56 ∷ f64_at p 64 ∷ f64_at p 72 ∷ f64_at p 80 ∷ []

-- the call, five packed bytes; until a start has read it, the settings have seven spaces in its place
abbrev pub call_at : List ℕ → List ℕ
call_at p = get_or p 170 0 ∷ get_or p 171 0 ∷ get_or p 172 0 ∷ get_or p 173 0 ∷ get_or p 174 0 ∷ []

abbrev pub nobody : List ℕ
nobody = 32 ∷ 32 ∷ 32 ∷ 32 ∷ 32 ∷ 32 ∷ 32 ∷ []

abbrev pub name_at : List ℕ → List ℕ
name_at p = get_or p 175 0 ∷ get_or p 176 0 ∷ get_or p 177 0 ∷ get_or p 178 0 ∷ get_or p 179 0 ∷ get_or p 180 0 ∷ []

abbrev pub settings_at : List ℕ → Settings
settings_at p = record {
  turnaround = f64_at p 0;
  maxburst = f64_at p 8;
  replyslack = f64_at p 16;
  detect = f64_at p 24;
  beaconevery = f64_at p 32;
  quickbeacon = f64_at p 40;
  idleroundgap = f64_at p 48;
  durations = durations_at p;
  thresholds = thresholds_at p;
  margin = f32_at p 156;
  relaysnr = f32_at p 160;
  misslimit = u32_at p 164;
  beaconlevel = get_or p 168 0;
  windowslots = get_or p 169 0;
  call = nobody;
  name = name_at p;
  prime = not (eqb (get_or p 182 0) 0);
  lead = f64_at p 183;
  latency = f64_at p 191;
  rooms = replicate 17 0;
  payloads = replicate 17 0;
}

-- with the durations and the largest payloads of bursts of data, which have commands of their own (U1); how many frames fit is found at the start
abbrev pub given_at : List ℕ → List Float → List ℕ → Given
given_at p times payloads = record { settings = settings_at p; call = call_at p; times = times; payloads = payloads }

-- the cells lent: byte 181, and at most 64
abbrev pub cells_of : ℕ → ℕ
cells_of n = cond (ltb n 64) n 64

abbrev pub lent_cells : List ℕ → ℕ
lent_cells p = cells_of (get_or p 181 0)
