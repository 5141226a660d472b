-- The settings from their parts. Assumes nothing.
use mathlib.Core.Path.{◌≡◌}
use mathlib.Core.Bool.{not}
use mathlib.Core.List.{List}
use Prim.Native.Nat.{ℕ}
use lib.Dec.{eqb}
use lib.ListN.{get_or, replicate}
use lib.Ieee.{Float}
use Rattle.net.specs.declared.Settings.{Settings}
use Rattle.script.specs.Numbers.{u32_at, f32_at, f64_at}
use Rattle.script.specs.Settings.{durations_at, thresholds_at, nobody, name_at, settings_at}

pub settings_is : (p : List ℕ) {a b d e g h i q v : Float} {four th : List Float} {m r : Float} {n : ℕ}
    → a ≡ f64_at p 0 → b ≡ f64_at p 8 → d ≡ f64_at p 16 → e ≡ f64_at p 24 → g ≡ f64_at p 32 → h ≡ f64_at p 40 → i ≡ f64_at p 48
    → four ≡ durations_at p → th ≡ thresholds_at p → m ≡ f32_at p 156 → r ≡ f32_at p 160 → n ≡ u32_at p 164 → q ≡ f64_at p 183 → v ≡ f64_at p 191
    → ◌≡◌ {A = Settings} (record { turnaround = a; maxburst = b; replyslack = d; detect = e; beaconevery = g; quickbeacon = h; idleroundgap = i; durations = four; thresholds = th; margin = m; relaysnr = r; misslimit = n; beaconlevel = get_or p 168 0; windowslots = get_or p 169 0; call = nobody; name = name_at p; prime = not (eqb (get_or p 182 0) 0); lead = q; latency = v; rooms = replicate 17 0; payloads = replicate 17 0 }) (settings_at p)
settings_is p ea eb ed ee eg eh ei e4 et em er en eq ev = rw (ea, eb, ed, ee, eg, eh, ei, e4, et, em, er, en, eq, ev)
