-- Document 01, Settings: the span of each setting (5), and the settings that a start leaves.
use Rattle.std.specs.Prelude.{ℕ, zero, suc, ◌+◌, ◌*◌, Bool, not, cond, ◌&&◌, List, [], ◌∷◌, eqb, ltb, leb, get_or, Float}
use Rattle.std.specs.Float.{nan}
use Rattle.std.specs.Float.Ieee.{le}
use Rattle.bits.specs.Loop.{every}
use Rattle.level.specs.Spans.{up_to, within}
use Rattle.wire.specs.Call.{number_of, unpack_call}
use Rattle.net.specs.declared.Settings.{Settings}
use Rattle.config.specs.declared.Given.{Given}

-- seconds, lead and latency (U7) among them, and the four control burst durations: 0 to 1,000,000
abbrev pub span_ok : Float → Bool
span_ok t = up_to 1000000 t

abbrev pub seconds_ok : Settings → Bool
seconds_ok g =
    span_ok g.turnaround && span_ok g.maxburst && span_ok g.replyslack && span_ok g.detect && span_ok g.beaconevery && span_ok g.quickbeacon
    && span_ok g.idleroundgap && span_ok g.lead && span_ok g.latency

abbrev pub durations_ok : List Float → Bool
durations_ok d = span_ok (get_or d 0 nan) && span_ok (get_or d 1 nan) && span_ok (get_or d 2 nan) && span_ok (get_or d 3 nan)

-- decibels: -200 to 200; 17 thresholds
unfoldable pub thresholds_ok : List Float → Bool
thresholds_ok th = every (λ l. within 200 (get_or th l nan)) 17 0

abbrev pub decibels_ok : Settings → Bool
decibels_ok g = thresholds_ok g.thresholds && within 200 g.margin && within 200 g.relaysnr

-- miss limit 1 to 1,000; beacon level 0 to 16; call five packed bytes below 38^7, which is 114,415,582,592; name any six bytes; window slots any byte
abbrev pub numbers_ok : Settings → Bool
numbers_ok g = leb 1 g.misslimit && leb g.misslimit 1000 && leb g.beaconlevel 16

-- ---- bursts of data (request U1)

-- 17 by 64 durations: of n frames, 1 to 64, at level l, at 64 l + n - 1
unfoldable pub data_ok : List Float → Bool
data_ok d = every (λ i. span_ok (get_or d i nan)) 1088 0

-- the largest payload of each level, a byte: 1 to 255
unfoldable pub payloads_ok : List ℕ → Bool
payloads_ok p = every (λ l. not (eqb (get_or p l 0) 0)) 17 0

-- `room(level, 64)` of net.rs: n frames, and one more, k times at most, while the duration of one frame more is at most max_burst_s
unfoldable pub room_on : List Float → Float → ℕ → ℕ → ℕ → ℕ
room_on d max level zero n = n
room_on d max level (suc k) n = cond (le (get_or d (64 * level + n) nan) max) (room_on d max level k (n + 1)) n

unfoldable pub room : List Float → Float → ℕ → ℕ
room d max level = room_on d max level 63 1

-- of n levels from `level` on
unfoldable pub rooms_from : List Float → Float → ℕ → ℕ → List ℕ
rooms_from d max zero level = []
rooms_from d max (suc n) level = room d max level ∷ rooms_from d max n (level + 1)

unfoldable pub settings_ok : Given → Bool
settings_ok x =
    seconds_ok x.settings && durations_ok x.settings.durations && decibels_ok x.settings && numbers_ok x.settings && ltb (number_of x.call) 114415582592
    && data_ok x.times && payloads_ok x.payloads

-- the settings of a start: the call is read as any call is, and the station keeps how many frames fit a burst at each level
abbrev pub settings_of : Given → Settings
settings_of x = record { turnaround = x.settings.turnaround; maxburst = x.settings.maxburst; replyslack = x.settings.replyslack; detect = x.settings.detect; beaconevery = x.settings.beaconevery; quickbeacon = x.settings.quickbeacon; idleroundgap = x.settings.idleroundgap; durations = x.settings.durations; thresholds = x.settings.thresholds; margin = x.settings.margin; relaysnr = x.settings.relaysnr; misslimit = x.settings.misslimit; beaconlevel = x.settings.beaconlevel; windowslots = x.settings.windowslots; call = unpack_call x.call; name = x.settings.name; prime = x.settings.prime; lead = x.settings.lead; latency = x.settings.latency; rooms = rooms_from x.times x.settings.maxburst 17 0; payloads = x.payloads }
