-- `ncs_rx` of ncs.rs, whole.
use Rattle.std.specs.Prelude.{ℕ, ◌≡◌, Bool, false, cond, List, [], ◌++◌, eqb, Float, Option, None}
use Rattle.wire.specs.Kinds.{tiny, k_idle}
use Rattle.words.specs.Words.{Burst, Parsed, malformed, parsed, parse}
use Rattle.words.specs.declared.Head.{Head}
use Rattle.out.specs.declared.Output.{Output}
use Rattle.out.specs.Encode.{Wrote}
use Rattle.out.specs.Outputs.{Writes}
use Rattle.net.specs.declared.Station.{Station}
use Rattle.net.specs.declared.Turn.{Turn}
use Rattle.net.specs.State.{with_wait}
use Rattle.net.specs.Net.{polled_by}
use Rattle.frames.specs.declared.Air.{Air}
use Rattle.frames.specs.Reading.{Reading}
use Rattle.frames.specs.Frames.{read_frames}
use Rattle.rx.specs.Ending.{is_aside, busy_wait, Ended, nothing_more, idle_end, reply_end}

-- What a reception comes to: station, store, events and burst, the pieces not kept; and what item 3 speaks of: the members as each frame was read, and the
-- slot the waiting for whose reply ended, after the burst.
pub record Received : Type 0 where
  pub station : Station
  pub store : List ℕ
  pub words : List ℕ
  pub unkept : ℕ
  pub seen : List ℕ
  pub over : Option ℕ

-- the slot whose reply this may be; none for an aside burst
abbrev pub air_by : Turn → ℕ → Head → Float → Float → Air
air_by turn used h level now =
    record { level = level; time = now; aside = is_aside h; polled = cond (is_aside h) None (polled_by turn); start = used }

abbrev pub air_of : Station → Head → Float → Float → Air
air_of s h level now = air_by s.wait.turn s.used h level now

abbrev pub first_reading : Station → List ℕ → Reading
first_reading s store =
    record { station = s; store = store; words = []; frame = 0; heard = 0; unkept = 0; sender = None; more = false; seen = [] }

-- events first, then the burst
abbrev pub received_of : Reading → Ended → Received
received_of x e =
    record { station = e.station; store = x.store; words = x.words ++ e.burst; unkept = x.unkept; seen = x.seen; over = e.over }

-- a burst of the ladder, or another that is read for content
abbrev pub full_burst : Air → Head → Reading → Received
full_burst a h x = received_of x (reply_end a h x)

-- a burst without frames: only K_IDLE does more
abbrev pub tiny_burst : Air → Head → Reading → Received
tiny_burst a h x = received_of x (cond (eqb h.hi k_idle) (idle_end a h.extra x.station) (nothing_more x.station))

abbrev pub ncs_rx_from : Air → Burst → Reading → Received
ncs_rx_from a b x =
    cond (eqb b.head.code tiny) (tiny_burst a b.head x) (full_burst a b.head (read_frames a b.frames x))

unfoldable pub ncs_rx : Station → Burst → Float → Float → List ℕ → Received
ncs_rx s b level now store =
    ncs_rx_from (air_of s b.head level now) b
    (first_reading (with_wait s (busy_wait s.wait b.head s.settings now)) store)

-- ---- words that may be refused

-- nothing changes
abbrev pub unheard : Station → List ℕ → Received
unheard s store = record { station = s; store = store; words = []; unkept = 0; seen = []; over = None }

abbrev pub rx_by : Parsed Burst → Station → Float → Float → List ℕ → Received
rx_by malformed s level now store = unheard s store
rx_by (parsed b) s level now store = ncs_rx s b level now store

abbrev pub rx_of : Bool → List ℕ → Station → Float → Float → List ℕ → Received
rx_of ok words s level now store = cond ok (rx_by (parse words) s level now store) (unheard s store)

-- a function that was lent the store and the output l returned the station r and left the store t, the output m, the place j and the mask k: it did what d says
pub record RxDid (d : Received) (r : Station) (t : List ℕ) (l : List ℕ) (m : List ℕ) (j : ℕ) (k : ℕ) : Type 0 where
  pub station : r ≡ d.station
  pub store : t ≡ d.store
  pub wrote : Wrote l 0 d.words m j
  pub unkept : k ≡ d.unkept

-- the same of the output o, which it left as m
pub record RxDoes (d : Received) (r : Station) (t : List ℕ) (o m : Output) (k : ℕ) : Type 0 where
  pub station : r ≡ d.station
  pub store : t ≡ d.store
  pub wrote : Writes o d.words m
  pub unkept : k ≡ d.unkept
