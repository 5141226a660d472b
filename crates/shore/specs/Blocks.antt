-- The station as a host holds it: every part of `Block` in numbers and arrays, and the station that a block says. No float is converted: its bits stay as they are.
use mir.Val.{bool_byte}
use Rattle.std.specs.Prelude.{ℕ, ◌≡◌, Bool, not, cond, List, map, eqb, Float, Option, Some, None}
use Rattle.std.specs.Float.Ieee.{of_bits}
use Rattle.std.specs.Float.{binary32, binary64}
use Rattle.level.specs.declared.Level.{Level}
use Rattle.level.specs.declared.Level.TheVariants.{Unheard, Decibels}
use Rattle.queue.specs.declared.Queue.{Queue}
use Rattle.roster.specs.declared.Member.{Member}
use Rattle.net.specs.declared.Reply.{Reply}
use Rattle.net.specs.declared.Turn.{Turn}
use Rattle.net.specs.declared.Turn.TheVariants.{Idle, Sending, Waiting}
use Rattle.net.specs.declared.Wait.{Wait}
use Rattle.net.specs.declared.Settings.{Settings}
use Rattle.net.specs.declared.Round.{Round}
use Rattle.net.specs.declared.Station.{Station}
use Rattle.shore.specs.declared.block.Reading.{Reading}
use Rattle.shore.specs.declared.block.Time.{Time}
use Rattle.shore.specs.declared.block.Await.{Await}
use Rattle.shore.specs.declared.block.Setup.{Setup}
use Rattle.shore.specs.declared.block.Course.{Course}
use Rattle.shore.specs.declared.block.Boat.{Boat}
use Rattle.shore.specs.declared.block.Line.{Line}
use Rattle.shore.specs.declared.block.Block.{Block}

-- a flag is a byte: 1 where it is set; any byte but 0 is read as set
abbrev pub flag_of : Bool → ℕ
flag_of b = bool_byte b

abbrev pub is_set : ℕ → Bool
is_set n = not (eqb n 0)

-- ---- levels and clocks

abbrev pub reading_of : Level → Reading
reading_of Unheard = record { heard = 0; decibels = of_bits binary32 0 }
reading_of (Decibels x) = record { heard = 1; decibels = x }

abbrev pub level_of : Reading → Level
level_of x = cond (eqb x.heard 0) Unheard (Decibels x.decibels)

abbrev pub time_of : Option Float → Time
time_of None = record { known = 0; seconds = of_bits binary64 0 }
time_of (Some t) = record { known = 1; seconds = t }

abbrev pub clock_of : Time → Option Float
clock_of t = cond (eqb t.known 0) None (Some t.seconds)

-- ---- the turn: 0 idle, 1 sending, any other waits for a reply

abbrev pub no_reply : Reply
no_reply = record { slot = 0; relayfor = 0; tries = 0; turnbursts = 0 }

abbrev pub await_made : ℕ → Reply → Option Float → Await
await_made turn r d =
    record { turn = turn; slot = r.slot; relayfor = r.relayfor; tries = r.tries; turnbursts = r.turnbursts; deadline = time_of d }

abbrev pub await_by : Turn → Option Float → Await
await_by Idle d = await_made 0 no_reply d
await_by Sending d = await_made 1 no_reply d
await_by (Waiting r) d = await_made 2 r d

abbrev pub await_of : Wait → Await
await_of w = await_by w.turn w.deadline

abbrev pub reply_of : Await → Reply
reply_of w = record { slot = w.slot; relayfor = w.relayfor; tries = w.tries; turnbursts = w.turnbursts }

abbrev pub turn_of : Await → Turn
turn_of w = cond (eqb w.turn 0) Idle (cond (eqb w.turn 1) Sending (Waiting (reply_of w)))

abbrev pub wait_of : Await → Wait
wait_of w = record { turn = turn_of w; deadline = clock_of w.deadline }

-- ---- the other parts, field by field

abbrev pub setup_of : Settings → Setup
setup_of g =
    record { turnaround = g.turnaround; maxburst = g.maxburst; replyslack = g.replyslack; detect = g.detect; beaconevery = g.beaconevery; quickbeacon = g.quickbeacon; idleroundgap = g.idleroundgap; durations = g.durations; thresholds = g.thresholds; margin = g.margin; relaysnr = g.relaysnr; misslimit = g.misslimit; beaconlevel = g.beaconlevel; windowslots = g.windowslots; call = g.call; name = g.name; prime = flag_of g.prime; lead = g.lead; latency = g.latency; rooms = g.rooms; payloads = g.payloads }

abbrev pub settings_of : Setup → Settings
settings_of g =
    record { turnaround = g.turnaround; maxburst = g.maxburst; replyslack = g.replyslack; detect = g.detect; beaconevery = g.beaconevery; quickbeacon = g.quickbeacon; idleroundgap = g.idleroundgap; durations = g.durations; thresholds = g.thresholds; margin = g.margin; relaysnr = g.relaysnr; misslimit = g.misslimit; beaconlevel = g.beaconlevel; windowslots = g.windowslots; call = g.call; name = g.name; prime = is_set g.prime; lead = g.lead; latency = g.latency; rooms = g.rooms; payloads = g.payloads }

abbrev pub course_of : Round → Course
course_of r =
    record { list = r.list; toack = r.toack; treenews = r.treenews; windowend = r.windowend; nextbeacon = r.nextbeacon; nextround = r.nextround; txat = r.txat; number = r.number; rxsent = r.rxsent; closeleft = r.closeleft; closed = flag_of r.closed; traffic = flag_of r.traffic; rxdirty = flag_of r.rxdirty; activity = flag_of r.activity }

abbrev pub round_of : Course → Round
round_of r =
    record { list = r.list; toack = r.toack; treenews = r.treenews; windowend = r.windowend; nextbeacon = r.nextbeacon; nextround = r.nextround; txat = r.txat; number = r.number; rxsent = r.rxsent; closeleft = r.closeleft; closed = is_set r.closed; traffic = is_set r.traffic; rxdirty = is_set r.rxdirty; activity = is_set r.activity }

abbrev pub boat_of : Member → Boat
boat_of m =
    record { call = m.call; via = m.via; hascaps = flag_of m.hascaps; caps = m.caps; hasversion = flag_of m.hasversion; version = m.version; burst = m.burst; toldbits = m.toldbits; markbits = m.markbits; missed = m.missed; toldnext = m.toldnext; marknext = m.marknext; bytesin = m.bytesin; snrup = reading_of m.snrup; snrdown = reading_of m.snrdown; direct = reading_of m.direct; lastheard = time_of m.lastheard; up = m.up; tried = m.tried }

abbrev pub member_of : Boat → Member
member_of m =
    record { call = m.call; via = m.via; hascaps = is_set m.hascaps; caps = m.caps; hasversion = is_set m.hasversion; version = m.version; burst = m.burst; toldbits = m.toldbits; markbits = m.markbits; missed = m.missed; toldnext = m.toldnext; marknext = m.marknext; bytesin = m.bytesin; snrup = level_of m.snrup; snrdown = level_of m.snrdown; direct = level_of m.direct; lastheard = clock_of m.lastheard; up = m.up; tried = m.tried }

abbrev pub line_of : Queue → Line
line_of q =
    record { posted = q.posted; kept = q.kept; reported = q.reported; round = q.round; sent = flag_of q.sent }

abbrev pub queue_of : Line → Queue
queue_of q =
    record { posted = q.posted; kept = q.kept; reported = q.reported; round = q.round; sent = is_set q.sent }

-- ---- the station

unfoldable pub block_of : Station → Block
block_of s =
    record { settings = setup_of s.settings; wait = await_of s.wait; round = course_of s.round; totals = s.totals; used = s.used; busy = s.busy; landed = s.landed; count = s.count; members = map boat_of s.members; recent = s.recent; queues = map line_of s.queues; hears = s.hears; owners = s.owners; cells = s.cells }

unfoldable pub station_of : Block → Station
station_of s =
    record { settings = settings_of s.settings; wait = wait_of s.wait; round = round_of s.round; totals = s.totals; used = s.used; busy = s.busy; landed = s.landed; count = s.count; members = map member_of s.members; recent = s.recent; queues = map queue_of s.queues; hears = s.hears; owners = s.owners; cells = s.cells }

-- Reading back what was written is the identity: for every station, with no premise.
abbrev pub Faithful : Type 0
Faithful = (s : Station) → station_of (block_of s) ≡ s
