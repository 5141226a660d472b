-- The station's parts written one at a time: what the stages of ncs.rs and net.rs change.
use Rattle.std.specs.Prelude.{ℕ, ◌+◌, Bool, cond, List, set, get_or, ltb, Float}
use Rattle.bits.specs.Stop.{stop}
use Rattle.bits.specs.Mask.{with_bit}
use Rattle.recent.specs.declared.Recent.{Recent}
use Rattle.recent.specs.Readings.{no_recent, empty, noted}
use Rattle.roster.specs.declared.Member.{Member}
use Rattle.roster.specs.Members.{no_member, silent_at, tally}
use Rattle.stream.specs.Table.{Table}
use Rattle.queue.specs.declared.Queue.{Queue}
use Rattle.queue.specs.Queues.{empty_queue}
use Rattle.net.specs.declared.Station.{Station}
use Rattle.net.specs.declared.Round.{Round}
use Rattle.net.specs.declared.Totals.{Totals}
use Rattle.net.specs.declared.Wait.{Wait}

-- ---- Station

abbrev pub with_wait : Station → Wait → Station
with_wait s w =
    record { settings = s.settings; wait = w; round = s.round; totals = s.totals; used = s.used; busy = s.busy; landed = s.landed; count = s.count; members = s.members; recent = s.recent; queues = s.queues; hears = s.hears; owners = s.owners; cells = s.cells }

abbrev pub with_round : Station → Round → Station
with_round s r =
    record { settings = s.settings; wait = s.wait; round = r; totals = s.totals; used = s.used; busy = s.busy; landed = s.landed; count = s.count; members = s.members; recent = s.recent; queues = s.queues; hears = s.hears; owners = s.owners; cells = s.cells }

abbrev pub with_totals : Station → Totals → Station
with_totals s t =
    record { settings = s.settings; wait = s.wait; round = s.round; totals = t; used = s.used; busy = s.busy; landed = s.landed; count = s.count; members = s.members; recent = s.recent; queues = s.queues; hears = s.hears; owners = s.owners; cells = s.cells }

abbrev pub with_used : Station → ℕ → Station
with_used s m =
    record { settings = s.settings; wait = s.wait; round = s.round; totals = s.totals; used = m; busy = s.busy; landed = s.landed; count = s.count; members = s.members; recent = s.recent; queues = s.queues; hears = s.hears; owners = s.owners; cells = s.cells }

abbrev pub with_members : Station → List Member → Station
with_members s ms =
    record { settings = s.settings; wait = s.wait; round = s.round; totals = s.totals; used = s.used; busy = s.busy; landed = s.landed; count = s.count; members = ms; recent = s.recent; queues = s.queues; hears = s.hears; owners = s.owners; cells = s.cells }

abbrev pub with_hears : Station → List ℕ → Station
with_hears s h =
    record { settings = s.settings; wait = s.wait; round = s.round; totals = s.totals; used = s.used; busy = s.busy; landed = s.landed; count = s.count; members = s.members; recent = s.recent; queues = s.queues; hears = h; owners = s.owners; cells = s.cells }

abbrev pub with_recent : Station → List Recent → Station
with_recent s rs =
    record { settings = s.settings; wait = s.wait; round = s.round; totals = s.totals; used = s.used; busy = s.busy; landed = s.landed; count = s.count; members = s.members; recent = rs; queues = s.queues; hears = s.hears; owners = s.owners; cells = s.cells }

abbrev pub with_queues : Station → List Queue → Station
with_queues s qs =
    record { settings = s.settings; wait = s.wait; round = s.round; totals = s.totals; used = s.used; busy = s.busy; landed = s.landed; count = s.count; members = s.members; recent = s.recent; queues = qs; hears = s.hears; owners = s.owners; cells = s.cells }

-- a number that is no slot reads slot 0; whoever asks has tested it (`is_member`)
abbrev pub index_of : ℕ → ℕ
index_of slot = cond (ltb slot 62) slot 0

abbrev pub member_at : Station → ℕ → Member
member_at s slot = get_or s.members (index_of slot) no_member

abbrev pub with_member : Station → ℕ → Member → Station
with_member s slot m = with_members s (set s.members (index_of slot) m)

-- ---- the last reception levels of the boat in slot i (U13)

abbrev pub recent_at : Station → ℕ → Recent
recent_at s i = get_or s.recent i no_recent

-- a reception level updated its up level
abbrev pub also_noted : Station → ℕ → Float → Station
also_noted s i x = with_recent s (set s.recent i (noted (recent_at s i) x))

-- its up level is not one that the levels so far made
abbrev pub emptied : Station → ℕ → Station
emptied s i = with_recent s (set s.recent i empty)

-- the numbers of a slot's directed queue
abbrev pub queue_at : Station → ℕ → Queue
queue_at s slot = get_or s.queues (index_of slot) empty_queue

abbrev pub with_queue : Station → ℕ → Queue → Station
with_queue s slot q = with_queues s (set s.queues (index_of slot) q)

-- the station's cells, as stream's table
abbrev pub table_of : Station → Table
table_of s = record { count = s.count; busy = s.busy; landed = s.landed; owners = s.owners; cells = s.cells }

abbrev pub with_table : Station → Table → Station
with_table s t =
    record { settings = s.settings; wait = s.wait; round = s.round; totals = s.totals; used = s.used; busy = t.busy; landed = t.landed; count = t.count; members = s.members; recent = s.recent; queues = s.queues; hears = s.hears; owners = t.owners; cells = t.cells }

-- ---- Round

abbrev pub with_list : Round → ℕ → Round
with_list r m =
    record { list = m; toack = r.toack; treenews = r.treenews; windowend = r.windowend; nextbeacon = r.nextbeacon; nextround = r.nextround; txat = r.txat; number = r.number; rxsent = r.rxsent; closeleft = r.closeleft; closed = r.closed; traffic = r.traffic; rxdirty = r.rxdirty; activity = r.activity }

abbrev pub with_toack : Round → ℕ → Round
with_toack r m =
    record { list = r.list; toack = m; treenews = r.treenews; windowend = r.windowend; nextbeacon = r.nextbeacon; nextround = r.nextround; txat = r.txat; number = r.number; rxsent = r.rxsent; closeleft = r.closeleft; closed = r.closed; traffic = r.traffic; rxdirty = r.rxdirty; activity = r.activity }

abbrev pub with_treenews : Round → ℕ → Round
with_treenews r m =
    record { list = r.list; toack = r.toack; treenews = m; windowend = r.windowend; nextbeacon = r.nextbeacon; nextround = r.nextround; txat = r.txat; number = r.number; rxsent = r.rxsent; closeleft = r.closeleft; closed = r.closed; traffic = r.traffic; rxdirty = r.rxdirty; activity = r.activity }

abbrev pub with_nextbeacon : Round → Float → Round
with_nextbeacon r t =
    record { list = r.list; toack = r.toack; treenews = r.treenews; windowend = r.windowend; nextbeacon = t; nextround = r.nextround; txat = r.txat; number = r.number; rxsent = r.rxsent; closeleft = r.closeleft; closed = r.closed; traffic = r.traffic; rxdirty = r.rxdirty; activity = r.activity }

abbrev pub with_txat : Round → Float → Round
with_txat r t =
    record { list = r.list; toack = r.toack; treenews = r.treenews; windowend = r.windowend; nextbeacon = r.nextbeacon; nextround = r.nextround; txat = t; number = r.number; rxsent = r.rxsent; closeleft = r.closeleft; closed = r.closed; traffic = r.traffic; rxdirty = r.rxdirty; activity = r.activity }

abbrev pub with_rxsent : Round → ℕ → Round
with_rxsent r n =
    record { list = r.list; toack = r.toack; treenews = r.treenews; windowend = r.windowend; nextbeacon = r.nextbeacon; nextround = r.nextround; txat = r.txat; number = r.number; rxsent = n; closeleft = r.closeleft; closed = r.closed; traffic = r.traffic; rxdirty = r.rxdirty; activity = r.activity }

abbrev pub with_traffic : Round → Bool → Round
with_traffic r b =
    record { list = r.list; toack = r.toack; treenews = r.treenews; windowend = r.windowend; nextbeacon = r.nextbeacon; nextround = r.nextround; txat = r.txat; number = r.number; rxsent = r.rxsent; closeleft = r.closeleft; closed = r.closed; traffic = b; rxdirty = r.rxdirty; activity = r.activity }

abbrev pub with_rxdirty : Round → Bool → Round
with_rxdirty r b =
    record { list = r.list; toack = r.toack; treenews = r.treenews; windowend = r.windowend; nextbeacon = r.nextbeacon; nextround = r.nextround; txat = r.txat; number = r.number; rxsent = r.rxsent; closeleft = r.closeleft; closed = r.closed; traffic = r.traffic; rxdirty = b; activity = r.activity }

abbrev pub with_activity : Round → Bool → Round
with_activity r b =
    record { list = r.list; toack = r.toack; treenews = r.treenews; windowend = r.windowend; nextbeacon = r.nextbeacon; nextround = r.nextround; txat = r.txat; number = r.number; rxsent = r.rxsent; closeleft = r.closeleft; closed = r.closed; traffic = r.traffic; rxdirty = r.rxdirty; activity = b }

-- closing, and the closing bursts left
abbrev pub with_closing : Round → Bool → ℕ → Round
with_closing r c n =
    record { list = r.list; toack = r.toack; treenews = r.treenews; windowend = r.windowend; nextbeacon = r.nextbeacon; nextround = r.nextround; txat = r.txat; number = r.number; rxsent = r.rxsent; closeleft = n; closed = c; traffic = r.traffic; rxdirty = r.rxdirty; activity = r.activity }

-- what a beacon leaves: its check-in window, the next one, and those who go on waiting for acknowledgement
abbrev pub with_beacon : Round → ℕ → Float → Float → Round
with_beacon r m e t =
    record { list = r.list; toack = m; treenews = r.treenews; windowend = e; nextbeacon = t; nextround = r.nextround; txat = r.txat; number = r.number; rxsent = r.rxsent; closeleft = r.closeleft; closed = r.closed; traffic = r.traffic; rxdirty = r.rxdirty; activity = r.activity }

-- a new round
abbrev pub with_number : Round → ℕ → Float → Bool → Round
with_number r n t b =
    record { list = r.list; toack = r.toack; treenews = r.treenews; windowend = r.windowend; nextbeacon = r.nextbeacon; nextround = t; txat = r.txat; number = n; rxsent = r.rxsent; closeleft = r.closeleft; closed = r.closed; traffic = b; rxdirty = r.rxdirty; activity = r.activity }

-- slot i is to be acknowledged; its place in the relay tree is news
abbrev pub also_ack : Station → ℕ → Station
also_ack s i = with_round s (with_toack s.round (with_bit s.round.toack i))

abbrev pub also_news : Station → ℕ → Station
also_news s i = with_round s (with_treenews s.round (with_bit s.round.treenews i))

-- ---- Totals, counters that stop

abbrev pub with_polls : Totals → ℕ → Totals
with_polls t n =
    record { polls = n; relays = t.relays; rxlists = t.rxlists; rounds = t.rounds; replies = t.replies; silent = t.silent }

abbrev pub with_relays : Totals → ℕ → Totals
with_relays t n =
    record { polls = t.polls; relays = n; rxlists = t.rxlists; rounds = t.rounds; replies = t.replies; silent = t.silent }

abbrev pub with_rxlists : Totals → ℕ → Totals
with_rxlists t n =
    record { polls = t.polls; relays = t.relays; rxlists = n; rounds = t.rounds; replies = t.replies; silent = t.silent }

abbrev pub with_rounds : Totals → ℕ → Totals
with_rounds t n =
    record { polls = t.polls; relays = t.relays; rxlists = t.rxlists; rounds = n; replies = t.replies; silent = t.silent }

abbrev pub with_replies : Totals → ℕ → Totals
with_replies t n =
    record { polls = t.polls; relays = t.relays; rxlists = t.rxlists; rounds = t.rounds; replies = n; silent = t.silent }

abbrev pub with_silent : Totals → ℕ → Totals
with_silent t n =
    record { polls = t.polls; relays = t.relays; rxlists = t.rxlists; rounds = t.rounds; replies = t.replies; silent = n }

abbrev pub one_poll : Station → Station
one_poll s = with_totals s (with_polls s.totals (stop (s.totals.polls + 1)))

abbrev pub one_relay : Station → Station
one_relay s = with_totals s (with_relays s.totals (stop (s.totals.relays + 1)))

abbrev pub one_list : Station → Station
one_list s = with_totals s (with_rxlists s.totals (stop (s.totals.rxlists + 1)))

abbrev pub one_round : Station → Station
one_round s = with_totals s (with_rounds s.totals (stop (s.totals.rounds + 1)))

abbrev pub one_reply : Station → Station
one_reply s = with_totals s (with_replies s.totals (stop (s.totals.replies + 1)))

-- ---- silent boats: the total goes with a member whose missed count changes

abbrev pub tallied : Station → Member → Member → Totals
tallied s m k =
    with_silent s.totals (tally s.totals.silent (silent_at s.settings.misslimit m) (silent_at s.settings.misslimit k))

-- the member in the slot becomes k
abbrev pub with_counted : Station → ℕ → Member → Station
with_counted s slot k = with_totals (with_member s slot k) (tallied s (member_at s slot) k)
