-- ncs_next of ncs.rs as the code goes: one line through the station. The proof shows that it comes to the stages of `Next`.
use Rattle.std.specs.Prelude.{◌≡◌, ℕ, ◌+◌, ◌-◌, ◌%◌, ◌<◌, ◌≤◌, Bool, true, false, cond, not, ◌&&◌, ◌||◌, List, [], ◌∷◌, ◌++◌, get_or, ◌==◌, nat_lt, slice_index_or, slice_set, Float, Option, Some, None}
use Rattle.std.specs.Float.{nan, binary32}
use Rattle.std.specs.Float.Ieee.{add, lt}
use Rattle.bits.specs.Loop.{fold}
use Rattle.bits.specs.Mask.{has_bit, with_bit, without_bit, lowest_bit}
use Rattle.bits.specs.Stop.{stop}
use Rattle.level.specs.Levels.{is_heard}
use Rattle.level.specs.Order.{least}
use Rattle.wire.specs.Kinds.{k_close}
use Rattle.out.specs.Encode.{missed_word}
use Rattle.roster.specs.declared.Member.{Member}
use Rattle.stream.specs.Window.{holes_of}
use Rattle.roster.specs.Members.{no_member, missed_one, silent_at, tally}
use Rattle.roster.specs.Relays.{needs_relay, turn_over, promotable_at, is_leaf}
use Rattle.queue.specs.declared.Queue.{Queue}
use Rattle.queue.specs.Queues.{empty_queue, is_due}
use Rattle.net.specs.declared.Station.{Station}
use Rattle.net.specs.declared.Settings.{Settings}
use Rattle.net.specs.declared.Round.{Round}
use Rattle.net.specs.declared.Totals.{Totals}
use Rattle.net.specs.declared.Turn.TheVariants.{Waiting}
use Rattle.net.specs.declared.Wait.{Wait}
use Rattle.net.specs.State.{index_of, member_at, with_member, with_wait, with_round, with_totals, with_txat, with_closing, with_activity, with_nextbeacon, with_rxsent, with_rxdirty, with_polls, with_silent}
use Rattle.net.specs.Net.{plus, is_member, wait_of, idle_wait, is_idle, Said, said}
use Rattle.bursts.specs.Rows.{member_in, mask_where}
use Rattle.bursts.specs.Bursts.{tiny_words, poll_burst, acks_burst, beacon_of, rx_list_burst, tell_of}
use Rattle.bursts.specs.Direct.{directed_to, direct_burst}
use Rattle.bursts.specs.Reroute.{source_for, is_down, reroute_of}
use Rattle.next.specs.declared.Due.{Due}
use Rattle.next.specs.declared.Due.TheVariants.{Free, Quiet, Close, Again, Missed}
use Rattle.next.specs.declared.Act.{Act}
use Rattle.next.specs.declared.Act.TheVariants as act
use Rattle.next.specs.declared.Seen.{Seen}
use Rattle.next.specs.Next.{Decision, due_of, act_of, poll_of, drawn}

-- the station and the words of a decision
abbrev pub said_of : Decision → Said
said_of d = said d.station d.words

-- words before those of a burst
abbrev pub said_after : List ℕ → Said → Said
said_after ws x = said x.station (ws ++ x.words)

-- ---- what is due

abbrev pub late_of : Due → Bool → Due
late_of d ok = cond ok d Quiet

-- the slot of the reply that did not come; 63, which is no slot, for none
abbrev pub slot_of : Due → ℕ
slot_of Free = 63
slot_of Quiet = 63
slot_of Close = 63
slot_of (Again r) = r.slot
slot_of (Missed r) = r.slot

-- whose traffic it was to forward; 63 for none
abbrev pub relay_of : Due → ℕ
relay_of Free = 63
relay_of Quiet = 63
relay_of Close = 63
relay_of (Again r) = r.relayfor
relay_of (Missed r) = r.relayfor

-- the decision ends here
abbrev pub is_quiet : Due → Bool
is_quiet Free = false
is_quiet Quiet = true
is_quiet Close = true
is_quiet (Again r) = true
is_quiet (Missed r) = false

-- ---- close and timeout

abbrev pub late_words : Due → ℕ → Settings → Member → Bool → List ℕ
late_words Free left g m here = []
late_words Quiet left g m here = []
late_words Close left g m here = cond (left == 0) [] (tiny_words k_close 0 g.beaconlevel)
late_words (Again r) left g m here = poll_burst g here m r.slot r.relayfor true
late_words (Missed r) left g m here = cond here (missed_word r.slot ∷ []) []

abbrev pub late_member : Member → Due → Bool → Member
late_member m Free here = m
late_member m Quiet here = m
late_member m Close here = m
late_member m (Again r) here = m
late_member m (Missed r) here = cond here (missed_one m) m

abbrev pub late_source : List ℕ → ℕ → Member → Due → Member
late_source hears used m Free = m
late_source hears used m Quiet = m
late_source hears used m Close = m
late_source hears used m (Again r) = m
late_source hears used m (Missed r) = cond (is_member used r.relayfor) (turn_over hears used m r.relayfor r.slot) m

abbrev pub late_wait : Wait → Due → Wait
late_wait w Free = w
late_wait w Quiet = w
late_wait w Close = w
late_wait w (Again r) =
    wait_of (Waiting (record { slot = r.slot; relayfor = r.relayfor; tries = 1; turnbursts = r.turnbursts })) None
late_wait w (Missed r) = idle_wait

-- the polls sent, with the one once more
abbrev pub late_polls : ℕ → Due → ℕ
late_polls polls Free = polls
late_polls polls Quiet = polls
late_polls polls Close = polls
late_polls polls (Again r) = stop (polls + 1)
late_polls polls (Missed r) = polls

-- the member that was polled was silent before, and is after
abbrev pub late_totals : Totals → Due → Bool → Bool → Totals
late_totals t d before after = with_silent (with_polls t (late_polls t.polls d)) (tally t.silent before after)

abbrev pub close_round : Round → Float → Round
close_round r at = cond (nat_lt 0 r.closeleft) (with_txat (with_closing r r.closed (r.closeleft - 1)) at) r

abbrev pub forward_to : Round → Float → Round
forward_to r soon = cond r.activity (with_nextbeacon (with_activity r false) (least r.nextbeacon soon)) r

-- past the window the next beacon may come forward
abbrev pub window_round : Round → Settings → Float → Round
window_round r g now = cond (lt now r.windowend) r (forward_to r (plus now g.quickbeacon))

abbrev pub late_round : Round → Due → Settings → Float → Round
late_round r Free g now = window_round r g now
late_round r Quiet g now = r
late_round r Close g now = close_round r (plus now g.maxburst)
late_round r (Again x) g now = r
late_round r (Missed x) g now = window_round r g now

-- the member that was polled
abbrev pub late_first : Station → Due → Station
late_first s d =
    with_member s (slot_of d) (late_member (member_at s (slot_of d)) d (is_member s.used (slot_of d)))

-- then the one whose traffic it was to forward
abbrev pub late_members : Station → Due → Station
late_members s d =
    with_member (late_first s d) (relay_of d) (late_source s.hears s.used (member_at (late_first s d) (relay_of d)) d)

abbrev pub late_station : Station → Due → Float → Station
late_station s d now =
    let m = member_at s (slot_of d) in
    let k = late_member m d (is_member s.used (slot_of d)) in
    let totals = late_totals s.totals d (silent_at s.settings.misslimit m) (silent_at s.settings.misslimit k) in
    with_round (with_totals (with_wait (late_members s d) (late_wait s.wait d)) totals) (late_round s.round d s.settings now)

-- K_CLOSE, the poll once more, or event 3
abbrev pub late_says : Station → Due → List ℕ
late_says s d =
    late_words d s.round.closeleft s.settings (member_at s (slot_of d)) (is_member s.used (slot_of d))

-- ---- what is to be done

abbrev pub act_in : Bool → Round → ℕ → Float → Act
act_in quiet r used now = cond (quiet || lt now r.windowend) act.Wait (act_of r used now)

-- a burst to all goes out: the beacon or the acknowledgements
abbrev pub is_said : Act → Bool
is_said act.Wait = false
is_said act.Beacon = true
is_said act.Acks = true
is_said act.Draw = false
is_said act.Poll = false

abbrev pub is_draw : Act → Bool
is_draw act.Wait = false
is_draw act.Beacon = false
is_draw act.Acks = false
is_draw act.Draw = true
is_draw act.Poll = false

abbrev pub spoken_of : Act → Station → Float → Said
spoken_of act.Wait s now = said s []
spoken_of act.Beacon s now = beacon_of s now
spoken_of act.Acks s now = acks_burst s
spoken_of act.Draw s now = said s []
spoken_of act.Poll s now = said s []

-- ---- the end of a round, before its poll

abbrev pub rerouted_then : Said → Float → Said
rerouted_then x now =
    said_after x.words (cond (x.station.round.treenews == 0) (said (drawn x.station now) []) (acks_burst x.station))

unfoldable pub rerouting_of : Station → Float → Said
rerouting_of s now =
    cond (not s.round.traffic && nat_lt 0 s.round.number && lt now s.round.nextround) (said s []) (rerouted_then (reroute_of s) now)

abbrev pub list_then : Said → Float → Said
list_then x now = cond (is_idle x.station.wait.turn) (said_after x.words (rerouting_of x.station now)) x

unfoldable pub round_then : Station → Float → Said
round_then s now =
    cond (s.round.number == 0 || s.round.rxsent == s.round.number) (rerouting_of s now)
    (list_then (rx_list_burst (with_round s (with_rxsent s.round s.round.number))) now)

-- the slots that a round polls, from the members
abbrev pub list_in : List Member → ℕ → ℕ → ℕ → ℕ
list_in ms used limit number =
    mask_where (λ i. has_bit used i && (get_or ms i no_member).via == 63 && (number % 4 == 0 || nat_lt (get_or ms i no_member).missed limit))

-- ---- an end at which nothing is said and nobody is moved

-- a received list is due
abbrev pub list_due : Round → Bool
list_due r = not (r.number == 0) && not (r.rxsent == r.number)

-- what it would tell is noted
abbrev pub tell_in : Bool → ℕ → ℕ → List Member → List Member
tell_in due used i ms = slice_set ms i (tell_of (due && has_bit used i) (slice_index_or ms i no_member))

unfoldable pub told_in : Bool → ℕ → List Member → List Member
told_in due used ms = fold (tell_in due used) 62 0 ms

abbrev pub list_round : Round → Round
list_round r = cond (list_due r) (with_rxdirty (with_rxsent r r.number) false) r

-- a boat is to be promoted, has a hole in its messages, or is a leaf to be moved
abbrev pub eventful_at : ℕ → Bool → Member → Member → Float → ℕ → Bool
eventful_at used here m p floor limit =
    is_heard (promotable_at here m floor) || (here && (holes_of m.up || (is_leaf m limit && is_down used m p limit)))

abbrev pub eventful_in : List Member → ℕ → Settings → ℕ → Bool
eventful_in ms used g i =
    eventful_at used (has_bit used i) (slice_index_or ms i no_member) (slice_index_or ms (index_of (get_or ms i no_member).via) no_member) (add binary32 (slice_index_or g.thresholds 0 nan) g.margin) g.misslimit

-- no new list yet
abbrev pub no_list_yet : Round → Float → Bool
no_list_yet r now = not r.traffic && nat_lt 0 r.number && lt now r.nextround

abbrev pub ended_of : Act → Station → Float → Said
ended_of act.Wait s now = said s []
ended_of act.Beacon s now = said s []
ended_of act.Acks s now = said s []
ended_of act.Draw s now = round_then s now
ended_of act.Poll s now = said s []

-- both
abbrev pub stage_by : Act → Station → Float → Said
stage_by act.Wait s now = said s []
stage_by act.Beacon s now = beacon_of s now
stage_by act.Acks s now = acks_burst s
stage_by act.Draw s now = round_then s now
stage_by act.Poll s now = said s []

-- ---- poll

abbrev pub may_poll : Act → Bool
may_poll act.Wait = false
may_poll act.Beacon = false
may_poll act.Acks = false
may_poll act.Draw = true
may_poll act.Poll = true

-- the slot to be polled, where nothing is being sent or waited for
abbrev pub front_of : Wait → ℕ → Act → Option ℕ
front_of w list a = cond (not (is_idle w.turn) || not (may_poll a)) None (lowest_bit list)

abbrev pub poll_wait : Wait → ℕ → ℕ → Wait
poll_wait w slot source =
    wait_of (Waiting (record { slot = slot; relayfor = source; tries = 0; turnbursts = 0 })) w.deadline

-- ---- word back before the poll (U1)

-- past the end no slot is in use
pub record Ends (used end : ℕ) : Type 0 where
  pub most : end ≤ 62
  pub past : (j : ℕ) → end ≤ j → j < 62 → has_bit used j ≡ false

-- one look over the slots below it: who needs a relayer, and whom word goes to
abbrev pub none_seen : Seen
none_seen = record { needs = 0; word = 0 }

-- the polled slot itself, or a boat relayed by it
abbrev pub is_for : ℕ → ℕ → ℕ → Bool
is_for slot j via = j == slot || (via == slot && not (slot == 63))

abbrev pub look_at : Seen → ℕ → ℕ → Member → Queue → ℕ → ℕ → Seen
look_at x used j m q number slot =
    record { needs = cond (has_bit used j && needs_relay m) (with_bit x.needs j) x.needs; word = cond (has_bit used j && is_due q number && is_for slot j m.via) (with_bit x.word j) x.word }

abbrev pub word_at : Station → ℕ → ℕ → Bool
word_at s slot j = has_bit s.used j && is_due (slice_index_or s.queues j empty_queue) s.round.number && is_for slot j (member_in s j).via

-- the slot itself before the boats relayed by it
abbrev pub to_of : ℕ → ℕ → Option ℕ
to_of word slot = cond (has_bit word slot) (Some slot) (lowest_bit word)

-- a relayer is looked for: others than the polled slot need one
abbrev pub asks_for : ℕ → ℕ → Bool
asks_for needs slot = not (without_bit needs slot == 0)

-- word goes out before the poll of a slot, and nobody is polled then; or it is polled
abbrev pub word_or : Option ℕ → ℕ → Station → List ℕ → Said
word_or None slot s queue = poll_of slot (source_for s slot) s
word_or (Some to) slot s queue = direct_burst s queue to

abbrev pub word_for : Option ℕ → Station → List ℕ → Said
word_for None s queue = said s []
word_for (Some slot) s queue = word_or (directed_to s slot) slot s queue

abbrev pub word_then : Act → Station → List ℕ → Said
word_then a s queue = word_for (front_of s.wait s.round.list a) s queue

-- ---- the decision

abbrev pub poll_then : Act → Said → List ℕ → Said
poll_then a x queue = said_after x.words (word_then a x.station queue)

-- after the timeout: what is to be done, and then word back or the poll
abbrev pub rest_of : Bool → Station → Float → List ℕ → Said
rest_of quiet s now queue =
    poll_then (act_in quiet s.round s.used now) (stage_by (act_in quiet s.round s.used now) s now) queue

-- by what is due
abbrev pub late_then : Station → Due → Float → List ℕ → Said
late_then s d now queue = said_after (late_says s d) (rest_of (is_quiet d) (late_station s d now) now queue)

-- where not `ok`, nothing is done
unfoldable pub next_straight : Station → Bool → Float → List ℕ → Said
next_straight s ok now queue = late_then s (late_of (due_of s.wait s.round.closed now) ok) now queue
