-- `ncs_next` of ncs.rs, stage by stage in the source's order: close, timeout, window, beacon, acknowledgements, received list, reroute, round, poll.
use Rattle.std.specs.Prelude.{ℕ, ◌+◌, ◌-◌, ◌%◌, ◌^◌, Bool, true, false, cond, not, ◌&&◌, ◌||◌, List, [], ◌∷◌, ◌++◌, ◌==◌, nat_lt, Float, Option, Some, None}
use Rattle.std.specs.Float.Ieee.{lt, le}
use Rattle.bits.specs.Mask.{has_bit, without_bit, lowest_bit}
use Rattle.level.specs.Order.{least}
use Rattle.wire.specs.Kinds.{k_close}
use Rattle.out.specs.Encode.{missed_word}
use Rattle.roster.specs.Members.{missed_one}
use Rattle.roster.specs.Relays.{turn_over}
use Rattle.net.specs.declared.Station.{Station}
use Rattle.net.specs.declared.Round.{Round}
use Rattle.net.specs.declared.Reply.{Reply}
use Rattle.net.specs.declared.Turn.{Turn}
use Rattle.net.specs.declared.Turn.TheVariants.{Idle, Sending, Waiting}
use Rattle.net.specs.declared.Wait.{Wait}
use Rattle.net.specs.State.{member_at, with_member, with_counted, with_wait, with_round, with_list, with_txat, with_closing, with_activity, with_nextbeacon, with_rxsent, with_number, one_poll, one_round}
use Rattle.net.specs.Net.{plus, is_member, members_in, wait_of, idle_wait, Said, said}
use Rattle.bursts.specs.Rows.{member_in, mask_where}
use Rattle.bursts.specs.Bursts.{tiny_words, poll_burst, acks_burst, beacon_of, rx_list_burst, list_sent}
use Rattle.bursts.specs.Direct.{directed_to, direct_burst}
use Rattle.bursts.specs.Reroute.{source_for, reroute_of}
use Rattle.next.specs.declared.Due.{Due}
use Rattle.next.specs.declared.Due.TheVariants.{Free, Quiet, Close, Again, Missed}
use Rattle.next.specs.declared.Act.{Act}
use Rattle.next.specs.declared.Act.TheVariants as act

-- What a decision comes to: the station and the words; the slot the waiting for whose reply ended in it; the list that it drew up, as a mask.
-- Item 3 speaks of the last two, and the stations before and after do not show them: one decision can end a turn, draw up a list and begin the
-- same slot's next turn. They come in this order: the waiting ends, the list is drawn up, the burst is sent.
pub record Decision : Type 0 where
  pub station : Station
  pub words : List ℕ
  pub over : Option ℕ
  pub drew : Option ℕ

-- nothing is sent
abbrev pub silent : Station → Decision
silent s = record { station = s; words = []; over = None; drew = None }

-- a burst and what it leaves
abbrev pub spoke : Said → Decision
spoke x = record { station = x.station; words = x.words; over = None; drew = None }

-- words before a decision's own
abbrev pub after : List ℕ → Decision → Decision
after ws d = record { station = d.station; words = ws ++ d.words; over = d.over; drew = d.drew }

-- ---- poll

-- the front of the list is polled; its poll names the source whose traffic it is best placed to forward
abbrev pub poll_of : ℕ → ℕ → Station → Said
poll_of slot source s =
    said
    (one_poll (with_round (with_wait s (wait_of (Waiting (record { slot = slot; relayfor = source; tries = 0; turnbursts = 0 })) s.wait.deadline)) (with_list s.round (without_bit s.round.list slot))))
    (poll_burst s.settings (is_member s.used slot) (member_at s slot) slot source false)

abbrev pub poll_by : Option ℕ → Station → Decision
poll_by None s = silent s
poll_by (Some slot) s = spoke (poll_of slot (source_for s slot) s)

abbrev pub poll_front : Station → Decision
poll_front s = poll_by (lowest_bit s.round.list) s

-- before it word goes to the front of the list and to the boats relayed by it, a burst in each decision, and the slot stays on the list (U1)
abbrev pub directed_by : Option ℕ → Station → Option ℕ
directed_by None s = None
directed_by (Some slot) s = directed_to s slot

abbrev pub word_by : Option ℕ → Station → List ℕ → Decision
word_by None s queue = poll_front s
word_by (Some slot) s queue = spoke (direct_burst s queue slot)

unfoldable pub poll_stage : Station → List ℕ → Decision
poll_stage s queue = word_by (directed_by (lowest_bit s.round.list) s) s queue

-- ---- round

-- the round number, which wraps
abbrev pub next_number : Station → ℕ
next_number s = (s.round.number + 1) % 2 ^ 32

-- members with no relay that miss few polls; in every fourth round all of them
unfoldable pub list_for : Station → ℕ → ℕ
list_for s number =
    mask_where (λ i. has_bit s.used i && (member_in s i).via == 63 && (number % 4 == 0 || nat_lt (member_in s i).missed s.settings.misslimit))

abbrev pub drawn : Station → Float → Station
drawn s now =
    one_round (with_round s (with_list (with_number s.round (next_number s) (plus now s.settings.idleroundgap) false) (list_for s (next_number s))))

abbrev pub drew_list : ℕ → Decision → Decision
drew_list list d = record { station = d.station; words = d.words; over = d.over; drew = Some list }

unfoldable pub draw_stage : Station → Float → List ℕ → Decision
draw_stage s now queue = drew_list (list_for s (next_number s)) (poll_stage (drawn s now) queue)

-- ---- reroute

-- moved boats are announced first, and no round is drawn up then
abbrev pub rerouted_stage : Said → Float → List ℕ → Decision
rerouted_stage x now queue =
    after x.words (cond (x.station.round.treenews == 0) (draw_stage x.station now queue) (spoke (acks_burst x.station)))

unfoldable pub reroute_stage : Station → Float → List ℕ → Decision
reroute_stage s now queue =
    cond (not s.round.traffic && nat_lt 0 s.round.number && lt now s.round.nextround) (silent s) (rerouted_stage (reroute_of s) now queue)

-- ---- received list

-- the end of a round: what has arrived is said, if that is news
abbrev pub list_stage : Station → Float → List ℕ → Decision
list_stage s now queue = cond (list_sent s) (spoke (rx_list_burst s)) (reroute_stage (rx_list_burst s).station now queue)

unfoldable pub round_end : Station → Float → List ℕ → Decision
round_end s now queue =
    cond (s.round.number == 0 || s.round.rxsent == s.round.number) (reroute_stage s now queue)
    (list_stage (with_round s (with_rxsent s.round s.round.number)) now queue)

-- ---- window, beacon, acknowledgements

-- something happened in the last check-in window: the next beacon comes soon
abbrev pub brought_forward : Station → Float → Station
brought_forward s now =
    cond s.round.activity
    (with_round s (with_nextbeacon (with_activity s.round false) (least s.round.nextbeacon (plus now s.settings.quickbeacon)))) s

-- what is to be done, in the source's order
unfoldable pub act_of : Round → ℕ → Float → Act
act_of r used now =
    cond (le r.nextbeacon now) act.Beacon
    (cond (not (r.toack == 0) || not (r.treenews == 0)) act.Acks
    (cond (not (r.list == 0)) act.Poll (cond (members_in used == 0) act.Wait act.Draw)))

abbrev pub act_by : Act → Station → Float → List ℕ → Decision
act_by act.Wait s now queue = silent s
act_by act.Beacon s now queue = spoke (beacon_of s now)
act_by act.Acks s now queue = spoke (acks_burst s)
act_by act.Draw s now queue = round_end s now queue
act_by act.Poll s now queue = poll_stage s queue

abbrev pub act_stage : Station → Float → List ℕ → Decision
act_stage s now queue = act_by (act_of s.round s.used now) s now queue

unfoldable pub window_stage : Station → Float → List ℕ → Decision
window_stage s now queue = cond (lt now s.round.windowend) (silent s) (act_stage (brought_forward s now) now queue)

-- ---- close and timeout

-- closing bursts are spaced out, so a reply already on its way cannot hide them all
unfoldable pub close_stage : Station → Float → Decision
close_stage s now =
    cond (s.round.closeleft == 0) (silent s)
    (spoke (said
    (with_round s (with_txat (with_closing s.round s.round.closed (s.round.closeleft - 1)) (plus now s.settings.maxburst)))
    (tiny_words k_close 0 s.settings.beaconlevel)))

-- no answer: once more, in the most robust waveform
unfoldable pub again_stage : Reply → Station → Decision
again_stage r s =
    spoke (said
    (one_poll (with_wait s (wait_of (Waiting (record { slot = r.slot; relayfor = r.relayfor; tries = 1; turnbursts = r.turnbursts })) None)))
    (poll_burst s.settings (is_member s.used r.slot) (member_at s r.slot) r.slot r.relayfor true))

-- `turn_over(slot, relay_for)`
abbrev pub turn_over_in : Station → ℕ → ℕ → Station
turn_over_in s slot source =
    cond (is_member s.used source) (with_member s source (turn_over s.hears s.used (member_at s source) source slot)) s

-- the missed poll counts, event 3
abbrev pub missed_in : Station → ℕ → Station
missed_in s slot = cond (is_member s.used slot) (with_counted s slot (missed_one (member_at s slot))) s

abbrev pub missed_event : Station → ℕ → List ℕ
missed_event s slot = cond (is_member s.used slot) (missed_word slot ∷ []) []

-- no answer again: the waiting ends, and the decision goes on
abbrev pub over_by : ℕ → Decision → Decision
over_by slot d = record { station = d.station; words = d.words; over = Some slot; drew = d.drew }

unfoldable pub missed_stage : Reply → Station → Float → List ℕ → Decision
missed_stage r s now queue =
    over_by r.slot (after (missed_event s r.slot)
    (window_stage (turn_over_in (missed_in (with_wait s idle_wait) r.slot) r.slot r.relayfor) now queue))

abbrev pub overdue_of : Reply → Due
overdue_of r = cond (r.tries == 0) (Again r) (Missed r)

-- by the deadline: none, not yet, passed
abbrev pub due_by : Option Float → Reply → Float → Due
due_by None r now = Quiet
due_by (Some end) r now = cond (lt now end) Quiet (overdue_of r)

abbrev pub due_turn : Turn → Option Float → Float → Due
due_turn Idle d now = Free
due_turn Sending d now = Quiet
due_turn (Waiting r) d now = due_by d r now

unfoldable pub due_of : Wait → Bool → Float → Due
due_of w closed now = cond closed Close (due_turn w.turn w.deadline now)

abbrev pub by_due : Due → Station → Float → List ℕ → Decision
by_due Free s now queue = window_stage s now queue
by_due Quiet s now queue = silent s
by_due Close s now queue = close_stage s now
by_due (Again r) s now queue = again_stage r s
by_due (Missed r) s now queue = missed_stage r s now queue

unfoldable pub ncs_next : Station → Float → List ℕ → Decision
ncs_next s now queue = by_due (due_of s.wait s.round.closed now) s now queue
