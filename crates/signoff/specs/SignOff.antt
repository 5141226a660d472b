-- Request U3 of document 02: a boat signs off. In order: its record, the boats that go on without it, cells, `hears` rows, waiting lists, its turn; the whole.
-- Nothing is written: 'Signing off writes no event'. The checks 8 and 21 are the entry point's (`crates/station/specs/SignOff.antt`).
use Rattle.std.specs.Prelude.{ℕ, ◌+◌, ◌*◌, ◌/◌, Bool, cond, ◌&&◌, List, eqb, get_or, set}
use Rattle.bits.specs.Loop.{fold}
use Rattle.bits.specs.Mask.{has_bit, without_bit}
use Rattle.level.specs.declared.Level.TheVariants.{Unheard}
use Rattle.level.specs.Consts.{zero_time}
use Rattle.stream.specs.Table.{Table, freed_table}
use Rattle.recent.specs.declared.Recent.{Recent}
use Rattle.recent.specs.Readings.{empty}
use Rattle.queue.specs.Queues.{empty_queue}
use Rattle.roster.specs.declared.Member.{Member}
use Rattle.roster.specs.Members.{new_member, with_links, with_via, with_missed, with_mark}
use Rattle.net.specs.declared.Station.{Station}
use Rattle.net.specs.declared.Round.{Round}
use Rattle.net.specs.declared.Reply.{Reply}
use Rattle.net.specs.declared.Turn.{Turn}
use Rattle.net.specs.declared.Turn.TheVariants.{Idle, Sending, Waiting}
use Rattle.net.specs.declared.Wait.{Wait}
use Rattle.net.specs.State.{with_wait, with_round, with_used, with_hears, with_table, table_of, with_list, with_toack, with_treenews, with_recent, recent_at, emptied, with_queues}
use Rattle.net.specs.Net.{blank_call, idle_wait, wait_of}
use Rattle.bursts.specs.Rows.{member_in}
use Rattle.bursts.specs.Reroute.{with_member_in}

-- ---- 'frees the slot': its place is as at a start, and it is no silent boat any more

abbrev pub vacant : Member
vacant = new_member blank_call 63 zero_time

-- its readings go with it (U13), and its barred numbers (U4), which are in the record; 'its directed queue': nothing is posted to the slot's next holder (U1)
abbrev pub leave : ℕ → Station → Station
leave slot s = with_queues (with_used (emptied (with_member_in s slot vacant) slot) (without_bit s.used slot)) (set s.queues slot empty_queue)

-- ---- the other boats

-- 'strikes it from .. tried lists'
abbrev pub untried : ℕ → Member → Member
untried slot m = with_mark m m.marknext m.markbits (without_bit m.tried slot)

-- 'Boats relayed by it lose the relay, their up level becomes unheard and their missed count becomes the miss limit.'
abbrev pub cut_off : ℕ → Member → Member
cut_off limit m = with_missed (with_via (with_links m Unheard m.snrdown m.direct m.lastheard) 63) limit

abbrev pub bereft : ℕ → ℕ → Member → Member
bereft slot limit m = cond (eqb m.via slot) (cut_off limit (untried slot m)) (untried slot m)

-- 'anything that makes the up level unheard' makes its readings none (U13)
abbrev pub bereft_of : ℕ → Member → Recent → Recent
bereft_of slot m r = cond (eqb m.via slot) empty r

-- each boat by slot; the total of silent boats goes with it
unfoldable pub bereave_at : ℕ → ℕ → Station → Station
bereave_at slot i s =
    cond (has_bit s.used i)
    (with_recent (with_member_in s i (bereft slot s.settings.misslimit (member_in s i))) (set s.recent i (bereft_of slot (member_in s i) (recent_at s i)))) s

unfoldable pub bereave_all : ℕ → Station → Station
bereave_all slot s = fold (bereave_at slot) 62 0 s

-- ---- 'its cells', those filling and those landed

abbrev pub is_cell_of : Table → ℕ → ℕ → Bool
is_cell_of t slot c = has_bit t.busy c && eqb (get_or t.owners c 0 / 4294967296) slot

unfoldable pub clear_at : ℕ → ℕ → Table → Table
clear_at slot c t = cond (is_cell_of t slot c) (freed_table t c) t

unfoldable pub clear_all : ℕ → Table → Table
clear_all slot t = fold (clear_at slot) 64 0 t

-- ---- 'every `hears` row': what it heard, and where it was heard

unfoldable pub unhear_at : ℕ → ℕ → List ℕ → List ℕ
unhear_at slot i h = set (set h (slot * 62 + i) 63) (i * 62 + slot) 63

unfoldable pub unhear_all : ℕ → List ℕ → List ℕ
unhear_all slot h = fold (unhear_at slot) 62 0 h

-- ---- 'strikes it from waiting lists, .. the round'

abbrev pub strike_round : ℕ → Round → Round
strike_round slot r =
    with_list (with_treenews (with_toack r (without_bit r.toack slot)) (without_bit r.treenews slot)) (without_bit r.list slot)

-- ---- 'ends its turn if one runs, with no deadline left and without `turn_over`. A running turn that relays for it goes on with no source.'

abbrev pub no_source : Reply → Reply
no_source r = record { slot = r.slot; relayfor = 63; tries = r.tries; turnbursts = r.turnbursts }

abbrev pub strike_by : Turn → ℕ → Wait → Wait
strike_by Idle slot w = w
strike_by Sending slot w = w
strike_by (Waiting r) slot w =
    cond (eqb r.slot slot) idle_wait (cond (eqb r.relayfor slot) (wait_of (Waiting (no_source r)) w.deadline) w)

abbrev pub strike_wait : ℕ → Wait → Wait
strike_wait slot w = strike_by w.turn slot w

-- ---- the whole

-- what stands beside the roster
abbrev pub struck_off : ℕ → Station → Station
struck_off slot s =
    with_hears (with_table (with_round (with_wait s (strike_wait slot s.wait)) (strike_round slot s.round)) (clear_all slot (table_of s))) (unhear_all slot s.hears)

unfoldable pub sign_off : Station → ℕ → Station
sign_off s slot = bereave_all slot (leave slot (struck_off slot s))
