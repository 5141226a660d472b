-- net.rs: `NetStation::new`, `on_tx_done`, `level_for`, `tiny_wave`, `slot_len`; `cap_for`, `down_level` and `leaf_wait_s` of ncs.rs.
use Rattle.std.specs.Prelude.{ℕ, ◌-◌, ◌^◌, ◌≡◌, Bool, true, false, cond, ◌&&◌, List, replicate, get_or, eqb, ltb, Float, Option, Some, None}
use Rattle.std.specs.Float.{nan, binary64}
use Rattle.std.specs.Float.Ieee.{add, mul}
use Rattle.bits.specs.Mask.{has_bit, both_of}
use Rattle.level.specs.declared.Level.{Level}
use Rattle.level.specs.Levels.{level_for, is_heard}
use Rattle.level.specs.Consts.{zero_time, one, two, three, slot_slack}
use Rattle.inbox.specs.Messages.{empty_cell}
use Rattle.recent.specs.Readings.{empty}
use Rattle.queue.specs.Queues.{empty_queue}
use Rattle.out.specs.declared.Output.{Output}
use Rattle.out.specs.Encode.{Wrote}
use Rattle.out.specs.Outputs.{Writes}
use Rattle.roster.specs.declared.Member.{Member}
use Rattle.roster.specs.Members.{new_member, down_or_up}
use Rattle.net.specs.declared.Station.{Station}
use Rattle.net.specs.declared.Settings.{Settings}
use Rattle.net.specs.declared.Round.{Round}
use Rattle.net.specs.declared.Totals.{Totals}
use Rattle.net.specs.declared.Turn.{Turn}
use Rattle.net.specs.declared.Turn.TheVariants.{Idle, Sending, Waiting}
use Rattle.net.specs.declared.Wait.{Wait}
use Rattle.net.specs.State.{with_wait, with_round, with_txat, member_at}

-- a + b and a * b of `f64`, to be read left to right
abbrev pub plus : Float → Float → Float
plus a b = add binary64 a b

abbrev pub times : Float → Float → Float
times a b = mul binary64 a b

-- the slot has a member; from 62 on there is no slot
unfoldable pub is_member : ℕ → ℕ → Bool
is_member used slot = ltb slot 62 && has_bit used slot

-- the slots with a member as a mask: bits 62 and 63 of `used` are no slots
abbrev pub members_in : ℕ → ℕ
members_in used = both_of used (2 ^ 62 - 1)

-- ---- a start

abbrev pub blank_call : List ℕ
blank_call = replicate 7 32

abbrev pub first_round : Round
first_round = record { list = 0; toack = 0; treenews = 0; windowend = zero_time; nextbeacon = zero_time; nextround = zero_time; txat = zero_time; number = 0; rxsent = 0; closeleft = 0; closed = false; traffic = false; rxdirty = false; activity = false }

abbrev pub no_totals : Totals
no_totals = record { polls = 0; relays = 0; rxlists = 0; rounds = 0; replies = 0; silent = 0 }

abbrev pub wait_of : Turn → Option Float → Wait
wait_of turn deadline = record { turn = turn; deadline = deadline }

-- nothing is waited for
abbrev pub idle_wait : Wait
idle_wait = wait_of Idle None

-- no boat, no message: every slot and every cell is free
unfoldable pub new_station : Settings → ℕ → Station
new_station settings count =
    record { settings = settings; wait = idle_wait; round = first_round; totals = no_totals; used = 0; busy = 0; landed = 0; count = count; members = replicate 62 (new_member blank_call 63 zero_time); recent = replicate 62 empty; queues = replicate 62 empty_queue; hears = replicate 3844 63; owners = replicate 64 0; cells = replicate 64 empty_cell }

-- ---- waiting

abbrev pub is_idle : Turn → Bool
is_idle Idle = true
is_idle Sending = false
is_idle (Waiting r) = false

-- the slot whose reply is waited for
abbrev pub polled_by : Turn → Option ℕ
polled_by Idle = None
polled_by Sending = None
polled_by (Waiting r) = Some r.slot

-- the slot that is named, where one is, is x
abbrev pub is_slot : Option ℕ → ℕ → Bool
is_slot None x = false
is_slot (Some y) x = eqb y x

-- ---- on_tx_done

-- a boat that we cannot hear, or that missed its poll, may still be answering: a whole burst is waited out
abbrev pub reply_time : Settings → Bool → Member → Float
reply_time g here m = cond (here && is_heard m.snrup && eqb m.missed 0) g.detect g.maxburst

abbrev pub deadline_of : Settings → Bool → Member → Float → Option Float
deadline_of g here m t = Some (plus (plus (plus t g.turnaround) (reply_time g here m)) g.replyslack)

abbrev pub done_by : Turn → Station → Float → Wait
done_by Idle s t = s.wait
done_by Sending s t = wait_of Idle s.wait.deadline
done_by (Waiting r) s t = wait_of (Waiting r) (deadline_of s.settings (is_member s.used r.slot) (member_at s r.slot) t)

abbrev pub done_wait : Station → Float → Wait
done_wait s t = done_by s.wait.turn s t

unfoldable pub on_tx_done : Station → Float → Station
on_tx_done s t = with_round (with_wait s (done_wait s t)) (with_txat s.round t)

-- ---- levels and times

-- `level_for` of a level that may be unheard
abbrev pub level_in : Settings → Level → ℕ
level_in g x = level_for g.thresholds g.margin x

-- `tiny_wave`: the level of the waveform that a header-only burst is sent in
abbrev pub tiny_wave : Settings → Level → ℕ
tiny_wave g x = level_in g x

-- `cap_for`: the level that a member is to send at
abbrev pub cap_for : Settings → Member → ℕ
cap_for g m = level_in g m.snrup

-- `down_level`: the level of bursts to a member
abbrev pub down_level : Settings → Member → ℕ
down_level g m = level_in g (down_or_up m)

-- duration of one control frame + 2.0 * turnaround + 0.3
abbrev pub slot_len : Settings → Float
slot_len g = plus (plus (get_or g.durations 0 nan) (times two g.turnaround)) slot_slack

-- 3.0 * turnaround + max_burst + detect + 2.0 * reply_slack + 1.0
abbrev pub leaf_wait : Settings → Float
leaf_wait g =
    plus (plus (plus (plus (times three g.turnaround) g.maxburst) g.detect) (times two g.replyslack)) one

-- ---- what a call leaves: the station, and the words that it writes

pub record Said : Type 0 where
  pub station : Station
  pub words : List ℕ

abbrev pub said : Station → List ℕ → Said
said s ws = record { station = s; words = ws }

-- a function that was lent the output l, from i on, returned the station r and left the output m and the place j: it did what d says
pub record Did (d : Said) (r : Station) (l : List ℕ) (i : ℕ) (m : List ℕ) (j : ℕ) : Type 0 where
  pub station : r ≡ d.station
  pub wrote : Wrote l i d.words m j

-- a function that was lent the output o returned the station r and left m: it did what d says
pub record Does (d : Said) (r : Station) (o m : Output) : Type 0 where
  pub station : r ≡ d.station
  pub wrote : Writes o d.words m
