-- `ncs_rx` of ncs.rs, around the frames: the deadline that moves, K_IDLE, and the reply to a poll.
use Rattle.std.specs.Prelude.{ℕ, ◌+◌, ◌*◌, ◌/◌, ◌%◌, Bool, true, false, not, cond, ◌&&◌, ◌||◌, List, [], ◌∷◌, eqb, ltb, leb, Float, Option, Some, None}
use Rattle.wire.specs.Fields.{snr_from_q}
use Rattle.wire.specs.Kinds.{tiny, k_pollack, k_ack, k_idle, k_subpoll, k_suback}
use Rattle.words.specs.declared.Head.{Head}
use Rattle.out.specs.Encode.{head_word, wave_word}
use Rattle.roster.specs.declared.Member.{Member}
use Rattle.roster.specs.Members.{received_at, with_missed, with_burst, with_direct}
use Rattle.roster.specs.Relays.{turn_over}
use Rattle.net.specs.declared.Station.{Station}
use Rattle.net.specs.declared.Settings.{Settings}
use Rattle.net.specs.declared.Reply.{Reply}
use Rattle.net.specs.declared.Turn.{Turn}
use Rattle.net.specs.declared.Turn.TheVariants.{Idle, Sending, Waiting}
use Rattle.net.specs.declared.Wait.{Wait}
use Rattle.net.specs.State.{member_at, with_member, with_counted, with_wait, one_reply, index_of, also_noted}
use Rattle.net.specs.Net.{plus, is_member, wait_of, idle_wait, tiny_wave, leaf_wait, Said, said}
use Rattle.frames.specs.declared.Air.{Air}
use Rattle.frames.specs.declared.Rx.{Rx}
use Rattle.frames.specs.Reading.{Reading}

-- a burst that does not answer a poll: a check-in, or traffic between a relay and its leaves
abbrev pub is_aside : Head → Bool
is_aside h = not (eqb h.code tiny) && leb 8 h.hi

-- the relay that was polled is busy with its leaves
abbrev pub is_busy : Head → Bool
is_busy h = is_aside h || (eqb h.code tiny && (eqb h.hi k_subpoll || eqb h.hi k_suback))

-- it is given time; a station that waits for no reply has no deadline to move
abbrev pub postponed : Turn → Wait → Float → Wait
postponed Idle w at = w
postponed Sending w at = w
postponed (Waiting r) w at = wait_of (Waiting r) (Some at)

abbrev pub busy_wait : Wait → Head → Settings → Float → Wait
busy_wait w h g now = cond (is_busy h) (postponed w.turn w (plus now (leaf_wait g))) w

-- what a reception comes to at its end: the station, the burst, and the slot the waiting for whose reply ended
pub record Ended : Type 0 where
  pub station : Station
  pub burst : List ℕ
  pub over : Option ℕ

abbrev pub nothing_more : Station → Ended
nothing_more s = record { station = s; burst = []; over = None }

-- `turn_over(slot, relay_for)`
abbrev pub turn_over_in : Station → ℕ → ℕ → Station
turn_over_in s slot source =
    cond (is_member s.used source) (with_member s source (turn_over s.hears s.used (member_at s source) source slot)) s

-- ---- K_IDLE: extra has the slot and the level field at which it hears us

abbrev pub idle_member : Air → ℕ → Member → Member
idle_member a extra m =
    let k = with_missed (received_at m a.level (snr_from_q (extra / 64 % 64)) a.time) 0 in
    cond (eqb m.via 63) k (with_direct k a.level)

abbrev pub idle_heard : Air → ℕ → Station → Station
idle_heard a extra s =
    cond (is_member s.used (extra % 64))
    (also_noted (with_counted s (extra % 64) (idle_member a extra (member_at s (extra % 64)))) (index_of (extra % 64)) a.level) s

-- it ends the turn of the boat that was polled
abbrev pub idle_by : Turn → ℕ → Station → Ended
idle_by Idle slot s = nothing_more s
idle_by Sending slot s = nothing_more s
idle_by (Waiting r) slot s =
    cond (eqb r.slot slot)
    (record { station = turn_over_in (one_reply (with_wait s idle_wait)) slot r.relayfor; burst = []; over = Some slot })
    (nothing_more s)

unfoldable pub idle_end : Air → ℕ → Station → Ended
idle_end a extra s = idle_by s.wait.turn (extra % 64) (idle_heard a extra s)

-- ---- the reply to a poll

-- K_ACK and K_POLLACK: slot + 64 burst + 256 bitmap, which covers the first six frames
abbrev pub ack_extra : ℕ → ℕ → ℕ → ℕ
ack_extra slot burst heard = slot % 64 + 64 * burst + 256 * (heard % 64)

abbrev pub reply_member : Air → ℕ → Member → Member
reply_member a burst m = with_burst (with_missed (received_at m a.level m.snrdown a.time) 0) ((burst + 1) % 4)

abbrev pub reply_heard : Air → ℕ → ℕ → Station → Station
reply_heard a slot burst s =
    cond (is_member s.used slot) (also_noted (with_counted s slot (reply_member a burst (member_at s slot))) (index_of slot) a.level) s

-- the level of the acknowledgement: as the boat hears us
abbrev pub ack_level : Station → ℕ → ℕ
ack_level s slot = cond (is_member s.used slot) (tiny_wave s.settings (member_at s slot).snrdown) 0

abbrev pub ack_words : ℕ → Station → ℕ → ℕ → ℕ → List ℕ
ack_words kind s slot burst heard = head_word tiny kind (ack_extra slot burst heard) ∷ wave_word (ack_level s slot) ∷ []

-- more is pending and the turn has bursts left: polled again with the acknowledgement; otherwise the turn ends with it
abbrev pub answer_by : Bool → Reply → ℕ → ℕ → Station → Ended
answer_by true r burst heard s =
    record {
      station = with_wait s (wait_of (Waiting (record { slot = r.slot; relayfor = r.relayfor; tries = 0; turnbursts = r.turnbursts + 1 })) None);
      burst = ack_words k_pollack s r.slot burst heard;
      over = None;
    }
answer_by false r burst heard s =
    record {
      station = turn_over_in (with_wait s (wait_of Sending None)) r.slot r.relayfor;
      burst = ack_words k_ack s r.slot burst heard;
      over = Some r.slot;
    }

-- more to come: bit 2 of the high nibble, or a report; a turn has four bursts at most
abbrev pub goes_on : Head → Bool → Reply → Bool
goes_on h more r = (eqb (h.hi / 4 % 2) 1 || more) && ltb r.turnbursts 3

-- the last report, if any, names the slot
abbrev pub names : Option ℕ → ℕ → Bool
names None slot = true
names (Some x) slot = eqb x slot

-- a reply needs a code of the ladder, and that the last report, if any, names the boat that was polled
abbrev pub is_reply : Head → Option ℕ → Reply → Bool
is_reply h sender r = not (is_aside h) && ltb h.code 17 && names sender r.slot

abbrev pub reply_by : Turn → Air → Head → Reading → Ended
reply_by Idle a h x = nothing_more x.station
reply_by Sending a h x = nothing_more x.station
reply_by (Waiting r) a h x =
    cond (is_reply h x.sender r)
    (answer_by (goes_on h x.more r) r (h.hi % 4) x.heard (reply_heard a r.slot (h.hi % 4) (one_reply x.station)))
    (nothing_more x.station)

unfoldable pub reply_end : Air → Head → Reading → Ended
reply_end a h x = reply_by x.station.wait.turn a h x

-- ---- the end of any reception: of the bursts without frames only K_IDLE does more

abbrev pub end_of : Air → Head → Reading → Ended
end_of a h x =
    cond (eqb h.code tiny) (cond (eqb h.hi k_idle) (idle_end a h.extra x.station) (nothing_more x.station)) (reply_end a h x)

-- the running values of the code, at the end
abbrev pub end_reading : Station → Rx → Reading
end_reading s x = record { station = s; store = []; words = []; frame = x.frame; heard = x.heard; unkept = x.unkept; sender = x.sender; more = x.more; seen = [] }

-- the station and the words of the end
abbrev pub end_said : Air → Head → Station → Rx → Said
end_said a h s x = said (end_of a h (end_reading s x)).station (end_of a h (end_reading s x)).burst
