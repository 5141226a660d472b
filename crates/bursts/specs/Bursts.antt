-- `poll_burst`, `acks_burst`, `beacon` and `rx_list_burst` of ncs.rs.
use Rattle.std.specs.Prelude.{◌≡◌, refl, ℕ, zero, suc, ◌+◌, ◌*◌, ◌/◌, ◌%◌, Bool, false, not, cond, ◌&&◌, ◌||◌, List, [], ◌∷◌, ◌++◌, eqb, length, get_or, set, pos, Float, Option, Some, None}
use Rattle.std.specs.Float.{nan, binary64}
use Rattle.std.specs.Float.Ieee.{sub, of_int, of_bits, round}
use Rattle.bits.specs.Loop.{fold}
use Rattle.bits.specs.Mask.{has_bit, without_bit, both_of, either_of, minus_of, lowest_bit}
use Rattle.level.specs.Consts.{zero_time}
use Rattle.level.specs.Order.{is_nan}
use Rattle.rounding.specs.Round.{announced}
use Rattle.wire.specs.Call.{pack_call}
use Rattle.wire.specs.Kinds.{k_poll, k_relay, c_beacon, c_acks, c_tree, c_rxlist}
use Rattle.out.specs.Encode.{head_word, wave_word, ctrl_words, chunk_words}
use Rattle.roster.specs.declared.Member.{Member}
use Rattle.roster.specs.Members.{is_news, told_now, down_or_up}
use Rattle.net.specs.declared.Station.{Station}
use Rattle.net.specs.declared.Settings.{Settings}
use Rattle.net.specs.declared.Turn.TheVariants.{Sending}
use Rattle.net.specs.State.{with_wait, with_round, with_members, with_toack, with_treenews, with_rxdirty, with_beacon, one_list}
use Rattle.net.specs.Net.{plus, times, members_in, wait_of, tiny_wave, cap_for, slot_len, Said, said}
use Rattle.bursts.specs.Rows.{member_in, least_of, ack_rows, ack_rows_on, tree_rows, list_rows, any_holes, least_reach, least_direct}

-- the head of a burst, and of one without frames
abbrev pub head_words : ℕ → ℕ → ℕ → ℕ → List ℕ
head_words code hi extra level = head_word code hi extra ∷ wave_word level ∷ []

abbrev pub tiny_words : ℕ → ℕ → ℕ → List ℕ
tiny_words kind extra level = head_words 62 kind extra level

-- the station waits for the end of a sending
abbrev pub sends : Station → Station
sends s = with_wait s (wait_of Sending s.wait.deadline)

-- ---- poll_burst

-- K_POLL slot + 64 cap + 1,024 burst; K_RELAY slot + 64 source + 4,096 cap; caps above 15 are sent as 15
abbrev pub poll_extra : ℕ → ℕ → ℕ → ℕ → ℕ
poll_extra slot relayfor cap burst =
    cond (eqb relayfor 63) (slot % 64 + 64 * least_of cap 15 + 1024 * (burst % 4)) (slot % 64 + 64 * (relayfor % 64) + 4096 * least_of cap 15)

abbrev pub poll_kind : ℕ → ℕ
poll_kind relayfor = cond (eqb relayfor 63) k_poll k_relay

abbrev pub poll_level : Settings → Member → Bool → ℕ
poll_level g m robust = cond robust 0 (tiny_wave g (down_or_up m))

-- the poll of a slot, whose member is m where there is one; robust: at the floor
unfoldable pub poll_burst : Settings → Bool → Member → ℕ → ℕ → Bool → List ℕ
poll_burst g here m slot relayfor robust =
    cond here
    (tiny_words (poll_kind relayfor) (poll_extra slot relayfor (cap_for g m) m.burst) (poll_level g m robust))
    (tiny_words (poll_kind relayfor) (poll_extra slot relayfor 0 0) 0)

-- ---- acks_burst

-- the members to acknowledge, and with them those whose relay is news
abbrev pub acked : Station → ℕ
acked s = both_of s.round.toack (members_in s.used)

abbrev pub moved_in : Station → ℕ
moved_in s = both_of s.round.treenews (members_in s.used)

abbrev pub acked_or_moved : Station → ℕ
acked_or_moved s = either_of (acked s) (moved_in s)

-- slots among them without a member, which `reach_level` puts at the floor
abbrev pub strays : Station → ℕ
strays s = minus_of (either_of s.round.toack s.round.treenews) (members_in s.used)

abbrev pub floor_if : ℕ → ℕ → ℕ
floor_if strays lev = cond (eqb strays 0) lev 0

-- the level that the weakest of them can hear
abbrev pub acks_level : Station → ℕ
acks_level s = floor_if (strays s) (least_reach s (acked_or_moved s))

-- `ack_frames`: C_ACKS frames of three entries
abbrev pub ack_frames : List ℕ → List ℕ
ack_frames rows = chunk_words c_acks 18 rows

-- then C_TREE frames of ten pairs
abbrev pub acks_words : Station → List ℕ
acks_words s =
    head_words 0 0 0 (acks_level s)
    ++ (ack_frames (ack_rows s (acked s) 62) ++ chunk_words c_tree 20 (tree_rows s (acked_or_moved s) (moved_in s)))

unfoldable pub acks_burst : Station → Said
acks_burst s = said (with_round (sends s) (with_treenews (with_toack s.round 0) 0)) (acks_words s)

-- ---- beacon

abbrev pub name_bytes : List ℕ → List ℕ
name_bytes n = get_or n 0 0 ∷ get_or n 1 0 ∷ get_or n 2 0 ∷ get_or n 3 0 ∷ get_or n 4 0 ∷ get_or n 5 0 ∷ []

-- 1000.0
abbrev pub thousand : Float
thousand = of_bits binary64 0x408f_4000_0000_0000

pub thousand_is : thousand ≡ round binary64 false 1000 1
unfolding of_bits round
thousand_is = refl

-- the duration of a beacon with this many frames after the first
abbrev pub beacon_lasts : Settings → ℕ → Float
beacon_lasts g acks = get_or g.durations (acks % 4) nan

-- where the burst of slot 0 starts after the beacon's own start, dur - lead + turnaround + lead + rx_latency, in milliseconds
abbrev pub first_ms : Settings → ℕ → ℕ
first_ms g acks =
    announced (times (plus (plus (plus (sub binary64 (beacon_lasts g acks) g.lead) g.turnaround) g.lead) g.latency) thousand)

-- and the slot length, 1 at least; a NaN is 0, as in the Rust
abbrev pub or_one : ℕ → ℕ
or_one n = cond (eqb n 0) 1 n

abbrev pub len_of : Float → ℕ
len_of x = cond (is_nan x) 0 (or_one (announced x))

abbrev pub len_ms : Settings → ℕ
len_ms g = len_of (times (slot_len g) thousand)

-- lowest byte first
abbrev pub two_bytes : ℕ → List ℕ
two_bytes n = (n % 256) ∷ (n / 256) ∷ []

-- the window's timing, with `prime` set
abbrev pub timing : Settings → ℕ → List ℕ
timing g acks = cond g.prime (two_bytes (first_ms g acks) ++ two_bytes (len_ms g)) []

-- the station's packed call, the net's name, open, the window's slots
abbrev pub name_payload : Settings → List ℕ
name_payload g = (c_beacon ∷ pack_call g.call) ++ (name_bytes g.name ++ (1 ∷ g.windowslots ∷ []))

-- the first frame of a beacon with this many frames after it, and its length
unfoldable pub beacon_payload : Settings → ℕ → List ℕ
beacon_payload g acks = name_payload g ++ timing g acks

abbrev pub beacon_size : Settings → ℕ
beacon_size g = cond g.prime 18 14

-- who the beacon lists: boats waiting for acknowledgement first, by slot, then others by slot, nine in all
unfoldable pub beacon_rows : Station → List ℕ
beacon_rows s = ack_rows_on s (minus_of s.used s.round.toack) 9 (ack_rows s (acked s) 9)

-- the mask without its k lowest slots
abbrev pub without_found : Option ℕ → ℕ → ℕ
without_found (Some i) m = without_bit m i
without_found None m = m

unfoldable pub beyond : ℕ → ℕ → ℕ
beyond zero m = m
beyond (suc k) m = beyond k (without_found (lowest_bit m) m)

-- the frames after the first: three rows each
abbrev pub beacon_acks : Station → ℕ
beacon_acks s = (length (beacon_rows s) + 17) / 18

abbrev pub beacon_words : Station → List ℕ
beacon_words s =
    head_words 0 0 0 s.settings.beaconlevel ++ (ctrl_words (beacon_payload s.settings (beacon_acks s)) ++ ack_frames (beacon_rows s))

-- now + dur + turnaround + window_slots * slot_len + 0.0 (no chorus) + reply_slack, of a beacon with this many frames after the first
abbrev pub window_end : Settings → Float → ℕ → Float
window_end g now acks =
    plus (plus (plus (plus (plus now (beacon_lasts g acks)) g.turnaround) (times (of_int binary64 (pos g.windowslots)) (slot_len g))) zero_time) g.replyslack

-- those waiting and not listed go on waiting
unfoldable pub beacon_of : Station → Float → Said
beacon_of s now =
    said (with_round (sends s) (with_beacon s.round (beyond 9 (acked s)) (window_end s.settings now (beacon_acks s)) (plus now s.settings.beaconevery)))
    (beacon_words s)

-- ---- rx_list_burst

-- what the list would say is noted
abbrev pub tell_of : Bool → Member → Member
tell_of here m = cond (here && is_news m) (told_now m) m

abbrev pub tell_at : ℕ → Station → Station
tell_at i s = with_members s (set s.members i (tell_of (has_bit s.used i) (member_in s i)))

unfoldable pub tell_all : Station → Station
tell_all s = fold tell_at 62 0 s

-- a list is sent: relayed traffic or a hole is news, and some entry changed
unfoldable pub list_sent : Station → Bool
list_sent s = not (not (s.round.rxdirty || any_holes s) || eqb (length (list_rows s)) 0)

abbrev pub list_told : Station → Station
list_told s = tell_all (with_round s (with_rxdirty s.round false))

abbrev pub list_words : Station → List ℕ
list_words s = head_words 0 0 0 (least_direct s) ++ chunk_words c_rxlist 21 (list_rows s)

-- C_RXLIST frames of seven entries, where there is news; what it would tell is noted all the same
unfoldable pub rx_list_burst : Station → Said
rx_list_burst s = cond (list_sent s) (said (one_list (sends (list_told s))) (list_words s)) (said (list_told s) [])
