-- The definitions run from a start on, with a miss limit of 2: a boat misses a poll and is not silent, misses a second and is, and is heard again.
-- Assumes nothing.
use mathlib.Core.Path.{◌≡◌, refl}
use mathlib.Core.Bool.{false}
use mathlib.Core.List.{List, [], ◌∷◌, ◌++◌}
use lib.ListN.{replicate}
use lib.Ieee.{size, units, round, sum, add, mul, lt, le, of_int, of_bits}
use Rattle.bits.specs.Loop.{first, fold, every, any}
use Rattle.bits.specs.Mask.{has_bit, with_bit, without_bit, both_of, either_of, minus_of, lowest_bit, lowest_free, slots_of}
use Rattle.bits.specs.Stop.{stop}
use Rattle.level.specs.Levels.{level_below}
use Rattle.level.specs.Order.{total_lt}
use Rattle.wire.specs.Call.{digit, char, trim_start, trim_end, unpacked, shifted}
use Rattle.wire.specs.Kinds.{tiny, k_idle}
use Rattle.words.specs.Words.{item_at, frames_of, head_ok, parse}
use Rattle.out.specs.Encode.{pack, frames_words, chunks_of, burst_words}
use Rattle.roster.specs.Members.{tally}
use Rattle.roster.specs.Relays.{heard_at, best_high, relay_src_for, turn_over}
use Rattle.net.specs.declared.Settings.{Settings}
use Rattle.net.specs.State.{member_at}
use Rattle.net.specs.Net.{is_member, new_station, on_tx_done}
use Rattle.admit.specs.Admission.{seat_of, find_call, leads_to}
use Rattle.bursts.specs.Bursts.{poll_burst, acks_burst, beacon_rows, beacon_payload, beyond, beacon_of, tell_all, list_sent, rx_list_burst}
use Rattle.bursts.specs.Reroute.{tried_of, source_for, promote_at, promote_all, move_at, move_all, reroute_of}
use Rattle.bursts.specs.Rows.{mask_where, rows_on, least_reach, least_direct}
use Rattle.next.specs.Next.{poll_stage, list_for, draw_stage, reroute_stage, round_end, act_of, window_stage, again_stage, missed_stage, due_of, ncs_next}
use Rattle.frames.specs.Frames.{read_frames}
use Rattle.rx.specs.Ending.{idle_end, reply_end}
use Rattle.rx.specs.Reception.{ncs_rx}
use Rattle.station.specs.Entries.{admit_refusal, admit_of, receive_refusal, receive_of, next_refusal, next_of, sent_of}
use Rattle.promise.specs.Promise.{handed, Net, net, Call, admission, reception, result, step, after}
use Rattle.promise.proofs.TurnsRun.{nil, far, next, sent}
use Rattle.queue.specs.Queues.{is_due}
use Rattle.bursts.specs.Direct.{directed_to}

-- every time 0 but the beacon's
abbrev settings : Settings
settings =
    record { turnaround = nil; maxburst = nil; replyslack = nil; detect = nil; beaconevery = far; quickbeacon = far; idleroundgap = nil; durations = replicate 4 nil; thresholds = replicate 17 nil; margin = nil; relaysnr = nil; misslimit = 2; beaconlevel = 0; windowslots = 0; call = replicate 7 32; name = replicate 6 32; prime = false; lead = nil; latency = nil; rooms = replicate 17 1; payloads = replicate 17 1 }

-- K_IDLE from slot 0
abbrev idle : Call
idle = reception (burst_words (record { head = record { code = tiny; hi = k_idle; extra = 0 }; frames = [] })) nil nil handed 8192 []

-- a boat joins, and the first beacon goes out; it is polled, and polled again; the next decision finds that it missed, and polls it anew
abbrev once : List Call
once = admission (0 ∷ 0 ∷ 0 ∷ 0 ∷ 1 ∷ []) 63 nil 8192 ∷ next ∷ sent ∷ next ∷ sent ∷ next ∷ sent ∷ next ∷ []

abbrev twice : List Call
twice = once ++ (sent ∷ next ∷ sent ∷ next ∷ [])

abbrev pub from : Net
from = net (new_station settings 1) (replicate 6400 7)

-- the missed count and the total
pub record SilentRun : Type 0 where
  pub missed : (after once from).station.totals.silent ≡ 0
  pub missed_once : (member_at (after once from).station 0).missed ≡ 1
  pub silent : (after twice from).station.totals.silent ≡ 1
  pub missed_twice : (member_at (after twice from).station 0).missed ≡ 2
  pub heard : (after (twice ++ (idle ∷ [])) from).station.totals.silent ≡ 0

silent_run : SilentRun
unfolding size units round sum add mul lt le of_int of_bits first fold every any has_bit with_bit without_bit both_of either_of minus_of lowest_bit lowest_free slots_of stop level_below total_lt digit char trim_start trim_end unpacked shifted item_at frames_of head_ok parse pack frames_words chunks_of tally heard_at best_high relay_src_for turn_over is_member new_station on_tx_done seat_of find_call leads_to poll_burst acks_burst beacon_rows beacon_payload beyond beacon_of tell_all list_sent rx_list_burst tried_of source_for promote_at promote_all move_at move_all reroute_of mask_where rows_on least_reach least_direct poll_stage directed_to is_due list_for draw_stage reroute_stage round_end act_of window_stage again_stage missed_stage due_of ncs_next read_frames idle_end reply_end ncs_rx admit_refusal admit_of receive_refusal receive_of next_refusal next_of sent_of result step after
silent_run = record { missed = refl; missed_once = refl; silent = refl; missed_twice = refl; heard = refl }
