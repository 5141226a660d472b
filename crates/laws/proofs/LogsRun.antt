-- The log of the run with the longest turn (`longest`, crates/promise/proofs/TurnsRun.antt). Assumes nothing.
use mathlib.Core.Path.{◌≡◌, refl}
use mathlib.Core.Bool.{false}
use mathlib.Core.List.{List, [], ◌∷◌, ◌++◌}
use lib.IntN.{pos}
use lib.ListN.{replicate}
use lib.Ieee.{Float, fin, size, units, round, sum, add, mul, lt, le, of_int, of_bits}
use Rattle.bits.specs.Loop.{first, fold, every, any}
use Rattle.bits.specs.Mask.{has_bit, with_bit, without_bit, both_of, either_of, minus_of, lowest_bit, lowest_free, slots_of}
use Rattle.bits.specs.Stop.{stop}
use Rattle.level.specs.Levels.{level_below}
use Rattle.level.specs.Order.{total_lt}
use Rattle.wire.specs.Call.{digit, char, trim_start, trim_end, unpacked, shifted}
use Rattle.words.specs.Words.{item_at, frames_of, head_ok, parse}
use Rattle.out.specs.Encode.{pack, frames_words, chunks_of}
use Rattle.roster.specs.Relays.{heard_at, relay_src_for, turn_over}
use Rattle.net.specs.declared.Settings.{Settings}
use Rattle.net.specs.Net.{is_member, new_station, on_tx_done}
use Rattle.admit.specs.Admission.{seat_of, find_call, leads_to}
use Rattle.bursts.specs.Bursts.{poll_burst, acks_burst, beacon_rows, beacon_payload, beyond, beacon_of, tell_all, list_sent, rx_list_burst}
use Rattle.bursts.specs.Reroute.{tried_of, source_for, promote_at, promote_all, move_at, move_all, reroute_of}
use Rattle.bursts.specs.Rows.{mask_where, rows_on, least_reach, least_direct}
use Rattle.next.specs.Next.{poll_stage, list_for, draw_stage, reroute_stage, round_end, act_of, window_stage, again_stage, due_of, ncs_next}
use Rattle.frames.specs.Frames.{read_frames}
use Rattle.rx.specs.Ending.{reply_end}
use Rattle.rx.specs.Reception.{ncs_rx}
use Rattle.station.specs.Entries.{admit_refusal, admit_of, receive_refusal, receive_of, next_refusal, next_of, sent_of}
use Rattle.promise.specs.Promise.{handed, net, Call, admission, reception, decision, sending, result, step, drew, over, poll, ack, bursts_in, turn_events, trace}
use Rattle.promise.proofs.TurnsRun.{settings, run}
use Rattle.logs.specs.Reading.{slots_in, entries_from, entries_of, sent_in}
use Rattle.logs.specs.Reading as log
use Rattle.laws.specs.Logs.{slot_words, log_of, log_from}
use Rattle.queue.specs.Queues.{is_due}
use Rattle.bursts.specs.Direct.{directed_to}

-- its log: the beacon's sending is passed over, and the last acknowledgement is K_ACK
longest_log : entries_of (log_from run (net (new_station settings 1) (replicate 6400 7)))
    ≡ log.mark (0 ∷ 1 ∷ []) ∷ log.poll 0 ∷ log.poll 0 ∷ log.pollack 0 ∷ log.poll 0 ∷ log.pollack 0 ∷ log.poll 0 ∷ log.pollack 0 ∷ log.poll 0 ∷ log.ack 0 ∷ log.poll 1 ∷ []
unfolding size units round sum add mul lt le of_int of_bits first fold every any has_bit with_bit without_bit both_of either_of minus_of lowest_bit lowest_free slots_of stop level_below total_lt digit char trim_start trim_end unpacked shifted item_at frames_of head_ok parse pack frames_words chunks_of heard_at relay_src_for turn_over is_member new_station on_tx_done seat_of find_call leads_to poll_burst acks_burst beacon_rows beacon_payload beyond beacon_of tell_all list_sent rx_list_burst tried_of source_for promote_at promote_all move_at move_all reroute_of mask_where rows_on least_reach least_direct poll_stage directed_to is_due list_for draw_stage reroute_stage round_end act_of window_stage again_stage due_of ncs_next read_frames reply_end ncs_rx admit_refusal admit_of receive_refusal receive_of next_refusal next_of sent_of result step bursts_in turn_events trace sent_in slot_words log_of log_from slots_in entries_from
longest_log = refl
