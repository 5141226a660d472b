-- The definitions run over a sign-off in a turn: two boats are listed, the first is polled and signs off, and the second has its turn; the next holder of slot 0 is
-- on the next list. And the boat that a turn relays for signs off. By computation; assumes nothing.
use mathlib.Core.Path.{◌≡◌, refl}
use mathlib.Core.List.{List, [], ◌∷◌, ◌++◌}
use lib.ListN.{replicate}
use lib.Ieee.{size, units, round, sum, add, sub, mul, lt, le, of_int, of_bits}
use Rattle.bits.specs.Loop.{first, fold, every, any}
use Rattle.bits.specs.Mask.{has_bit, with_bit, without_bit, both_of, either_of, minus_of, lowest_bit, lowest_free, slots_of}
use Rattle.bits.specs.Stop.{stop}
use Rattle.level.specs.Levels.{level_below}
use Rattle.level.specs.Order.{total_lt}
use Rattle.wire.specs.Fields.{field_db, snr_from_q}
use Rattle.wire.specs.Call.{digit, char, trim_start, trim_end, unpacked, shifted}
use Rattle.words.specs.Words.{heard, word_ok, payload_ok, unpack, payload, frame_of, item_at, frames_of, head_ok, parse}
use Rattle.out.specs.Encode.{pack, frames_words, burst_words, chunks_of}
use Rattle.roster.specs.Members.{tally}
use Rattle.roster.specs.Relays.{heard_at, best_low, relayer_for, relay_src_for, turn_over}
use Rattle.net.specs.declared.Turn.{Turn}
use Rattle.net.specs.declared.Turn.TheVariants.{Waiting}
use Rattle.net.specs.Net.{is_member, new_station, on_tx_done}
use Rattle.admit.specs.Admission.{seat_of, find_call, leads_to}
use Rattle.bursts.specs.Bursts.{poll_burst, acks_burst, beacon_rows, beacon_payload, beyond, beacon_of, tell_all, list_sent, rx_list_burst}
use Rattle.bursts.specs.Reroute.{tried_of, source_for, promote_at, promote_all, move_at, move_all, reroute_of}
use Rattle.bursts.specs.Rows.{mask_where, rows_on, least_reach, least_direct}
use Rattle.next.specs.Next.{poll_stage, list_for, draw_stage, reroute_stage, round_end, act_of, window_stage, again_stage, missed_stage, due_of, ncs_next}
use Rattle.frames.specs.Control.{each_entry, report_frame}
use Rattle.frames.specs.Frames.{control_by, read_frame, frame_step, read_frames}
use Rattle.rx.specs.Ending.{reply_end}
use Rattle.rx.specs.Reception.{ncs_rx}
use Rattle.station.specs.Entries.{admit_refusal, admit_of, receive_refusal, receive_of, next_refusal, next_of, sent_of}
use Rattle.signoff.specs.SignOff.{bereave_at, bereave_all, clear_at, clear_all, unhear_at, unhear_all, sign_off}
use Rattle.station.specs.SignOff.{sign_off_refusal, sign_off_of}
use Rattle.promise.specs.Promise.{handed, Net, net, Call, admission, reception, decision, sending, signing, result, step, after, drew, over, poll, struck, bursts_in, turn_events, trace}
use Rattle.promise.proofs.TurnsRun.{settings}
use Rattle.promise.proofs.Runs.{zero_time}
use Rattle.queue.specs.Queues.{is_due}
use Rattle.bursts.specs.Direct.{directed_to}

abbrev next : Call
next = decision zero_time (replicate 126976 0) 8192

abbrev sent : Call
sent = sending zero_time

abbrev joined : List Call
joined = admission (0 ∷ 0 ∷ 0 ∷ 0 ∷ 1 ∷ []) 63 zero_time 8192 ∷ admission (0 ∷ 0 ∷ 0 ∷ 0 ∷ 2 ∷ []) 63 zero_time 8192 ∷ []

-- slot 0 is polled and signs off before its poll has been sent; another boat takes the slot, is acknowledged, and slot 1 has its turn: two polls without an answer
abbrev pub run : List Call
run =
    joined
    ++ (next ∷ sent ∷ next ∷ signing 0 ∷ sent ∷ admission (0 ∷ 0 ∷ 0 ∷ 0 ∷ 3 ∷ []) 63 zero_time 8192 ∷ next ∷ sent ∷ next ∷ sent ∷ next ∷ sent ∷ next ∷ [])

struck_run : trace run (net (new_station settings 1) (replicate 6400 7))
    ≡ drew (0 ∷ 1 ∷ []) ∷ poll 0 ∷ struck 0 ∷ poll 1 ∷ poll 1 ∷ over 1 ∷ drew (0 ∷ 1 ∷ []) ∷ poll 0 ∷ []
unfolding size units round sum add mul lt le of_int of_bits first fold every any has_bit with_bit without_bit both_of either_of minus_of lowest_bit lowest_free slots_of stop level_below total_lt digit char trim_start trim_end unpacked shifted item_at frames_of head_ok parse pack frames_words chunks_of heard_at relay_src_for turn_over is_member new_station on_tx_done seat_of find_call leads_to poll_burst acks_burst beacon_rows beacon_payload beyond beacon_of tell_all list_sent rx_list_burst tried_of source_for promote_at promote_all move_at move_all reroute_of mask_where rows_on least_reach least_direct poll_stage directed_to is_due list_for draw_stage reroute_stage round_end act_of window_stage again_stage missed_stage due_of ncs_next read_frames reply_end ncs_rx admit_refusal admit_of receive_refusal receive_of next_refusal next_of sent_of result step bursts_in turn_events trace sign_off_of sign_off_refusal sign_off bereave_all bereave_at clear_all clear_at unhear_all unhear_at tally relayer_for best_low
struck_run = refl

-- ---- the boat that a running turn relays for

-- slot 1 reports that it hears slot 0 at the level field 40
abbrev reports : Call
reports = reception (burst_words (record { head = record { code = 0; hi = 0; extra = 0 }; frames = heard 128 0 (3 ∷ 1 ∷ 30 ∷ 0 ∷ 0 ∷ 0 ∷ 0 ∷ 0 ∷ 0 ∷ 0 ∷ 0 ∷ 0 ∷ 0 ∷ 40 ∷ []) ∷ [] })) zero_time zero_time handed 8192 []

-- slot 0 does not answer twice, so slot 1 is polled with K_RELAY for it; then slot 0 signs off, and slot 1 is polled again
abbrev relaying : List Call
relaying = reports ∷ next ∷ sent ∷ next ∷ sent ∷ next ∷ sent ∷ next ∷ []

abbrev begun : Net
begun = after joined (net (new_station settings 1) (replicate 6400 7))

abbrev turn_of : List Call → Turn
turn_of cs = (after cs begun).station.wait.turn

pub record RelayRun : Type 0 where
  pub source : turn_of relaying ≡ Waiting (record { slot = 1; relayfor = 0; tries = 0; turnbursts = 0 })
  pub none : turn_of (relaying ++ (signing 0 ∷ [])) ≡ Waiting (record { slot = 1; relayfor = 63; tries = 0; turnbursts = 0 })
  pub trace : trace (relaying ++ (signing 0 ∷ sent ∷ next ∷ [])) begun ≡ drew (0 ∷ 1 ∷ []) ∷ poll 0 ∷ poll 0 ∷ over 0 ∷ poll 1 ∷ struck 0 ∷ poll 1 ∷ []

pub relay_run : RelayRun
unfolding size units round sum add mul lt le of_int of_bits first fold every any has_bit with_bit without_bit both_of either_of minus_of lowest_bit lowest_free slots_of stop level_below total_lt digit char trim_start trim_end unpacked shifted item_at frames_of head_ok parse pack frames_words chunks_of heard_at relay_src_for turn_over is_member new_station on_tx_done seat_of find_call leads_to poll_burst acks_burst beacon_rows beacon_payload beyond beacon_of tell_all list_sent rx_list_burst tried_of source_for promote_at promote_all move_at move_all reroute_of mask_where rows_on least_reach least_direct poll_stage directed_to is_due list_for draw_stage reroute_stage round_end act_of window_stage again_stage missed_stage due_of ncs_next read_frames reply_end ncs_rx admit_refusal admit_of receive_refusal receive_of next_refusal next_of sent_of result step bursts_in turn_events trace sign_off_of sign_off_refusal sign_off bereave_all bereave_at clear_all clear_at unhear_all unhear_at tally relayer_for best_low after word_ok payload_ok unpack payload frame_of frame_step read_frame control_by report_frame each_entry field_db snr_from_q sub
relay_run = record { source = refl; none = refl; trace = refl }
