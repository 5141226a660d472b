-- Word back to a boat, run from a start on: post, decision, report, post again, and the next round's burst, which begins behind what was reported; the slot's next
-- holder after a sign-off; and what is sent where a premise does not hold. By computation; assumes nothing.
use mathlib.Core.Path.{◌≡◌, refl}
use mathlib.Core.Bool.{false}
use mathlib.Core.List.{List, [], ◌∷◌, ◌++◌}
use Prim.Native.Nat.{ℕ}
use native.Mathlib.Omega.{arith}
use lib.ListN.{replicate}
use lib.Ieee.{size, units, round, sum, add, sub, mul, lt, le, eq, of_int, of_bits}
use Rattle.bits.specs.Loop.{first, fold, every, any}
use Rattle.bits.specs.Mask.{has_bit, with_bit, without_bit, both_of, either_of, minus_of, lowest_bit, lowest_free, slots_of}
use Rattle.bits.specs.Stop.{stop}
use Rattle.level.specs.Levels.{level_below}
use Rattle.wire.specs.Call.{digit, char, trim_start, trim_end, unpacked, shifted}
use Rattle.wire.specs.Fields.{field_db, snr_from_q}
use Rattle.wire.specs.Kinds.{tiny, k_idle, c_report}
use Rattle.words.specs.Words.{heard, word_ok, payload_ok, unpack, payload, frame_of, item_at, frames_of, head_ok, parse}
use Rattle.words.specs.Fine.{Bytes}
use Rattle.out.specs.Encode.{pack, frames_words, chunks_of, burst_words, frame_words}
use Rattle.inbox.specs.Messages.{framed}
use Rattle.roster.specs.Members.{tally}
use Rattle.roster.specs.Relays.{heard_at, best_high, relay_src_for, turn_over}
use Rattle.queue.specs.Queues.{is_due, space_refusal, bytes_from, put_bytes}
use Rattle.net.specs.declared.Settings.{Settings}
use Rattle.net.specs.Net.{is_member, new_station, on_tx_done}
use Rattle.admit.specs.Admission.{seat_of, find_call, leads_to}
use Rattle.bursts.specs.Rows.{mask_where, rows_on, least_reach, least_direct}
use Rattle.bursts.specs.Bursts.{head_words, poll_burst, acks_burst, beacon_rows, beacon_payload, beyond, beacon_of, tell_all, list_sent, rx_list_burst}
use Rattle.bursts.specs.Direct.{directed_to, down_frames, down_burst, direct_burst}
use Rattle.bursts.specs.Reroute.{tried_of, source_for, promote_at, promote_all, move_at, move_all, reroute_of}
use Rattle.next.specs.Next.{poll_stage, list_for, draw_stage, reroute_stage, round_end, act_of, window_stage, again_stage, missed_stage, due_of, ncs_next}
use Rattle.frames.specs.Control.{each_entry, report_frame}
use Rattle.frames.specs.Frames.{control_by, read_frame, frame_step, read_frames}
use Rattle.rx.specs.Ending.{idle_end, reply_end}
use Rattle.rx.specs.Reception.{ncs_rx}
use Rattle.signoff.specs.SignOff.{bereave_at, bereave_all, clear_at, clear_all, unhear_at, unhear_all, sign_off}
use Rattle.station.specs.SignOff.{sign_off_refusal, sign_off_of}
use Rattle.station.specs.Entries.{admit_refusal, admit_of, receive_refusal, receive_of, next_refusal, next_of, post_refusal, post_of, sent_of}
use Rattle.promise.specs.Promise.{handed, net, Call, admission, reception, decision, posting, sending, signing, result, outcome, step}
use Rattle.promise.proofs.TurnsRun.{nil, far}
use Rattle.laws.specs.Directed.{Desk, opened, also_told, told_by, desk_after, QueuesLent}

-- every time 0 but the beacon's; two frames a burst, of two bytes each
abbrev settings : Settings
settings =
    record { turnaround = nil; maxburst = nil; replyslack = nil; detect = nil; beaconevery = far; quickbeacon = far; idleroundgap = nil; durations = replicate 4 nil; thresholds = replicate 17 nil; margin = nil; relaysnr = nil; misslimit = 2; beaconlevel = 0; windowslots = 0; call = replicate 7 32; name = replicate 6 32; prime = false; lead = nil; latency = nil; rooms = replicate 17 2; payloads = replicate 17 2 }

-- the queue at first, after the message 104 105, and after the message 33
abbrev none : List ℕ
none = replicate 126976 0

abbrev one : List ℕ
one = put_bytes none 0 0 (framed (104 ∷ 105 ∷ []))

abbrev two : List ℕ
two = put_bytes one 0 4 (framed (33 ∷ []))

abbrev from : Desk
from = opened (net (new_station settings 1) (replicate 6400 7)) none

abbrev joins : Call
joins = admission (0 ∷ 0 ∷ 0 ∷ 0 ∷ 1 ∷ []) 63 nil 8192

-- the boat in slot 0 says K_IDLE; and a report of it that it holds two bytes
abbrev idle : Call
idle = reception (burst_words (record { head = record { code = tiny; hi = k_idle; extra = 0 }; frames = [] })) nil nil handed 8192 []

abbrev holds_two : Call
holds_two = reception (burst_words (record { head = record { code = 0; hi = 8; extra = 0 }; frames = heard 191 0 (c_report ∷ 0 ∷ 0 ∷ 0 ∷ 0 ∷ 0 ∷ 0 ∷ 0 ∷ 0 ∷ 2 ∷ 0 ∷ 0 ∷ []) ∷ [] })) nil nil handed 8192 (0 ∷ [])

abbrev desk : List Call → Desk → Desk
desk [] d = d
desk (c ∷ cs) d = desk cs (desk_after c d)

-- the boat joins, the message is posted, the beacon is sent
abbrev before : List Call
before = joins ∷ posting 0 (104 ∷ 105 ∷ []) none ∷ decision nil one 8192 ∷ sending nil ∷ []

-- word back goes out; the boat holds two bytes; one more message; the poll, K_IDLE
abbrev between : List Call
between = decision nil one 8192 ∷ sending nil ∷ holds_two ∷ posting 0 (33 ∷ []) one ∷ decision nil two 8192 ∷ sending nil ∷ idle ∷ []

abbrev at : Desk
at = desk before from

abbrev then : Desk
then = desk between at

-- the boat signs off, another takes its slot, and word is posted to it; then the acknowledgement
abbrev three : List ℕ
three = put_bytes two 0 0 (framed (8 ∷ []))

abbrev next_boat : List Call
next_boat = signing 0 ∷ joins ∷ posting 0 (8 ∷ []) two ∷ decision nil three 8192 ∷ sending nil ∷ []

abbrev later : Desk
later = desk next_boat then

-- a message that is no bytes
abbrev wide : Desk
wide = desk (joins ∷ posting 0 (300 ∷ []) none ∷ decision nil (put_bytes none 0 0 (framed (300 ∷ []))) 8192 ∷ sending nil ∷ []) from

pub record DirectedTrace : Type 0 where
  -- the first burst: the bytes from 0 on, in two frames
  pub sent : (outcome (decision nil one 8192) at.net).words ≡ head_words 0 0 0 0 ++ (frame_words 64 0 (2 ∷ 0 ∷ []) ++ frame_words 64 2 (104 ∷ 105 ∷ []))
  -- what was posted, and what was reported
  pub posted : then.posted 0 ≡ 2 ∷ 0 ∷ 104 ∷ 105 ∷ 1 ∷ 0 ∷ 33 ∷ []
  pub told : then.told 0 ≡ 2
  -- the next round's: from byte 2 on
  pub again : (outcome (decision nil two 8192) then.net).words ≡ head_words 0 0 0 0 ++ (frame_words 64 2 (104 ∷ 105 ∷ []) ++ frame_words 64 4 (1 ∷ 0 ∷ []))
  -- the slot's next holder: nothing of the former boat's
  pub anew : later.posted 0 ≡ 1 ∷ 0 ∷ 8 ∷ []
  pub untold : later.told 0 ≡ 0
  pub next_holder : (outcome (decision nil three 8192) later.net).words ≡ head_words 0 0 0 0 ++ (frame_words 64 0 (1 ∷ 0 ∷ []) ++ frame_words 64 2 (8 ∷ []))
  -- where somebody else wrote the queue, and where a message is no bytes, other bytes are sent
  pub overwritten : (outcome (decision nil none 8192) at.net).words ≡ head_words 0 0 0 0 ++ (frame_words 64 0 (0 ∷ 0 ∷ []) ++ frame_words 64 2 (0 ∷ 0 ∷ []))
  pub too_wide : (outcome (decision nil wide.queue 8192) wide.net).words ≡ head_words 0 0 0 0 ++ (frame_words 64 0 (1 ∷ 0 ∷ []) ++ frame_words 64 2 (44 ∷ []))

pub directed_trace : DirectedTrace
unfolding size units round sum add sub mul lt le eq of_int of_bits first fold every any has_bit with_bit without_bit both_of either_of minus_of lowest_bit lowest_free slots_of stop level_below digit char trim_start trim_end unpacked shifted field_db snr_from_q word_ok payload_ok unpack payload frame_of item_at frames_of head_ok parse pack frames_words chunks_of tally heard_at best_high relay_src_for turn_over is_member new_station on_tx_done seat_of find_call leads_to poll_burst acks_burst beacon_rows beacon_payload beyond beacon_of tell_all list_sent rx_list_burst tried_of source_for promote_at promote_all move_at move_all reroute_of mask_where rows_on least_reach least_direct poll_stage directed_to is_due list_for draw_stage reroute_stage round_end act_of window_stage again_stage missed_stage due_of ncs_next each_entry report_frame control_by read_frame frame_step read_frames idle_end reply_end ncs_rx admit_refusal admit_of receive_refusal receive_of next_refusal next_of post_refusal post_of space_refusal bytes_from put_bytes down_frames down_burst direct_burst sent_of result step desk_after also_told told_by bereave_at bereave_all clear_at clear_all unhear_at unhear_all sign_off sign_off_refusal sign_off_of
directed_trace = record { sent = refl; posted = refl; told = refl; again = refl; anew = refl; untold = refl; next_holder = refl; overwritten = refl; too_wide = refl }

-- the run meets the premises
hi : Bytes (104 ∷ 105 ∷ [])
hi = Bytes.more {b = 104} (omega arith) (Bytes.more {b = 105} (omega arith) Bytes.none)

more : Bytes (33 ∷ [])
more = Bytes.more {b = 33} (omega arith) Bytes.none

pub trace_lent : QueuesLent (before ++ (between ++ (decision nil two 8192 ∷ []))) from
unfolding size units round sum add sub mul lt le eq of_int of_bits first fold every any has_bit with_bit without_bit both_of either_of minus_of lowest_bit lowest_free slots_of stop level_below digit char trim_start trim_end unpacked shifted field_db snr_from_q word_ok payload_ok unpack payload frame_of item_at frames_of head_ok parse pack frames_words chunks_of tally heard_at best_high relay_src_for turn_over is_member new_station on_tx_done seat_of find_call leads_to poll_burst acks_burst beacon_rows beacon_payload beyond beacon_of tell_all list_sent rx_list_burst tried_of source_for promote_at promote_all move_at move_all reroute_of mask_where rows_on least_reach least_direct poll_stage directed_to is_due list_for draw_stage reroute_stage round_end act_of window_stage again_stage missed_stage due_of ncs_next each_entry report_frame control_by read_frame frame_step read_frames idle_end reply_end ncs_rx admit_refusal admit_of receive_refusal receive_of next_refusal next_of post_refusal post_of space_refusal bytes_from put_bytes down_frames down_burst direct_burst sent_of result step desk_after also_told told_by QueuesLent
trace_lent =
    (tt, (((λ _. refl), hi), ((λ _. refl), (tt, ((λ _. refl), (tt, (tt, (((λ _. refl), more), ((λ _. refl), (tt, (tt, ((λ _. refl), tt))))))))))))
