-- The definitions run from a start on: boat B in slot 1, relayed by A in slot 0, is heard once, 32 and 33 times, the lowest falling out, at -0 and +0; its window is
-- emptied by promotion, by a children entry of 63, and by the sign-off of its relay. By computation; assumes nothing.
use Rattle.std.specs.Prelude.{Result, Ok, Err}
use mathlib.Core.Path.{◌≡◌, refl}
use mathlib.Core.Bool.{true, false}
use mathlib.Core.List.{List, [], ◌∷◌, ◌++◌}
use Prim.Native.Nat.{ℕ, zero, suc, ◌+◌}
use lib.IntN.{pos}
use lib.Ieee.{Float, fin, size, units, round, sum, add, mul, lt, le, eq, of_int, of_bits}
use Rattle.bits.specs.Loop.{first, fold, every, any}
use Rattle.bits.specs.Mask.{has_bit, with_bit, without_bit, both_of, either_of, minus_of, lowest_bit, lowest_free, slots_of}
use Rattle.bits.specs.Stop.{stop}
use Rattle.level.specs.declared.Level.{Level}
use Rattle.level.specs.declared.Level.TheVariants.{Unheard, Decibels}
use Rattle.level.specs.Levels.{level_below}
use Rattle.level.specs.Order.{total_lt}
use Rattle.recent.specs.Readings.{least_from, back_from, readings, worst}
use Rattle.wire.specs.Call.{digit, char, trim_start, trim_end, unpacked, shifted}
use Rattle.wire.specs.Fields.{field_db, snr_from_q}
use Rattle.wire.specs.Kinds.{tiny, k_idle, c_kids}
use Rattle.words.specs.Words.{heard, word_ok, payload_ok, unpack, payload, frame_of, item_at, frames_of, head_ok, parse}
use Rattle.out.specs.Encode.{pack, frames_words, chunks_of, burst_words}
use Rattle.roster.specs.Members.{tally}
use Rattle.roster.specs.Relays.{heard_at, best_high, relay_src_for, turn_over}
use Rattle.net.specs.State.{member_at}
use Rattle.net.specs.Net.{is_member, new_station, on_tx_done}
use Rattle.admit.specs.Admission.{seat_of, find_call, leads_to}
use Rattle.bursts.specs.Bursts.{poll_burst, acks_burst, beacon_rows, beacon_payload, beyond, beacon_of, tell_all, list_sent, rx_list_burst}
use Rattle.queue.specs.Queues.{is_due}
use Rattle.bursts.specs.Direct.{directed_to}
use Rattle.bursts.specs.Reroute.{tried_of, source_for, promote_at, promote_all, move_at, move_all, reroute_of}
use Rattle.bursts.specs.Rows.{mask_where, rows_on, least_reach, least_direct}
use Rattle.next.specs.Next.{poll_stage, list_for, draw_stage, reroute_stage, round_end, act_of, window_stage, again_stage, missed_stage, due_of, ncs_next}
use Rattle.frames.specs.Control.{each_entry, kid_entry, kids_frame}
use Rattle.frames.specs.Frames.{control_by, read_frame, frame_step, read_frames}
use Rattle.rx.specs.Ending.{idle_end, reply_end}
use Rattle.rx.specs.Reception.{ncs_rx}
use Rattle.refusal.specs.declared.Refusal.{Refusal}
use Rattle.refusal.specs.declared.Refusal.TheVariants as why
use Rattle.station.specs.Entries.{admit_refusal, admit_of, receive_refusal, receive_of, next_refusal, next_of, sent_of}
use Rattle.signoff.specs.SignOff.{bereave_at, bereave_all, clear_at, clear_all, unhear_at, unhear_all, sign_off}
use Rattle.station.specs.SignOff.{sign_off_refusal, sign_off_of}
use Rattle.station.specs.Worst.{worst_of}
use Rattle.promise.proofs.TurnsRun.{nil, next}
use Rattle.laws.proofs.SilentRun.{from}
use Rattle.promise.specs.Promise.{handed, Call, admission, reception, sending, signing, result, step, after}

abbrev minus : Float
minus = fin true 0 (pos 0)

abbrev high : Float
high = fin false 10 (pos 0)

abbrev low : Float
low = fin true 10 (pos 0)

abbrev both : List Call
both = admission (0 ∷ 0 ∷ 0 ∷ 0 ∷ 1 ∷ []) 63 nil 8192 ∷ admission (0 ∷ 0 ∷ 0 ∷ 0 ∷ 2 ∷ []) 0 nil 8192 ∷ []

-- K_IDLE from B, received at a level
abbrev idle : Float → Call
idle x = reception (burst_words (record { head = record { code = tiny; hi = k_idle; extra = 1 }; frames = [] })) x nil handed 8192 []

abbrev again : ℕ → Float → List Call
again zero x = []
again (suc n) x = idle x ∷ again n x

-- A's children: B reached, with this level field
abbrev kids : ℕ → Call
kids q = reception (burst_words (record { head = record { code = 0; hi = 0; extra = 0 }; frames = heard 128 0 (c_kids ∷ 1 ∷ (128 + q) ∷ []) ∷ [] })) nil nil handed 8192 (0 ∷ [])

-- the first beacon, and the decision that reroutes
abbrev promotes : List Call
promotes = next ∷ sending nil ∷ next ∷ []

abbrev of_b : List Call → Result Level Refusal
of_b cs = worst_of (after (both ++ cs) from).station 1

pub record WorstRun : Type 0 where
  pub nobody : worst_of (after both from).station 2 ≡ Err why.NoMember
  pub no_slot : worst_of (after both from).station 62 ≡ Err why.Slot
  pub none : of_b [] ≡ Ok Unheard
  pub one : of_b (idle low ∷ []) ≡ Ok (Decibels low)
  pub not_smoothed : of_b (idle high ∷ idle low ∷ []) ≡ Ok (Decibels low)
  pub oldest : of_b (idle low ∷ again 31 high) ≡ Ok (Decibels low)
  pub falls_out : of_b (idle low ∷ again 32 high) ≡ Ok (Decibels high)
  pub zeros : of_b (idle minus ∷ idle nil ∷ []) ≡ Ok (Decibels minus)
  pub zeros_back : of_b (idle nil ∷ idle minus ∷ []) ≡ Ok (Decibels minus)
  -- promoted: the up level is the directly heard one, and the window is empty
  pub promoted : (member_at (after (both ++ (idle high ∷ promotes)) from).station 1).via ≡ 63
  pub promotion : of_b (idle high ∷ promotes) ≡ Ok Unheard
  -- a children entry with a level, and one of 63
  pub named : of_b (kids 34 ∷ []) ≡ Ok (Decibels (field_db 34))
  pub unheard : of_b (idle low ∷ kids 63 ∷ []) ≡ Ok Unheard
  pub afterwards : of_b (idle low ∷ kids 63 ∷ idle high ∷ []) ≡ Ok (Decibels high)
  pub relay_gone : of_b (idle low ∷ signing 0 ∷ []) ≡ Ok Unheard
  pub gone : of_b (idle low ∷ signing 1 ∷ []) ≡ Err why.NoMember
  pub next_holder : of_b (idle low ∷ signing 1 ∷ admission (0 ∷ 0 ∷ 0 ∷ 0 ∷ 2 ∷ []) 0 nil 8192 ∷ []) ≡ Ok Unheard

pub worst_run : WorstRun
unfolding size units round sum add mul lt le eq of_int of_bits first fold every any has_bit with_bit without_bit both_of either_of minus_of lowest_bit lowest_free slots_of stop level_below total_lt least_from back_from readings worst digit char trim_start trim_end unpacked shifted field_db snr_from_q word_ok payload_ok unpack payload frame_of item_at frames_of head_ok parse pack frames_words chunks_of tally heard_at best_high relay_src_for turn_over is_member new_station on_tx_done seat_of find_call leads_to poll_burst acks_burst beacon_rows beacon_payload beyond beacon_of tell_all list_sent rx_list_burst tried_of source_for promote_at promote_all move_at move_all reroute_of mask_where rows_on least_reach least_direct poll_stage directed_to is_due list_for draw_stage reroute_stage round_end act_of window_stage again_stage missed_stage due_of ncs_next each_entry kid_entry kids_frame control_by read_frame frame_step read_frames idle_end reply_end ncs_rx admit_refusal admit_of receive_refusal receive_of next_refusal next_of sent_of bereave_at bereave_all clear_at clear_all unhear_at unhear_all sign_off sign_off_refusal sign_off_of worst_of result step after
worst_run =
    record {
      nobody = refl;
      no_slot = refl;
      none = refl;
      one = refl;
      not_smoothed = refl;
      oldest = refl;
      falls_out = refl;
      zeros = refl;
      zeros_back = refl;
      promoted = refl;
      promotion = refl;
      named = refl;
      unheard = refl;
      afterwards = refl;
      relay_gone = refl;
      gone = refl;
      next_holder = refl;
    }
