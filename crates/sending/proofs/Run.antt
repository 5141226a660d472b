-- The definitions run on steps that meet the premises: a message in two pieces, of which the first is lost, sent again and acknowledged. So the theorem is not
-- empty. Each by computation; assumes nothing.
use Rattle.std.specs.Prelude.{Some, None}
use mathlib.Core.Path.{◌≡◌, refl, sym, subst}
use mathlib.Core.Bool.{false}
use mathlib.Core.List.{List, [], ◌∷◌}
use mathlib.Core.Logic.{inl, inr}
use Prim.Native.Nat.{ℕ, zero, suc}
use native.Mathlib.Omega.{arith}
use lib.IntN.{pos}
use lib.ListN.{get_or, replicate}
use lib.Ieee.{Float, fin, size, units, round, sum, add, mul, lt, le, of_int, of_bits}
use Rattle.bits.specs.Loop.{first, fold, every, any}
use Rattle.bits.specs.Mask.{has_bit, with_bit, without_bit, both_of, either_of, minus_of, lowest_bit, lowest_free, slots_of}
use Rattle.bits.specs.Stop.{stop}
use Rattle.level.specs.Levels.{level_below}
use Rattle.level.specs.Order.{total_lt}
use Rattle.wire.specs.Kinds.{tiny, k_pollack, k_ack}
use Rattle.wire.specs.Call.{digit, char, trim_start, trim_end, unpacked, shifted, pack_call}
use Rattle.wire.specs.Numbers.{widened, widened_at}
use Rattle.words.specs.Words.{Heard, lost, heard, word_ok, payload_ok, unpack, payload, frame_of, item_at, frames_of, head_ok, parse}
use Rattle.out.specs.Encode.{head_word, pack, frames_words, burst_words, chunks_of}
use Rattle.inbox.specs.Cells.{seek, next, grow, settle, store, await}
use Rattle.inbox.specs.Cells as cells
use Rattle.inbox.specs.Messages.{shows_of}
use Rattle.stream.specs.Window.{slide_of, mark_of}
use Rattle.stream.specs.Table.{own_cell, put_of, accept}
use Rattle.roster.specs.Relays.{heard_at, relay_src_for, turn_over}
use Rattle.net.specs.declared.Station.{Station}
use Rattle.net.specs.Net.{is_member, new_station, on_tx_done}
use Rattle.admit.specs.Admission.{seat_of, find_call, leads_to}
use Rattle.bursts.specs.Bursts.{poll_burst, acks_burst, beacon_rows, beacon_payload, beyond, beacon_of, tell_all, list_sent, rx_list_burst}
use Rattle.bursts.specs.Reroute.{tried_of, source_for, promote_at, promote_all, move_at, move_all, reroute_of}
use Rattle.bursts.specs.Rows.{mask_where, rows_on, least_reach, least_direct}
use Rattle.next.specs.Next.{poll_stage, list_for, draw_stage, reroute_stage, round_end, act_of, window_stage, again_stage, due_of, ncs_next}
use Rattle.frames.specs.Pieces.{piece_frame}
use Rattle.frames.specs.Frames.{read_frame, frame_step, read_frames}
use Rattle.rx.specs.Ending.{ack_extra, reply_end}
use Rattle.rx.specs.Reception.{ncs_rx}
use Rattle.config.specs.declared.Given.{Given}
use Rattle.config.specs.Checks.{settings_ok, settings_of, thresholds_ok, payloads_ok}
use Rattle.config.proofs.Laws.{data_alike}
use Rattle.queue.specs.Queues.{is_due}
use Rattle.bursts.specs.Direct.{directed_to}
use Rattle.station.specs.Entries.{start_refusal, admit_refusal, admit_of, receive_refusal, receive_of, next_refusal, next_of, sent_of, read_refusal, cell_refusal, reading_of}
use Rattle.signoff.specs.SignOff.{bereave_at, bereave_all, clear_at, clear_all, unhear_at, unhear_all, sign_off}
use Rattle.station.specs.SignOff.{sign_off_refusal, sign_off_of}
use Rattle.outbox.specs.Outbox.{cut_up, recut, picked, swept, sweep, sweep_out, fresh, fresh_out, lens, take_out, retain, remove, acked}
use Rattle.promise.specs.Promise as item3
use Rattle.promise.specs.Promise.{handed, Net, net, Call, admission, reception, decision, sending, signing, result, started, Stays, cover, also_handed, all_below, book_frame, book_frames, book_ends, events_in}
use Rattle.promise.proofs.Runs.{starts, near, apart}
use Rattle.sending.specs.Runs.{start}
use Rattle.sending.specs.Runs as runs
use Rattle.sending.specs.Sending.{Step, post, take, answer, shore, acks_from, done_by, run_after, bodies_in, posted, sent_by, Ends, stepped, StepsOk, Holds}
use Rattle.sending.specs.Sending as ends
use Rattle.sending.proofs.SendingEnd.{sending_end}

abbrev nil : Float
nil = fin false 0 (pos 0)

abbrev far : Float
far = fin false 1000 (pos 0)

-- every time 0 but the beacon's
abbrev plain : Given
plain =
    record {
      settings = record { turnaround = nil; maxburst = nil; replyslack = nil; detect = nil; beaconevery = far; quickbeacon = far; idleroundgap = nil; durations = replicate 4 nil; thresholds = replicate 17 nil; margin = nil; relaysnr = nil; misslimit = 3; beaconlevel = 0; windowslots = 0; call = replicate 7 32; name = replicate 6 32; prime = false; lead = nil; latency = nil; rooms = replicate 17 0; payloads = replicate 17 0 };
      call = replicate 5 0;
      times = replicate 1088 nil;
      payloads = replicate 17 1;
    }

plain_starts : start_refusal plain 6400 ≡ 0
unfolding start_refusal settings_ok thresholds_ok payloads_ok every size units round sum add mul lt le of_int of_bits
plain_starts = rw (data_alike nil refl)

abbrev bytes : List ℕ
bytes = replicate 6400 7

abbrev hi : List ℕ
hi = 104 ∷ 105 ∷ []

abbrev next_call : Call
next_call = decision nil (replicate 126976 0) 8192

abbrev sent_call : Call
sent_call = sending nil

abbrev hears : ℕ → List Heard → List ℕ → Call
hears hi fs numbers = reception (burst_words (record { head = record { code = 0; hi = hi; extra = 0 }; frames = fs })) nil nil handed 8192 numbers

-- boat A is admitted to slot 0, posts a message and is polled; its first burst has two pieces of two bytes, of which the first is lost, and more is to come
abbrev opening : List Step → List Step
opening es =
    shore (admission (pack_call (65 ∷ 32 ∷ 32 ∷ 32 ∷ 32 ∷ 32 ∷ 32 ∷ [])) 63 nil 8192)
    ∷ post (104 ∷ 105 ∷ []) 16384
    ∷ shore next_call
    ∷ shore sent_call
    ∷ shore next_call
    ∷ shore sent_call
    ∷ take 2 64 8192 16384 16384
    ∷ shore (hears 4 (lost ∷ heard 0 2 (104 ∷ 105 ∷ []) ∷ []) (0 ∷ 0 ∷ []))
    ∷ es

-- the second is acknowledged; the first is sent again, and acknowledged too
abbrev steps : List Step
steps =
    opening
    (answer (head_word tiny k_pollack (ack_extra 0 0 2)) 0 (Some 0 ∷ Some 1 ∷ []) 0 16384 16384
    ∷ shore sent_call
    ∷ take 255 64 8192 16384 16384
    ∷ shore (hears 1 (heard 0 0 (2 ∷ 0 ∷ []) ∷ []) (0 ∷ []))
    ∷ answer (head_word tiny k_ack (ack_extra 0 1 1)) 1 (Some 0 ∷ []) 1 16384 16384
    ∷ [])

abbrev M : Stays
M = sent_by 0 ((104 ∷ 105 ∷ []) ∷ [])

abbrev begin : Ends
begin = ends.fresh (net (new_station (settings_of plain) 1) bytes)

unfoldable pub after : List Step → Ends → Ends
after [] x = x
after (e ∷ es) x = after es (stepped M e x)

-- the message is the one posted; at the end the sending end holds none, and it has landed
pub record HiRun : Type 0 where
  pub posts : posted steps start ≡ (104 ∷ 105 ∷ []) ∷ []
  pub holds : (after steps begin).run.box.msgs ≡ []
  pub lands : (after steps begin).landings
      ≡ record { message = record { slot = 0; number = 0 }; event = record { slot = 0; cell = 0; number = 0 }; bytes = 104 ∷ 105 ∷ [] } ∷ []

pub hi_run : HiRun
unfolding after size units round sum add mul lt le of_int of_bits first fold every any has_bit with_bit without_bit both_of either_of minus_of lowest_bit lowest_free slots_of stop level_below total_lt digit char trim_start trim_end unpacked shifted widened widened_at word_ok payload_ok unpack payload frame_of item_at frames_of head_ok parse pack frames_words chunks_of seek next grow settle store await cells.accept shows_of slide_of mark_of own_cell put_of accept heard_at relay_src_for turn_over is_member new_station on_tx_done seat_of find_call leads_to poll_burst acks_burst beacon_rows beacon_payload beyond beacon_of tell_all list_sent rx_list_burst tried_of source_for promote_at promote_all move_at move_all reroute_of mask_where rows_on least_reach least_direct poll_stage directed_to is_due list_for draw_stage reroute_stage round_end act_of window_stage again_stage due_of ncs_next piece_frame read_frame frame_step read_frames reply_end ncs_rx admit_refusal admit_of receive_refusal receive_of next_refusal next_of sent_of read_refusal cell_refusal reading_of cut_up recut picked swept sweep sweep_out fresh fresh_out lens take_out retain remove acked result item3.step cover also_handed all_below book_frame book_frames events_in acks_from done_by run_after bodies_in posted stepped runs.step
hi_run = record { posts = refl; holds = refl; lands = refl }

-- ---- premises that are needed

-- its acknowledgement is of frame 1; taken for a burst whose frame 1 is piece 0, it lets the message go though piece 0 never came
abbrev mistaken : List Step
mistaken =
    opening
    (answer (head_word tiny k_pollack (ack_extra 0 0 2)) 0 (None ∷ Some 0 ∷ []) 0 16384 16384
    ∷ answer (head_word tiny k_pollack (ack_extra 0 0 2)) 0 (None ∷ Some 1 ∷ []) 0 16384 16384
    ∷ [])

pub record Mistaken : Type 0 where
  pub holds : (after mistaken begin).run.box.msgs ≡ []
  pub handed : (after mistaken begin).book.ledger.handed 0 0 ≡ false

-- so an acknowledgement has to be taken for the burst it was made for
pub mistaken_run : Mistaken
unfolding after size units round sum add mul lt le of_int of_bits first fold every any has_bit with_bit without_bit both_of either_of minus_of lowest_bit lowest_free slots_of stop level_below total_lt digit char trim_start trim_end unpacked shifted widened widened_at word_ok payload_ok unpack payload frame_of item_at frames_of head_ok parse pack frames_words chunks_of seek next grow settle store await cells.accept shows_of slide_of mark_of own_cell put_of accept heard_at relay_src_for turn_over is_member new_station on_tx_done seat_of find_call leads_to poll_burst acks_burst beacon_rows beacon_payload beyond beacon_of tell_all list_sent rx_list_burst tried_of source_for promote_at promote_all move_at move_all reroute_of mask_where rows_on least_reach least_direct poll_stage directed_to is_due list_for draw_stage reroute_stage round_end act_of window_stage again_stage due_of ncs_next piece_frame read_frame frame_step read_frames reply_end ncs_rx admit_refusal admit_of receive_refusal receive_of next_refusal next_of sent_of read_refusal cell_refusal reading_of cut_up recut picked swept sweep sweep_out fresh fresh_out lens take_out retain remove acked result item3.step cover also_handed all_below book_frame book_frames events_in acks_from done_by run_after bodies_in posted stepped runs.step
mistaken_run = record { holds = refl; handed = refl }

-- the boat signs off as its message has landed: the book forgets it, and then the sending end lets it go
abbrev gone : List Step
gone =
    opening
    (answer (head_word tiny k_pollack (ack_extra 0 0 2)) 0 (Some 0 ∷ Some 1 ∷ []) 0 16384 16384
    ∷ shore sent_call
    ∷ take 255 64 8192 16384 16384
    ∷ shore (hears 1 (heard 0 0 (2 ∷ 0 ∷ []) ∷ []) (0 ∷ []))
    ∷ shore (signing 0)
    ∷ answer (head_word tiny k_ack (ack_extra 0 1 1)) 1 (Some 0 ∷ []) 1 16384 16384
    ∷ [])

pub record Gone : Type 0 where
  pub holds : (after gone begin).run.box.msgs ≡ []
  pub handed : (after gone begin).book.ledger.handed 0 0 ≡ false

-- so the boat may not sign off
pub gone_run : Gone
unfolding after sign_off_refusal sign_off_of sign_off bereave_at bereave_all clear_all clear_at unhear_all unhear_at book_ends size units round sum add mul lt le of_int of_bits first fold every any has_bit with_bit without_bit both_of either_of minus_of lowest_bit lowest_free slots_of stop level_below total_lt digit char trim_start trim_end unpacked shifted widened widened_at word_ok payload_ok unpack payload frame_of item_at frames_of head_ok parse pack frames_words chunks_of seek next grow settle store await cells.accept shows_of slide_of mark_of own_cell put_of accept heard_at relay_src_for turn_over is_member new_station on_tx_done seat_of find_call leads_to poll_burst acks_burst beacon_rows beacon_payload beyond beacon_of tell_all list_sent rx_list_burst tried_of source_for promote_at promote_all move_at move_all reroute_of mask_where rows_on least_reach least_direct poll_stage directed_to is_due list_for draw_stage reroute_stage round_end act_of window_stage again_stage due_of ncs_next piece_frame read_frame frame_step read_frames reply_end ncs_rx admit_refusal admit_of receive_refusal receive_of next_refusal next_of sent_of read_refusal cell_refusal reading_of cut_up recut picked swept sweep sweep_out fresh fresh_out lens take_out retain remove acked result item3.step cover also_handed all_below book_frame book_frames events_in acks_from done_by run_after bodies_in posted stepped runs.step
gone_run = record { holds = refl; handed = refl }

some_is : (a b : ℕ) → Some a ≡ Some b → a ≡ b
some_is a b q = cc

not_some : {A : Type 0} (b : ℕ) → None ≡ Some b → A
not_some b q = absurd (let z : ◌≡◌ {A = ℕ} 0 1 = cc in omega arith)

-- which frames of a burst carried which pieces
two_cases : (P : ℕ → ℕ → Type 0) → P 0 0 → P 1 1 → (i j : ℕ) → get_or (Some 0 ∷ Some 1 ∷ []) i None ≡ Some j → P i j
two_cases P a b zero j q = subst (P 0) (some_is 0 j q) a
two_cases P a b (suc zero) j q = subst (P 1) (some_is 1 j q) b
two_cases P a b (suc (suc i)) j q = not_some j q

one_case : (P : ℕ → ℕ → Type 0) → P 0 0 → (i j : ℕ) → get_or (Some 0 ∷ []) i None ≡ Some j → P i j
one_case P a zero j q = subst (P 0) (some_is 0 j q) a
one_case P a (suc i) j q = not_some j q

-- the premises hold: the frames of each reception are pieces sent before, and each acknowledgement is taken for the burst of that reception
pub hi_ok : StepsOk 0 M steps begin
unfolding StepsOk size units round sum add mul lt le of_int of_bits first fold every any has_bit with_bit without_bit both_of either_of minus_of lowest_bit lowest_free slots_of stop level_below total_lt digit char trim_start trim_end unpacked shifted widened widened_at word_ok payload_ok unpack payload frame_of item_at frames_of head_ok parse pack frames_words chunks_of seek next grow settle store await cells.accept shows_of slide_of mark_of own_cell put_of accept heard_at relay_src_for turn_over is_member new_station on_tx_done seat_of find_call leads_to poll_burst acks_burst beacon_rows beacon_payload beyond beacon_of tell_all list_sent rx_list_burst tried_of source_for promote_at promote_all move_at move_all reroute_of mask_where rows_on least_reach least_direct poll_stage directed_to is_due list_for draw_stage reroute_stage round_end act_of window_stage again_stage due_of ncs_next piece_frame read_frame frame_step read_frames reply_end ncs_rx admit_refusal admit_of receive_refusal receive_of next_refusal next_of sent_of read_refusal cell_refusal reading_of cut_up recut picked swept sweep sweep_out fresh fresh_out lens take_out retain remove acked result item3.step cover also_handed all_below book_frame book_frames events_in acks_from done_by run_after bodies_in posted stepped runs.step
hi_ok = (
  tt,
  (
    (λ q. omega arith),
    (
      tt,
      (
        tt,
        (
          tt,
          (
            tt,
            (
              tt,
              (
                (tt, λ r. (tt, ((λ m e. record { b = 0; j = 1; sent = (omega arith, omega arith); same = record { number_is = refl; field_is = refl; bytes_are = refl }; near = λ n w. near 0 n (omega arith) (λ b. apart (w.1 1 b)) }), tt))),
                (
                  record { came = inl refl; returned = inl refl; ack = refl; carried = two_cases _ ((omega arith, omega arith), tt) ((omega arith, omega arith), (refl, record { number_is = refl; field_is = refl; bytes_are = refl })) },
                  (
                    tt,
                    (
                      tt,
                      (
                        (tt, λ r. ((λ m e. record { b = 1; j = 0; sent = (omega arith, omega arith); same = record { number_is = refl; field_is = refl; bytes_are = refl }; near = λ n w. near 0 n (omega arith) (λ b. apart (w.1 1 b)) }), tt)),
                        (record { came = inr (inl refl); returned = inr (inl refl); ack = refl; carried = one_case _ ((omega arith, omega arith), (refl, record { number_is = refl; field_is = refl; bytes_are = refl })) }, tt),
                      ),
                    ),
                  ),
                ),
              ),
            ),
          ),
        ),
      ),
    ),
  ),
)

-- and so does what is promised
pub hi_promised : (s : Station) → Holds 0 (posted steps start) (sent_by 0 (posted steps start)) steps (ends.fresh (started s plain bytes))
hi_promised s =
    sending_end s plain bytes plain_starts 0 (omega arith) steps
    (subst (λ (b : List (List ℕ)). StepsOk 0 (sent_by 0 b) steps (ends.fresh (started s plain bytes))) (sym hi_run.posts)
    (subst (λ (n : Net). StepsOk 0 M steps (ends.fresh n)) (starts s plain bytes plain_starts) hi_ok))

-- ---- another boat breaks what item 3 asks of its own messages

-- boat B is admitted too, and sends byte 2 of its number 0 as 104 and as 111, beside this boat's pieces
abbrev noisy : List Step
noisy =
    shore (admission (pack_call (65 ∷ 32 ∷ 32 ∷ 32 ∷ 32 ∷ 32 ∷ 32 ∷ [])) 63 nil 8192)
    ∷ post (104 ∷ 105 ∷ []) 16384
    ∷ shore next_call
    ∷ shore sent_call
    ∷ shore next_call
    ∷ shore sent_call
    ∷ shore (admission (pack_call (66 ∷ 32 ∷ 32 ∷ 32 ∷ 32 ∷ 32 ∷ 32 ∷ [])) 63 nil 8192)
    ∷ take 2 64 8192 16384 16384
    ∷ shore (hears 4 (lost ∷ heard 0 2 (104 ∷ 105 ∷ []) ∷ heard 1 0 (2 ∷ 0 ∷ 104 ∷ []) ∷ heard 1 2 (111 ∷ 105 ∷ []) ∷ []) (0 ∷ 0 ∷ 0 ∷ 0 ∷ []))
    ∷ answer (head_word tiny k_pollack (ack_extra 0 0 14)) 0 (Some 0 ∷ Some 1 ∷ []) 0 16384 16384
    ∷ shore sent_call
    ∷ take 255 64 8192 16384 16384
    ∷ shore (hears 1 (heard 0 0 (2 ∷ 0 ∷ []) ∷ []) (0 ∷ []))
    ∷ answer (head_word tiny k_ack (ack_extra 0 1 1)) 1 (Some 0 ∷ []) 1 16384 16384
    ∷ []

abbrev room : Ends
room = ends.fresh (net (new_station (settings_of plain) 2) (replicate 12800 7))

-- B's lands too, in the other cell, as it happened to come; this boat's is as it was posted
pub record NoisyRun : Type 0 where
  pub posts : posted noisy start ≡ (104 ∷ 105 ∷ []) ∷ []
  pub holds : (after noisy room).run.box.msgs ≡ []
  pub lands : (after noisy room).landings
      ≡ record { message = record { slot = 1; number = 0 }; event = record { slot = 1; cell = 1; number = 0 }; bytes = 104 ∷ 105 ∷ [] }
      ∷ record { message = record { slot = 0; number = 0 }; event = record { slot = 0; cell = 0; number = 0 }; bytes = 104 ∷ 105 ∷ [] }
      ∷ []

pub noisy_run : NoisyRun
unfolding after size units round sum add mul lt le of_int of_bits first fold every any has_bit with_bit without_bit both_of either_of minus_of lowest_bit lowest_free slots_of stop level_below total_lt digit char trim_start trim_end unpacked shifted widened widened_at word_ok payload_ok unpack payload frame_of item_at frames_of head_ok parse pack frames_words chunks_of seek next grow settle store await cells.accept shows_of slide_of mark_of own_cell put_of accept heard_at relay_src_for turn_over is_member new_station on_tx_done seat_of find_call leads_to poll_burst acks_burst beacon_rows beacon_payload beyond beacon_of tell_all list_sent rx_list_burst tried_of source_for promote_at promote_all move_at move_all reroute_of mask_where rows_on least_reach least_direct poll_stage directed_to is_due list_for draw_stage reroute_stage round_end act_of window_stage again_stage due_of ncs_next piece_frame read_frame frame_step read_frames reply_end ncs_rx admit_refusal admit_of receive_refusal receive_of next_refusal next_of sent_of read_refusal cell_refusal reading_of cut_up recut picked swept sweep sweep_out fresh fresh_out lens take_out retain remove acked result item3.step cover also_handed all_below book_frame book_frames events_in acks_from done_by run_after bodies_in posted stepped runs.step
noisy_run = record { posts = refl; holds = refl; lands = refl }

-- and the premises hold, which ask nothing of B's pieces
pub noisy_ok : StepsOk 0 M noisy room
unfolding StepsOk size units round sum add mul lt le of_int of_bits first fold every any has_bit with_bit without_bit both_of either_of minus_of lowest_bit lowest_free slots_of stop level_below total_lt digit char trim_start trim_end unpacked shifted widened widened_at word_ok payload_ok unpack payload frame_of item_at frames_of head_ok parse pack frames_words chunks_of seek next grow settle store await cells.accept shows_of slide_of mark_of own_cell put_of accept heard_at relay_src_for turn_over is_member new_station on_tx_done seat_of find_call leads_to poll_burst acks_burst beacon_rows beacon_payload beyond beacon_of tell_all list_sent rx_list_burst tried_of source_for promote_at promote_all move_at move_all reroute_of mask_where rows_on least_reach least_direct poll_stage directed_to is_due list_for draw_stage reroute_stage round_end act_of window_stage again_stage due_of ncs_next piece_frame read_frame frame_step read_frames reply_end ncs_rx admit_refusal admit_of receive_refusal receive_of next_refusal next_of sent_of read_refusal cell_refusal reading_of cut_up recut picked swept sweep sweep_out fresh fresh_out lens take_out retain remove acked result item3.step cover also_handed all_below book_frame book_frames events_in acks_from done_by run_after bodies_in posted stepped runs.step
noisy_ok = (
  tt,
  (
    (λ q. omega arith),
    (
      tt,
      (
        tt,
        (
          tt,
          (
            tt,
            (
              tt,
              (
                tt,
                (
                  (
                    tt,
                    λ r. (
                      tt,
                      (
                        (λ m e. record { b = 0; j = 1; sent = (omega arith, omega arith); same = record { number_is = refl; field_is = refl; bytes_are = refl }; near = λ n w. near 0 n (omega arith) (λ b. apart (w.1 1 b)) }),
                        ((λ m e. absurd (omega arith)), ((λ m e. absurd (omega arith)), tt)),
                      ),
                    ),
                  ),
                  (
                    record { came = inl refl; returned = inr (inr (inl refl)); ack = refl; carried = two_cases _ ((omega arith, omega arith), tt) ((omega arith, omega arith), (refl, record { number_is = refl; field_is = refl; bytes_are = refl })) },
                    (
                      tt,
                      (
                        tt,
                        (
                          (tt, λ r. ((λ m e. record { b = 1; j = 0; sent = (omega arith, omega arith); same = record { number_is = refl; field_is = refl; bytes_are = refl }; near = λ n w. near 0 n (omega arith) (λ b. apart (w.1 1 b)) }), tt)),
                          (record { came = inr (inl refl); returned = inr (inl refl); ack = refl; carried = one_case _ ((omega arith, omega arith), (refl, record { number_is = refl; field_is = refl; bytes_are = refl })) }, tt),
                        ),
                      ),
                    ),
                  ),
                ),
              ),
            ),
          ),
        ),
      ),
    ),
  ),
)
