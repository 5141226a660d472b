-- The theorems `refused_keeps`, a refused call gives back the block that it was given, and `all_given_back`, each exported call gives back what `given_back` says.
-- Assumes nothing.
use Rattle.std.specs.Prelude.{Result, Ok, Err}
use mathlib.Core.Path.{◌≡◌, refl, ap, ◌∙◌}
use mathlib.Core.Bool.{Bool, true, false, cond}
use mathlib.Core.List.{List, []}
use Prim.Native.Nat.{ℕ}
use lib.Dec.{eqb}
use lib.Ieee.{Float}
use lib.ListN.{length}
use borrow.Author.Tests.{ne_eqb}
use Rattle.refusal.specs.Numbers.{number_of}
use Rattle.refusal.proofs.Numbers.{is_number}
use Rattle.bits.proofs.Lists.{cond_keeps}
use Rattle.words.specs.Words.{Burst, Parsed, malformed, parsed, parse}
use Rattle.out.specs.Encode.{after}
use Rattle.wire.specs.Call.{unpack_call}
use Rattle.net.specs.declared.Station.{Station}
use Rattle.net.specs.State.{queue_at}
use Rattle.admit.specs.Admission.{seat_of, is_full}
use Rattle.station.specs.Refusals.{refusal_of}
use Rattle.station.specs.Entries.{Outcome, answer_of, refused, done, unless, answered, heard_of, start_refusal, start_of, admit_refusal, admit_of, receive_by, receive_refusal, receive_of, next_refusal, next_of, post_refusal, post_of, check1, sent_of, close_refusal, close_of, cell_refusal, free_of}
use Rattle.station.specs.SignOff.{sign_off_refusal, sign_off_of}
use Rattle.station.proofs.Numbers.{Known, refusal_again}
use Rattle.station.proofs.Known.{known_start, known_admit, known_receive, known_next, known_post, known_sent, known_close, known_cell, known_sign_off}
use Rattle.shore.specs.declared.answer.Done.{Done}
use Rattle.shore.specs.Blocks.{block_of, station_of}
use Rattle.shore.specs.Calls.{done_of, told, told_heard, given_back, RefusedKeeps, AllGivenBack}
use Rattle.shore.proofs.Faithful.{faithful}

pub block_back : (s : Station) → block_of (station_of (block_of s)) ≡ block_of s
block_back s = ap block_of (faithful s)

pub refused_keeps : RefusedKeeps
refused_keeps =
    record {
      every = λ s n room lent o h. rw (ne_eqb n 0 h, ne_eqb n 0 h, block_back s);
      told_as = λ s n room lent o h. rw (ne_eqb n 0 h, ne_eqb n 0 h, block_back s);
      each = λ s r room lent o. rw (is_number r, is_number r, refusal_again r, block_back s);
    }

-- ---- what the calls give back

-- of an outcome whose refusal has a number of document 01, or none
given : (o : Outcome) (room mask : ℕ) → Known o.refusal → done_of o.station (answer_of o room) mask ≡ given_back o room mask
given o room mask k = go (eqb o.refusal 0) k
  where
    go : (b : Bool) → cond b 0 (number_of (refusal_of o.refusal)) ≡ o.refusal
        → done_of o.station (cond b (Ok (after room 0 (length o.words))) (Err (refusal_of o.refusal))) mask
        ≡ record { block = block_of o.station; words = cond b (after room 0 (length o.words)) 0; mask = mask; refusal = o.refusal }
    go true e = ap {B = Done} (λ (n : ℕ). record { block = block_of o.station; words = after room 0 (length o.words); mask = mask; refusal = n }) e
    go false e = ap {B = Done} (λ (n : ℕ). record { block = block_of o.station; words = 0; mask = mask; refusal = n }) e

call_given : (n : ℕ) (s t : Station) (store store' words : List ℕ) (room : ℕ) → Known n
    → told (answered (unless n s store (done t store' words)) room) ≡ given_back (unless n s store (done t store' words)) room 0
call_given n s t store store' words room k =
    cond_keeps (λ (o : Outcome). told (answered o room) ≡ given_back o room 0) (eqb n 0) (done t store' words) (refused n s store)
    (λ _. refl) (λ _. given (refused n s store) room 0 k)

received_given : (w : Parsed Burst) (s : Station) (snr now : Float) (store : List ℕ) (room : ℕ)
    → told_heard (heard_of (receive_by w s snr now store) room) ≡ given_back (receive_by w s snr now store) room (receive_by w s snr now store).mask
received_given malformed s snr now store room = given (refused 3 s store) room 0 refl
received_given (parsed b) s snr now store room = refl

pub all_given_back : AllGivenBack
unfolding start_of admit_of receive_of next_of post_of sent_of close_of free_of sign_off_of
all_given_back =
    record {
      start = λ s g store. call_given (start_refusal g (length store)) s _ store _ _ 0 (known_start g (length store));
      admission = λ s packed relay now room.
          let full = is_full (seat_of s (unpack_call packed)) in
          call_given (admit_refusal room now s.used relay full) s _ [] _ _ room (known_admit room now s.used relay full);
      reception = λ s words snr now store room.
          let n = receive_refusal room (length store) s.count now snr (parse words) in
          cond_keeps (λ (o : Outcome). told_heard (heard_of o room) ≡ given_back o room o.mask) (eqb n 0) (receive_by (parse words) s snr now store) (refused n s store)
          (λ _. received_given (parse words) s snr now store room)
          (λ _. given (refused n s store) room 0 (known_receive room (length store) s.count now snr (parse words)));
      decision = λ s now queue room. call_given (next_refusal now (length queue) room) s _ [] _ _ room (known_next now (length queue) room);
      sending = λ s now. call_given (check1 now 0) s _ [] _ _ 0 (known_sent now);
      closing = λ s count. call_given (close_refusal count) s _ [] _ _ 0 (known_close count);
      freeing = λ s cell. call_given (cell_refusal s.count s.landed cell) s _ [] _ _ 0 (known_cell s.count s.landed cell);
      posting = λ s slot message queue.
          let q = queue_at s slot in
          call_given (post_refusal (length queue) s.used slot q (length message)) s _ queue _ _ 0 (known_post (length queue) s.used slot q (length message));
      signing = λ s slot. call_given (sign_off_refusal s.used slot) s _ [] _ _ 0 (known_sign_off s.used slot);
    }
