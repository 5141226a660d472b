-- The words of a call fit the output that it must be lent: a reception has 64 frames, each with 127 events at most, and two words of reply; what an admission
-- and a next decision have at most is said in promise's proofs/Short.antt. Assumes nothing.
use Rattle.std.specs.Prelude.{Option, Ok, Err}
use mathlib.Core.Path.{◌≡◌, refl, sym, ap, ◌∙◌}
use Prim.Native.Nat.{ℕ, ◌+◌, ◌*◌, ◌≤◌}
use native.Mathlib.Nat.{zero-add}
use native.Mathlib.Omega.{arith}
use mathlib.Core.Bool.{Bool, true, false, cond, false≢true}
use mathlib.Core.List.{List, [], ◌∷◌, ◌++◌}
use lib.Dec.{eqb, ltb}
use lib.Ieee.{Float}
use lib.ListN.{length, drop, length-append}
use lib.Seq.{sets-eq}
use borrow.Author.Tests.{eqb-true, ltb-false}
use Rattle.bits.proofs.Lists.{cond_keeps}
use Rattle.wire.specs.Call.{unpack_call}
use Rattle.words.specs.Words.{Heard, lost, heard, Burst, Parsed, malformed, parsed, parse}
use Rattle.words.specs.Fine.{AllFine, FineBurst}
use Rattle.words.proofs.Fine.{parse_fine}
use Rattle.out.proofs.Laws.{after_room}
use Rattle.net.specs.declared.Station.{Station}
use Rattle.net.specs.State.{member_at, queue_at}
use Rattle.net.specs.Net.{is_member, Said}
use Rattle.admit.specs.Admission.{seat_of, is_full, via_for}
use Rattle.rx.specs.Reception.{ncs_rx}
use Rattle.refusal.specs.Numbers.{number_in}
use Rattle.station.specs.Refusals.{refusal_of}
use Rattle.station.proofs.Numbers.{Known, number_again}
use Rattle.station.proofs.Known.{known_start, known_admit, known_receive, known_next, known_post, known_sent, known_close, known_cell, known_sign_off}
use Rattle.station.specs.Entries.{Outcome, answer_of, words_in, refused, done, unless, check4, admit_refusal, admit_of, admitted, receive_by, receive_refusal, receive_of, next_refusal, next_of, start_refusal, start_of, post_refusal, post_of, check1, sent_of, close_refusal, close_of, cell_refusal, free_of}
use Rattle.station.specs.SignOff.{sign_off_refusal, sign_off_of}
use Rattle.station.specs.Worst.{worst_of}
use Rattle.next.specs.Next.{ncs_next}
use Rattle.net.specs.declared.Settings.{Settings}
use Rattle.roster.specs.declared.Member.{Member}
use Rattle.bursts.specs.Bursts.{poll_burst}
use Rattle.promise.proofs.Walk.{Allowed}
use Rattle.promise.proofs.WalkCalls.{all}
use Rattle.promise.proofs.WalkWords.{Events, most_in}
use Rattle.promise.proofs.Spoken.{Sends, Spoken, rx_spoken}
use Rattle.promise.proofs.Short.{short_admit, short_next}
use Rattle.dues.proofs.Cases.{refusal_said}
use Rattle.laws.specs.Room.{Fits, AllFit, AllNumbered}

-- ---- a reception: 127 events at most of each frame, and two words of reply

fine_most : (fs : List Heard) → AllFine fs → most_in fs ≤ 127 * length fs
unfolding most_in
fine_most [] AllFine.none = omega arith
fine_most (lost ∷ fs) (AllFine.more h k) = omega (arith, fine_most fs k)
fine_most (heard flags field p ∷ fs) (AllFine.more h k) = omega (arith, h.2, fine_most fs k)

events_most : {M : Type 0} {n : ℕ} {ws : List ℕ} → Events M n ws → length ws ≤ n
events_most Events.none = omega arith
events_most (Events.more l m h e) = omega (arith, events_most e)

abbrev Brief : List ℕ → Type 0
Brief ws = length ws ≤ 2

poll_brief : (g : Settings) (here : Bool) (m : Member) (slot relayfor : ℕ) (robust : Bool) → Brief (poll_burst g here m slot relayfor robust)
unfolding poll_burst
poll_brief g here m slot relayfor robust = cond_keeps Brief here _ _ (λ _. omega arith) (λ _. omega arith)

module _ {now : Float} {lent : List ℕ} where
  -- without frames
  sends_brief : {s : Station} {x : Said} {o : Option ℕ} → Sends ⊥ now lent s x o → Brief x.words
  sends_brief Sends.nothing = omega arith
  sends_brief Sends.closing = omega arith
  sends_brief {s} (Sends.again r e z) = poll_brief s.settings (is_member s.used r.slot) (member_at s r.slot) r.slot r.relayfor true
  sends_brief (Sends.beacon f e) = absurd f
  sends_brief (Sends.acks f e) = absurd f
  sends_brief (Sends.list f e) = absurd f
  sends_brief (Sends.word f e slot here) = absurd f
  sends_brief {s} (Sends.poll e slot h) = poll_brief s.settings (is_member s.used slot) (member_at s slot) slot _ false
  sends_brief (Sends.pollack r n k e l) = omega arith
  sends_brief (Sends.ack r n k e) = omega arith
  sends_brief (Sends.idle r e) = omega arith

  spoken_most : {A : Allowed} {n : ℕ} {s : Station} {x : Said} {a b o : Option ℕ} → Spoken A ⊥ now lent n s x a b o → length x.words ≤ n + 2
  spoken_most (Spoken.burst b) = omega (arith, sends_brief b)
  spoken_most (Spoken.events {x = x} {ws = ws} q h e k) = omega (arith, events_most e, spoken_most k, length-append ws x.words)
  spoken_most (Spoken.draws e z k) = spoken_most k
  spoken_most (Spoken.late r e h k) = spoken_most k

pub rx_most : (s : Station) (b : Burst) (level now : Float) (store : List ℕ) → FineBurst b → length (ncs_rx s b level now store).words ≤ 8130
rx_most s b level now store k = omega (arith, spoken_most (rx_spoken all tt now [] tt s b level store tt), fine_most b.frames k.frames, k.count)

-- ---- every call

-- a refused call has no words
abbrev Silent : Outcome → Type 0
Silent o = eqb o.refusal 0 ≡ false → length o.words ≡ 0

written_by : (t : Bool) (n k : ℕ) → (t ≡ false → k ≡ 0) → words_in (cond t (Ok k) (Err (refusal_of n))) ≡ k
written_by true n k f = refl
written_by false n k f = sym (f refl)

fits : (o : Outcome) (room : ℕ) → length o.words ≤ 8192 → length o.words ≤ room → Silent o → Known o.refusal → Fits o room
fits o room h k f g =
    let e : answer_of o room ≡ cond (eqb o.refusal 0) (Ok (length o.words)) (Err (refusal_of o.refusal)) =
    ap (λ (n : ℕ). cond (eqb o.refusal 0) (Ok n) (Err (refusal_of o.refusal))) (after_room room 0 (length o.words) (omega arith) ∙ zero-add (length o.words)) in
    record {
      most = omega arith;
      fit = k;
      answer = e;
      number = ap number_in e ∙ number_again o.refusal (length o.words) g;
      written = ap words_in e ∙ written_by (eqb o.refusal 0) o.refusal (length o.words) f;
      output = λ out e. sets-eq o.words out 0 (omega arith) ∙ ap (λ (n : ℕ). o.words ++ drop n out) (zero-add (length o.words));
    }

-- refused, it has no words; and where it is not, the output has 8,192 words
fits_unless : (n : ℕ) (s : Station) (store : List ℕ) (o : Outcome) (room : ℕ) → (n ≡ 0 → 8192 ≤ room) → length o.words ≤ 8192 → Silent o → Known n → Known o.refusal
    → Fits (unless n s store o) room
fits_unless n s store o room k h f i j =
    cond_keeps (λ (x : Outcome). Fits x room) (eqb n 0) o (refused n s store)
    (λ q. fits o room h (omega (arith, k (eqb-true n 0 q))) f j) (λ _. fits (refused n s store) room (omega arith) (omega arith) (λ _. refl) i)

checked : (room rest : ℕ) → check4 room rest ≡ 0 → 8192 ≤ room
checked room rest = by (ltb room 8192) refl
  where
    by : (t : Bool) → ltb room 8192 ≡ t → ◌≡◌ {A = ℕ} (cond t 4 rest) 0 → 8192 ≤ room
    by true q e = absurd (omega arith)
    by false q e = ltb-false room 8192 q

receive_most : (ws : List ℕ) (w : Parsed Burst) → parse ws ≡ w → (s : Station) (snr now : Float) (store : List ℕ) → length (receive_by w s snr now store).words ≤ 8192
receive_most ws malformed q s snr now store = omega arith
receive_most ws (parsed b) q s snr now store = omega (arith, rx_most s b snr now store (parse_fine ws b q))

receive_silent : (w : Parsed Burst) (s : Station) (snr now : Float) (store : List ℕ) → Silent (receive_by w s snr now store)
receive_silent malformed s snr now store e = refl
receive_silent (parsed b) s snr now store e = absurd (false≢true (sym e))

receive_known : (w : Parsed Burst) (s : Station) (snr now : Float) (store : List ℕ) → Known (receive_by w s snr now store).refusal
receive_known malformed s snr now store = refl
receive_known (parsed b) s snr now store = refl

pub all_fit : AllFit
unfolding admit_of admit_refusal receive_of receive_refusal next_of next_refusal
all_fit =
    record {
      admission = λ s packed relay now room.
          let call = unpack_call packed in
          let seat = seat_of s call in
          let via = via_for s seat relay in
          fits_unless (admit_refusal room now s.used relay (is_full seat)) s [] (done (admitted s call relay now).station [] (admitted s call relay now).words) room
          (checked room _) (omega (arith, (short_admit seat s call via now).most)) (λ e. absurd (false≢true (sym e)))
          (known_admit room now s.used relay (is_full seat)) refl;
      reception = λ s words snr now store room.
          fits_unless (receive_refusal room (length store) s.count now snr (parse words)) s store (receive_by (parse words) s snr now store) room (checked room _)
          (receive_most words (parse words) refl s snr now store) (receive_silent (parse words) s snr now store)
          (known_receive room (length store) s.count now snr (parse words)) (receive_known (parse words) s snr now store);
      decision = λ s now queue room.
          fits_unless (next_refusal now (length queue) room) s [] (done (ncs_next s now queue).station [] (ncs_next s now queue).words) room (checked room _) (omega (arith, (short_next queue s now).most)) (λ e. absurd (false≢true (sym e)))
          (known_next now (length queue) room) refl;
    }

-- ---- the numbers that the other calls answer

number_unless : (n : ℕ) (s t : Station) (store store' words : List ℕ) → Known n → number_in (answer_of (unless n s store (done t store' words)) 0) ≡ n
number_unless n s t store store' words k = go (eqb n 0) refl
  where
    go : (b : Bool) → eqb n 0 ≡ b → number_in (answer_of (cond b (done t store' words) (refused n s store)) 0) ≡ n
    go true e = sym (eqb-true n 0 e)
    go false e = number_again n _ k

pub all_numbered : AllNumbered
unfolding start_of post_of sent_of close_of free_of sign_off_of worst_of
all_numbered =
    record {
      start = λ s g store. number_unless (start_refusal g (length store)) s _ store _ _ (known_start g (length store));
      posting = λ s slot message queue.
          let q = queue_at s slot in
          number_unless (post_refusal (length queue) s.used slot q (length message)) s _ queue _ _ (known_post (length queue) s.used slot q (length message));
      sending = λ s now. number_unless (check1 now 0) s _ [] _ _ (known_sent now);
      closing = λ s count. number_unless (close_refusal count) s _ [] _ _ (known_close count);
      freeing = λ s cell. number_unless (cell_refusal s.count s.landed cell) s _ [] _ _ (known_cell s.count s.landed cell);
      signing = λ s slot. number_unless (sign_off_refusal s.used slot) s _ [] _ _ (known_sign_off s.used slot);
      asking = λ s slot. number_again (sign_off_refusal s.used slot) _ (known_sign_off s.used slot);
      charging = refusal_said;
    }
