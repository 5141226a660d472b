-- Word back to a boat: what stands in the queue and what is sent, through every call. Assumes nothing.
use mathlib.Core.Path.{◌≡◌, refl, sym, ap, ◌∙◌, subst}
use mathlib.Core.Logic.{⊎_elim}
use Prim.Native.Nat.{ℕ, ◌+◌, ◌/◌, ◌≤◌, ◌<◌}
use native.Mathlib.Omega.{arith}
use mathlib.Core.Bool.{Bool, true, false, cond}
use mathlib.Core.List.{List, [], ◌∷◌, ◌++◌}
use lib.Dec.{eqb, ltb}
use lib.Ieee.{Float}
use lib.ListN.{length, get_or, set, length-set, length-replicate, get_or-replicate}
use lib.Seq.{get_or-set_same, get_or-set_other}
use borrow.Author.Tests.{eqb-true, eq-eqb, ne_eqb, ltb-false}
use Rattle.bits.proofs.Lists.{cond_keeps, cond_true, cond_false, never_both, eq_or_not, lt_or_le}
use Rattle.wire.specs.Call.{unpack_call}
use Rattle.words.specs.Words.{Parsed, parse}
use Rattle.words.specs.Words as words
use Rattle.words.specs.Fine.{Bytes}
use Rattle.inbox.specs.Messages.{framed}
use Rattle.stream.specs.Table.{cell_count}
use Rattle.queue.specs.declared.Queue.{Queue}
use Rattle.queue.specs.Queues.{empty_queue, space_refusal, posted_to, put_bytes}
use Rattle.net.specs.declared.Station.{Station}
use Rattle.net.specs.declared.Settings.{Settings}
use Rattle.net.specs.State.{index_of, queue_at, with_queues}
use Rattle.net.specs.Net.{is_member, new_station, on_tx_done}
use Rattle.net.proofs.Laws.{index_is, member_lt}
use Rattle.admit.specs.Admission.{seat_of, is_full, via_for}
use Rattle.next.specs.Next.{ncs_next}
use Rattle.rx.specs.Reception.{ncs_rx}
use Rattle.config.specs.declared.Given.{Given}
use Rattle.config.specs.Checks.{settings_of}
use Rattle.station.specs.Entries.{Outcome, refused, done, unless, admit_refusal, admit_of, receive_of, next_refusal, next_of, post_refusal, post_of, check1, sent_of, close_refusal, close_of, read_refusal, cell_refusal, free_of, start_refusal}
use Rattle.signoff.specs.SignOff.{sign_off}
use Rattle.station.specs.SignOff.{sign_off_refusal, sign_off_of}
use Rattle.station.specs.Worst.{worst_of, refusal_in}
use Rattle.dues.specs.Dues.{dues_refusal}
use Rattle.promise.specs.Promise.{lent_to, of_burst, Call, admission, reception, decision, posting, sending, closing, reading, freeing, charging, signing, asking, result, outcome, is_refused, frames_by, step, after, started}
use Rattle.promise.proofs.Outcomes.{refused_by, receive_cases}
use Rattle.promise.proofs.Signs.{sign_member}
use Rattle.promise.proofs.Walk.{posted, signs_off, chain_keeps}
use Rattle.promise.proofs.Spoken.{next_walk}
use Rattle.promise.proofs.WalkCalls.{all, post_member, started_is}
use Rattle.laws.specs.Directed.{Desk, opened, told_by, also_posted, emptied_at, desk_by, desk_after, QueueLent, QueuesLent, DownFrames, StillKept, WordHolds, Directed}
use Rattle.laws.proofs.VacantQueue.{Unposted, change_unposted, sign_parts, runs_unposted}
use Rattle.laws.proofs.DirectedBytes.{Holds, holds_none, holds_posted, holds_other, Kept}
use Rattle.laws.proofs.DirectedWords.{down_none, down_other}
use Rattle.laws.proofs.DirectedNext.{Alike, fine_next}
use Rattle.laws.proofs.DirectedRx.{Sound, sound_alike, sound_admit, rx_sound, rx_other, admit_other}

-- at every desk: what is kept, and nothing is posted where there is no slot
record Good (queue : List ℕ) (bytes : ℕ → List ℕ) (told : ℕ → ℕ) (s : Station) : Type 0 where
  sound : Sound queue bytes told s
  outside : (i : ℕ) → 62 ≤ i → length (bytes i) ≡ 0

abbrev GoodDesk : Desk → Type 0
GoodDesk d = Good d.queue d.posted d.told d.net.station

-- ---- a posting

module _ (queue : List ℕ) (bytes : ℕ → List ℕ) (told : ℕ → ℕ) (s : Station) (slot : ℕ) (message : List ℕ) (ms : Bytes message) (k : Good queue bytes told s) where
  abbrev q : Queue
  q = get_or s.queues slot empty_queue

  abbrev queue' : List ℕ
  queue' = put_bytes queue slot q.posted (framed message)

  abbrev bytes' : ℕ → List ℕ
  bytes' = also_posted slot (framed message) bytes

  abbrev qs' : List Queue
  qs' = set s.queues slot (posted_to q (length message + 2))

  here : bytes' slot ≡ bytes slot ++ framed message
  here = cond_true (eqb slot slot) _ _ (eq-eqb slot slot refl)

  there : (i : ℕ) → (slot ≡ i → ⊥) → bytes' i ≡ bytes i
  there i n = cond_false (eqb slot i) _ _ (ne_eqb slot i n)

  post_kept : slot < 62 → 126976 ≤ length queue → space_refusal q (length message) ≡ 0 → Kept queue' bytes' told qs'
  post_kept l long e =
      record {
        many = length-set s.queues slot (posted_to q (length message + 2)) ∙ k.sound.kept.many;
        each = λ i j.
            ⊎_elim
            (λ z.
            subst (λ (x : ℕ). Holds queue' x (get_or qs' x empty_queue) (bytes' x) (told x)) z
            (subst (λ (bs : List ℕ). Holds queue' slot (get_or qs' slot empty_queue) bs (told slot)) (sym here)
            (subst (λ (x : Queue). Holds queue' slot x (bytes slot ++ framed message) (told slot))
            (sym (get_or-set_same s.queues slot (posted_to q (length message + 2)) empty_queue (omega (arith, k.sound.kept.many))))
            (holds_posted queue slot q (bytes slot) message (told slot) (omega arith) e ms (k.sound.kept.each slot l)))))
            (λ z.
            subst (λ (bs : List ℕ). Holds queue' i (get_or qs' i empty_queue) bs (told i)) (sym (there i z))
            (subst (λ (x : Queue). Holds queue' i x (bytes i) (told i)) (sym (get_or-set_other s.queues slot i (posted_to q (length message + 2)) empty_queue (λ y. z (sym y))))
            (holds_other queue i slot q.posted (get_or s.queues i empty_queue) (bytes i) (framed message) (told i) z (k.sound.kept.each i j))))
            (eq_or_not slot i);
      }

  post_free : is_member s.used slot ≡ true → space_refusal q (length message) ≡ 0 → Unposted s.used qs'
  post_free m e = change_unposted {A = all} s _ (posted tt slot (length message) (member_lt s.used slot m) m e) k.sound.free

  post_outside : slot < 62 → (i : ℕ) → 62 ≤ i → length (bytes' i) ≡ 0
  post_outside l i h = ap (λ (bs : List ℕ). length bs) (there i (λ e. omega arith)) ∙ k.outside i h

post_long : (size used slot : ℕ) (q : Queue) (n : ℕ) → post_refusal size used slot q n ≡ 0 → 126976 ≤ size
unfolding post_refusal
post_long size used slot q n = by (ltb size 126976) refl
  where
    by : (t : Bool) → ltb size 126976 ≡ t → ◌≡◌ {A = ℕ} (cond t 7 (cond (ltb 61 slot) 8 (cond (is_member used slot) (space_refusal q n) 21))) 0 → 126976 ≤ size
    by true e z = absurd (omega arith)
    by false e z = ltb-false size 126976 e

-- ---- a sign-off

module _ (queue : List ℕ) (bytes : ℕ → List ℕ) (told : ℕ → ℕ) (s : Station) (slot : ℕ) (m : is_member s.used slot ≡ true) (k : Good queue bytes told s) where
  abbrev gone : ℕ → List ℕ
  gone = emptied_at [] slot bytes

  abbrev untold : ℕ → ℕ
  untold = emptied_at 0 slot told

  sign_each : (i : ℕ) → i < 62 → Holds queue i (get_or (set s.queues slot empty_queue) i empty_queue) (gone i) (untold i)
  sign_each i j =
      let qs = set s.queues slot empty_queue in
      ⊎_elim
      (λ z.
      subst (λ (x : ℕ). Holds queue x (get_or qs x empty_queue) (gone x) (untold x)) z
      (subst (λ (bs : List ℕ). Holds queue slot (get_or qs slot empty_queue) bs (untold slot)) (sym (cond_true (eqb slot slot) [] (bytes slot) (eq-eqb slot slot refl)))
      (subst (λ (t : ℕ). Holds queue slot (get_or qs slot empty_queue) [] t) (sym (cond_true (eqb slot slot) 0 (told slot) (eq-eqb slot slot refl)))
      (subst (λ (x : Queue). Holds queue slot x [] 0) (sym (get_or-set_same s.queues slot empty_queue empty_queue (omega (arith, k.sound.kept.many, member_lt s.used slot m)))) (holds_none queue slot)))))
      (λ z.
      subst (λ (bs : List ℕ). Holds queue i (get_or qs i empty_queue) bs (untold i)) (sym (cond_false (eqb slot i) [] (bytes i) (ne_eqb slot i z)))
      (subst (λ (t : ℕ). Holds queue i (get_or qs i empty_queue) (bytes i) t) (sym (cond_false (eqb slot i) 0 (told i) (ne_eqb slot i z)))
      (subst (λ (x : Queue). Holds queue i x (bytes i) (told i)) (sym (get_or-set_other s.queues slot i empty_queue empty_queue (λ y. z (sym y)))) (k.sound.kept.each i j))))
      (eq_or_not slot i)

  sign_good : Good queue gone untold (sign_off s slot)
  sign_good =
      record {
        sound =
            record {
              free = change_unposted {A = all} s (sign_off s slot) (signs_off tt tt tt slot m) k.sound.free;
              kept =
                  subst (Kept queue gone untold) (sym (sign_parts s slot).0)
                  (record { many = length-set s.queues slot empty_queue ∙ k.sound.kept.many; each = sign_each });
            };
        outside = λ i h.
            cond_keeps (λ (bs : List ℕ). length bs ≡ 0) (eqb slot i) [] (bytes i) (λ _. refl) (λ _. k.outside i h);
      }

-- ---- a next decision leaves free slots alone

free_next : (queue : List ℕ) (s : Station) (now : Float) → Unposted s.used s.queues → Unposted (ncs_next s now queue).station.used (ncs_next s now queue).station.queues
free_next queue s now k = chain_keeps (λ (t : Station). Unposted t.used t.queues) (λ x y c h. change_unposted x y c h) (next_walk all tt s now queue) k

-- ---- the outcome of a call: refused, or not

module _ (d : Desk) (k : GoodDesk d) where
  -- what holds of an outcome, where After says what holds of one that is not refused
  abbrev Result : (Outcome → Type 0) → Outcome → Type 0
  Result After o = DownFrames d.posted d.told o.words × (refused_by o ≡ true → Good d.queue d.posted d.told o.station) × (refused_by o ≡ false → After o)

  sent_back : (After : Outcome → Type 0) (m : ℕ) (store : List ℕ) → eqb m 0 ≡ false → Result After (refused m d.net.station store)
  sent_back After m store q =
      (down_none d.posted d.told, (λ _. k), λ f. absurd (never_both (cond (eqb m 0) false true) (ap (λ (t : Bool). cond t false true) q) f))

  call_by : (After : Outcome → Type 0) (m : ℕ) (store : List ℕ) (o : Outcome) → o.refusal ≡ 0 → (m ≡ 0 → DownFrames d.posted d.told o.words × After o)
      → Result After (unless m d.net.station store o)
  call_by After m store o z f =
      cond_keeps (Result After) (eqb m 0) o (refused m d.net.station store)
      (λ q. let g = f (eqb-true m 0 q) in
      (g.0, (λ e. absurd (never_both (refused_by o) e (ap (λ (n : ℕ). cond (eqb n 0) false true) z))), λ e. g.1))
      (λ q. sent_back After m store q)

  abbrev Still : Outcome → Type 0
  Still o = Good d.queue d.posted d.told o.station

  -- of a call that leaves members and queues alone, and sends no burst
  quiet_by : (m : ℕ) (store : List ℕ) (o : Outcome) → o.refusal ≡ 0 → o.words ≡ [] → Alike d.net.station o.station → Result Still (unless m d.net.station store o)
  quiet_by m store o z w e =
      call_by Still m store o z
      (λ _. (
        subst (DownFrames d.posted d.told) (sym w) (down_none d.posted d.told),
        record { sound = sound_alike d.queue d.posted d.net.station o.station e k.sound; outside = k.outside },
      ))

  abbrev s : Station
  s = d.net.station

  admission_good : (packed : List ℕ) (relay : ℕ) (now : Float) (room : ℕ) → Result Still (admit_of s packed relay now room)
  unfolding admit_of
  admission_good packed relay now room =
      let call = unpack_call packed in
      let v = via_for s (seat_of s call) relay in
      call_by Still (admit_refusal room now s.used relay (is_full (seat_of s call))) [] _ refl
      (λ _. (
        down_other d.posted d.told (admit_other (seat_of s call) s call v now),
        record { sound = sound_admit d.queue d.posted s call v now k.sound; outside = k.outside },
      ))

  abbrev Heard : Float → Float → List ℕ → Parsed words.Burst → Outcome → Type 0
  Heard snr now st w o = Good d.queue d.posted (told_by (frames_by w) 0 (of_burst w [] (λ b. (ncs_rx s b snr now st).seen)) d.told) o.station

  reception_good : (ws : List ℕ) (snr now : Float) (st : List ℕ) (room : ℕ) → Result (Heard snr now st (parse ws)) (receive_of s ws snr now st room)
  reception_good ws snr now st room =
      receive_cases (λ w o. Result (Heard snr now st w) o) s ws snr now st room (λ w m q. sent_back (Heard snr now st w) m st q)
      (λ u g l. (
        down_other d.posted d.told (rx_other d.queue d.posted s u snr now st),
        (λ e. absurd (never_both false e refl)),
        λ _. record { sound = rx_sound d.queue d.posted s u snr now st k.sound; outside = k.outside },
      ))

  decision_good : (now : Float) (queue : List ℕ) (room : ℕ) → (refused_by (next_of s now queue room) ≡ false → queue ≡ d.queue) → Result Still (next_of s now queue room)
  unfolding next_of
  decision_good now queue room f =
      let m = next_refusal now (length queue) room in
      let o : List ℕ → Outcome = λ w. done (ncs_next s now w).station [] (ncs_next s now w).words in
      call_by Still m [] (o queue) refl
      (λ e. let z : refused_by (unless m s [] (o queue)) ≡ false = ap (λ (n : ℕ). refused_by (unless n s [] (o queue))) e in
      subst (λ (w : List ℕ). DownFrames d.posted d.told (o w).words × Still (o w)) (sym (f z))
      (let n = fine_next d.queue d.posted d.told s now k.sound.kept in
      (n.0, record { sound = record { free = free_next d.queue s now k.sound.free; kept = n.1 }; outside = k.outside })))

  abbrev Posted : ℕ → List ℕ → Outcome → Type 0
  Posted slot message o = Good o.store (also_posted slot (framed message) d.posted) d.told o.station

  posting_good : (slot : ℕ) (message queue : List ℕ) → (refused_by (post_of s slot message queue) ≡ false → queue ≡ d.queue) → Bytes message
      → Result (Posted slot message) (post_of s slot message queue)
  unfolding post_of
  posting_good slot message queue f ms =
      let m = post_refusal (length queue) s.used slot (queue_at s slot) (length message) in
      let at : ℕ → List ℕ → Outcome = λ j w. done (with_queues s (set s.queues j (posted_to (get_or s.queues j empty_queue) (length message + 2)))) (put_bytes w slot (get_or s.queues j empty_queue).posted (framed message)) [] in
      call_by (Posted slot message) m queue (at (index_of slot) queue) refl
      (λ e. let z : refused_by (unless m s queue (at (index_of slot) queue)) ≡ false = ap (λ (n : ℕ). refused_by (unless n s queue (at (index_of slot) queue))) e in
      let p = post_member (length queue) s.used slot (queue_at s slot) (length message) e in
      let l = member_lt s.used slot p.0 in
      let long = post_long (length queue) s.used slot (queue_at s slot) (length message) e in
      let i = index_is slot l in
      let fit : space_refusal (get_or s.queues slot empty_queue) (length message) ≡ 0 = subst (λ (j : ℕ). space_refusal (get_or s.queues j empty_queue) (length message) ≡ 0) i p.1 in (
        down_none d.posted d.told,
        subst (λ (w : List ℕ). Posted slot message (at (index_of slot) w)) (sym (f z))
            (subst (λ (j : ℕ). Posted slot message (at j d.queue)) (sym i)
            (record {
              sound =
                  record {
                    free = post_free d.queue d.posted d.told s slot message ms k p.0 fit;
                    kept = post_kept d.queue d.posted d.told s slot message ms k l (subst (λ (w : List ℕ). 126976 ≤ length w) (f z) long) fit;
                  };
              outside = post_outside d.queue d.posted d.told s slot message ms k l;
            })),
      ))

  abbrev Signed : ℕ → Outcome → Type 0
  Signed slot o = Good d.queue (emptied_at [] slot d.posted) (emptied_at 0 slot d.told) o.station

  signing_good : (slot : ℕ) → Result (Signed slot) (sign_off_of s slot)
  unfolding sign_off_of
  signing_good slot =
      call_by (Signed slot) (sign_off_refusal s.used slot) [] (done (sign_off s slot) [] []) refl
      (λ e. (down_none d.posted d.told, sign_good d.queue d.posted d.told s slot (sign_member s.used slot e) k))

  -- each call
  call_good : (c : Call) → QueueLent c d
      → DownFrames d.posted d.told (outcome c d.net).words × (is_refused c d.net ≡ true → Good d.queue d.posted d.told (step c d.net).station) × (is_refused c d.net ≡ false → GoodDesk (desk_by c d))
  unfolding step result sent_of close_of free_of on_tx_done
  call_good (admission packed relay now room) q = admission_good packed relay now room
  call_good (reception words snr now lent room numbers) q = reception_good words snr now (lent_to lent d.net.store) room
  call_good (decision now queue room) q = decision_good now queue room q
  call_good (posting slot message queue) q = posting_good slot message queue q.0 q.1
  call_good (sending now) q = quiet_by (check1 now 0) [] (done (on_tx_done s now) [] []) refl refl (refl, refl)
  call_good (closing count) q = quiet_by (close_refusal count) [] _ refl refl (refl, refl)
  call_good (reading cell lent) q =
      quiet_by (read_refusal (length (lent_to lent d.net.store)) s.count s.landed cell) d.net.store (done s d.net.store []) refl refl (refl, refl)
  call_good (freeing cell) q = quiet_by (cell_refusal s.count s.landed cell) [] _ refl refl (refl, refl)
  call_good (charging figures) q = quiet_by (dues_refusal figures) d.net.store (done s d.net.store []) refl refl (refl, refl)
  call_good (signing slot) q = signing_good slot
  call_good (asking slot) q = quiet_by (refusal_in (worst_of s slot)) d.net.store (done s d.net.store []) refl refl (refl, refl)

  desk_good : (c : Call) → QueueLent c d → GoodDesk (desk_after c d)
  unfolding desk_after
  desk_good c q = let r = call_good c q in cond_keeps GoodDesk (is_refused c d.net) _ (desk_by c d) (λ e. r.1 e) (λ e. r.2 e)

  still_kept : StillKept d
  still_kept slot o h l =
      ⊎_elim
      (λ low. let e = k.sound.kept.each slot low in e.bytes o (omega (arith, e.numbers)) l)
      (λ high. absurd (omega (arith, k.outside slot high)))
      (lt_or_le slot 62)

word_holds : (cs : List Call) (d : Desk) → GoodDesk d → QueuesLent cs d → WordHolds cs d
unfolding WordHolds QueuesLent
word_holds [] d k q = still_kept d k
word_holds (c ∷ cs) d k q = (still_kept d k, (call_good d k c q.0).0, word_holds cs (desk_after c d) (desk_good d k c q.0) q.1)

-- ---- from a start

new_kept : (queue : List ℕ) (g : Settings) (count : ℕ) → Kept queue (λ i. []) (λ i. 0) (new_station g count).queues
unfolding new_station
new_kept queue g count =
    record {
      many = length-replicate {A = Queue} 62 empty_queue;
      each = λ i l. subst (λ (x : Queue). Holds queue i x [] 0) (sym (get_or-replicate 62 i empty_queue empty_queue l)) (holds_none queue i);
    }

start_free : (s : Station) (g : Given) (store : List ℕ) → start_refusal g (length store) ≡ 0 → Unposted (started s g store).station.used (started s g store).station.queues
unfolding after
start_free s g store e = runs_unposted s g store e []

start_good : (s : Station) (g : Given) (store queue : List ℕ) → start_refusal g (length store) ≡ 0 → GoodDesk (opened (started s g store) queue)
start_good s g store queue e =
    record {
      sound =
          record {
            free = start_free s g store e;
            kept = subst (λ (t : Station). Kept queue (λ i. []) (λ i. 0) t.queues) (sym (started_is s g store e)) (new_kept queue (settings_of g) (cell_count (length store / 6400)));
          };
      outside = λ i h. refl;
    }

-- THE STATEMENT of specs/Directed
pub directed : Directed
directed s g store queue e cs q = word_holds cs (opened (started s g store) queue) (start_good s g store queue e) q
