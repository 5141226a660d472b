-- Every reading is finite: a reception's level is within 200 decibels of 0 (check 2), and a level field is a small whole number. So nothing is asked of the lowest
-- of them. Assumes nothing.
use mathlib.Core.Path.{◌≡◌, refl, sym, subst}
use mathlib.Core.Bool.{Bool, true, false, not, cond, ◌&&◌, ◌||◌}
use mathlib.Core.List.{List, [], ◌∷◌, ◌++◌}
use Prim.Native.Nat.{ℕ, zero, suc, ◌+◌, ◌/◌, ◌%◌}
use native.Mathlib.Omega.{arith}
use lib.Dec.{T, eqb, ltb, leb}
use lib.Ieee.{Float, nan, inf, fin, lt}
use lib.Ieee.Exact.{HasValue}
use lib.Ieee.Scale.{finite}
use lib.ListN.{length, get_or, take}
use borrow.Author.Tests.{eqb-true}
use Rattle.bits.specs.Mask.{has_bit, without_bit}
use Rattle.bits.proofs.Lists.{cond_keeps, never_both}
use Rattle.level.specs.declared.Level.{Level}
use Rattle.level.specs.declared.Level.TheVariants.{Unheard, Decibels}
use Rattle.level.specs.Levels.{is_heard}
use Rattle.level.specs.Spans.{up_to, within}
use Rattle.recent.specs.Readings.{Finite}
use Rattle.wire.specs.Call.{unpack_call}
use Rattle.wire.specs.Fields.{field_db, snr_from_q}
use Rattle.wire.specs.Kinds.{tiny, k_idle, t_up, t_ctrl, c_checkin, c_report, c_overheard, c_kids}
use Rattle.wire.proofs.Field.{field_exact}
use Rattle.words.specs.declared.Head.{Head}
use Rattle.words.specs.Words.{Heard, lost, heard, Burst, Parsed, malformed, parsed, parse}
use Rattle.roster.specs.Relays.{promotable_at}
use Rattle.net.specs.declared.Station.{Station}
use Rattle.net.specs.declared.Turn.{Turn}
use Rattle.net.specs.declared.Turn.TheVariants.{Idle, Sending, Waiting}
use Rattle.net.specs.State.{with_wait, with_round, with_rxsent}
use Rattle.net.specs.Net.{is_member, idle_wait, Said, said}
use Rattle.admit.specs.declared.Seat.{Seat}
use Rattle.admit.specs.declared.Seat.TheVariants.{Known, Free, Full}
use Rattle.admit.specs.Admission.{seat_of, slot_of}
use Rattle.bursts.specs.Rows.{member_in}
use Rattle.bursts.specs.Bursts.{list_sent, rx_list_burst}
use Rattle.bursts.specs.Reroute.{floor_of}
use Rattle.next.specs.declared.Due.{Due}
use Rattle.next.specs.declared.Due.TheVariants as due
use Rattle.next.specs.declared.Act.{Act}
use Rattle.next.specs.declared.Act.TheVariants as act
use Rattle.next.specs.Next.{act_of, brought_forward, turn_over_in, missed_in, due_of}
use Rattle.frames.specs.declared.Air.{Air}
use Rattle.frames.specs.Reading.{Reading}
use Rattle.frames.specs.Control.{call_at, relay_of, overheard_entry, is_kid, kid_entry}
use Rattle.frames.specs.Frames.{frame_step, read_frames}
use Rattle.rx.specs.Ending.{is_reply, busy_wait}
use Rattle.rx.specs.Reception.{air_of, first_reading}
use Rattle.station.specs.Entries.{Outcome, refused, unless, check1, check2, check3, check7, receive_refusal, receive_by, receive_of}
use Rattle.promise.specs.Promise.{lent_to, Net, of_burst, Call, admission, reception, decision, sending, closing, reading, freeing, charging, signing, asking, posting, result, outcome, step}
use Rattle.laws.specs.Worst.{Update, measured, emptied, also_read, readings_of, of_seat, of_checkin, of_level, of_kid, of_entries, of_control, of_frame, of_frames, of_sender, of_reply, of_reception, of_slots, emptied_if, promotions, of_reroute, of_round_end, of_act, of_window, of_due, of_sign_off, of_call, updates_of}

-- ---- updates with finite levels

abbrev Fine : List Update → Type 0
Fine [] = Unit {0}
Fine (measured j x ∷ us) = T (finite x) × Fine us
Fine (emptied j ∷ us) = Fine us

fine_both : (us vs : List Update) → Fine us → Fine vs → Fine (us ++ vs)
fine_both [] vs p q = q
fine_both (measured j x ∷ us) vs p q = (p.0, fine_both us vs p.1 q)
fine_both (emptied j ∷ us) vs p q = fine_both us vs p q

fine_if : (b : Bool) (us vs : List Update) → Fine us → Fine vs → Fine (cond b us vs)
fine_if true us vs p q = p
fine_if false us vs p q = q

value_finite : (x : Float) (s : Bool) (m n : ℕ) → HasValue x s m n → T (finite x)
value_finite nan s m n h = absurd h
value_finite (inf t) s m n h = absurd h
value_finite (fin t k e) s m n h = tt

within_finite : (n : ℕ) (x : Float) → within n x ≡ true → T (finite x)
within_finite n nan h = absurd (never_both false h refl)
within_finite n (inf t) h = absurd (never_both false h refl)
within_finite n (fin t k e) h = tt

-- ---- a reception

seat_fine : (seat : Seat) → Fine (of_seat seat)
seat_fine (Known i) = tt
seat_fine (Free i) = tt
seat_fine Full = tt

level_fine : (c q : ℕ) → Fine (of_level c (snr_from_q q))
unfolding snr_from_q
level_fine c q = cond_keeps (λ (l : Level). Fine (of_level c l)) (eqb (q % 64) 63) Unheard (Decibels (field_db q)) (λ _. tt) (λ _. (value_finite (field_db q) _ _ _ (field_exact q), tt))

entries_fine : (f : ℕ → Said → Said) (g : ℕ → Station → List Update) → ((e : ℕ) (s : Station) → Fine (g e s)) → (w len n e : ℕ) (x : Said) → Fine (of_entries f g w len n e x)
unfolding of_entries
entries_fine f g h w len zero e x = tt
entries_fine f g h w len (suc n) e x = fine_if (leb (e + w) len) _ [] (fine_both (g e x.station) _ (h e x.station) (entries_fine f g h w len n (e + w) (f e x))) tt

module _ (a : Air) (ok : T (finite a.level)) where
  control_fine : (slot b len : ℕ) (p : List ℕ) (s : Station) → Fine (of_control a slot b len p s)
  control_fine slot b len p s =
      fine_if (eqb b c_checkin) _ _
      (fine_if (leb 7 len) _ [] (fine_both (of_seat (seat_of s (call_at p 1))) _ (seat_fine (seat_of s (call_at p 1))) (fine_if (eqb (slot_of (seat_of s (call_at p 1))) 255) [] _ tt (ok, tt))) tt)
      (fine_if (eqb b c_report) [] _ tt
      (fine_if (eqb b c_overheard) _ _ (entries_fine _ _ (λ e t. seat_fine (seat_of t (call_at p e))) 8 len 32 1 (said s []))
      (fine_if (eqb b c_kids) _ []
      (entries_fine _ _ (λ e t. fine_if (is_kid t (get_or p e 0) slot) _ [] (fine_if (leb 128 (get_or p (e + 1) 0)) _ [] (level_fine (get_or p e 0) (get_or p (e + 1) 0)) tt) tt) 2 len 128 1 (said s [])) tt)))

  frame_fine : (f : Heard) (s : Station) → Fine (of_frame a f s)
  frame_fine lost s = tt
  frame_fine (heard flags field p) s =
      fine_if (eqb (flags / 64) t_up) [] _ tt
      (fine_if (eqb (flags / 64) t_ctrl) _ [] (fine_if (eqb (length p) 0) [] _ tt (control_fine (flags % 64) (get_or p 0 0) (length p) p s)) tt)

  frames_fine : (fs : List Heard) (x : Reading) → Fine (of_frames a fs x)
  unfolding of_frames
  frames_fine [] x = tt
  frames_fine (f ∷ fs) x = fine_both (of_frame a f x.station) _ (frame_fine f x.station) (frames_fine fs (frame_step a f x))

  sender_fine : (slot : ℕ) (s : Station) → Fine (of_sender slot a s)
  sender_fine slot s = fine_if (is_member s.used slot) _ [] (ok, tt) tt

  reply_fine : (t : Turn) (h : Head) (x : Reading) → Fine (of_reply t a h x)
  reply_fine Idle h x = tt
  reply_fine Sending h x = tt
  reply_fine (Waiting r) h x = fine_if (is_reply h x.sender r) _ [] (sender_fine r.slot x.station) tt

reception_fine : (s : Station) (snr now : Float) (store : List ℕ) (b : Burst) → T (finite snr) → Fine (of_reception s snr now store b)
reception_fine s snr now store b ok =
    let a = air_of s b.head snr now in
    let x = first_reading (with_wait s (busy_wait s.wait b.head s.settings now)) store in
    fine_if (eqb b.head.code tiny) _ _ (fine_if (eqb b.head.hi k_idle) _ [] (sender_fine a ok (b.head.extra % 64) x.station) tt)
    (fine_both (of_frames a b.frames x) _ (frames_fine a ok b.frames x) (reply_fine a ok (read_frames a b.frames x).station.wait.turn b.head (read_frames a b.frames x)))

burst_fine : (p : Parsed Burst) (s : Station) (snr now : Float) (store : List ℕ) → T (finite snr) → Fine (of_burst p [] (of_reception s snr now store))
burst_fine malformed s snr now store ok = tt
burst_fine (parsed b) s snr now store ok = reception_fine s snr now store b ok

-- ---- a decision, and a sign-off: nothing but emptied windows

slots_fine : (g : ℕ → List Update) → ((i : ℕ) → Fine (g i)) → (n i : ℕ) → Fine (of_slots g n i)
unfolding of_slots
slots_fine g h zero i = tt
slots_fine g h (suc n) i = fine_both (g i) _ (h i) (slots_fine g h n (suc i))

empties_fine : (b : Bool) (i : ℕ) → Fine (emptied_if b i)
empties_fine true i = tt
empties_fine false i = tt

reroute_fine : (s : Station) (now : Float) → Fine (of_reroute s now)
reroute_fine s now =
    fine_if (not s.round.traffic && ltb 0 s.round.number && lt now s.round.nextround) [] _ tt (slots_fine _ (λ i. empties_fine (is_heard (promotable_at (has_bit s.used i) (member_in s i) (floor_of s))) i) 62 0)

act_fine : (a : Act) (s : Station) (now : Float) → Fine (of_act a s now)
act_fine act.Wait s now = tt
act_fine act.Beacon s now = tt
act_fine act.Acks s now = tt
act_fine act.Draw s now =
    let t = with_round s (with_rxsent s.round s.round.number) in
    fine_if (eqb s.round.number 0 || eqb s.round.rxsent s.round.number) _ _ (reroute_fine s now) (fine_if (list_sent t) [] _ tt (reroute_fine (rx_list_burst t).station now))
act_fine act.Poll s now = tt

window_fine : (s : Station) (now : Float) → Fine (of_window s now)
window_fine s now =
    let t = brought_forward s now in
    fine_if (lt now s.round.windowend) [] _ tt (act_fine (act_of t.round t.used now) t now)

due_fine : (d : Due) (s : Station) (now : Float) → Fine (of_due d s now)
due_fine due.Free s now = window_fine s now
due_fine due.Quiet s now = tt
due_fine due.Close s now = tt
due_fine (due.Again r) s now = tt
due_fine (due.Missed r) s now = window_fine (turn_over_in (missed_in (with_wait s idle_wait) r.slot) r.slot r.relayfor) now

-- ---- the calls

-- a check that comes before others, and passes: then they pass
passes : (b : Bool) (k rest : ℕ) → (k ≡ 0 → ⊥) → cond b k rest ≡ 0 → rest ≡ 0
passes true k rest z e = absurd (z e)
passes false k rest z e = e

holds : (b : Bool) (k rest : ℕ) → (k ≡ 0 → ⊥) → cond b rest k ≡ 0 → (b ≡ true) × (rest ≡ 0)
holds true k rest z e = (refl, e)
holds false k rest z e = absurd (z e)

level_in_lem : (room size count : ℕ) (now snr : Float) (p : Parsed Burst) → receive_refusal room size count now snr p ≡ 0 → within 200 snr ≡ true
unfolding receive_refusal
level_in_lem room size count now snr p e =
    (holds (within 200 snr) 2 (check3 p 0) (λ z. omega arith)
    (holds (up_to 1000000000 now) 1 _ (λ z. omega arith)
    (passes (ltb (size / 6400) count) 7 _ (λ z. omega arith) (passes (ltb room 8192) 4 _ (λ z. omega arith) e))).1).0

not_refused : (k : ℕ) (s : Station) (store : List ℕ) (o : Outcome) → eqb (unless k s store o).refusal 0 ≡ true → k ≡ 0
not_refused k s store o e = go (eqb k 0) refl e
  where
    go : (b : Bool) → eqb k 0 ≡ b → eqb (cond b o (refused k s store)).refusal 0 ≡ true → k ≡ 0
    go true q e = eqb-true k 0 q
    go false q e = eqb-true k 0 e

call_fine : (c : Call) (n : Net) → eqb (outcome c n).refusal 0 ≡ true → Fine (of_call c n)
unfolding result receive_of
call_fine (admission packed relay now room) n e = seat_fine (seat_of n.station (unpack_call packed))
call_fine (reception words snr now lent room numbers) n e =
    let s = n.station in
    let store = lent_to lent n.store in
    burst_fine (parse words) s snr now store
    (within_finite 200 snr (level_in_lem room (length store) s.count now snr (parse words) (not_refused (receive_refusal room (length store) s.count now snr (parse words)) s store (receive_by (parse words) s snr now store) e)))
call_fine (posting slot message queue) n e = tt
call_fine (decision now queue room) n e = due_fine (due_of n.station.wait n.station.round.closed now) n.station now
call_fine (sending now) n e = tt
call_fine (closing count) n e = tt
call_fine (reading cell lent) n e = tt
call_fine (freeing cell) n e = tt
call_fine (charging figures) n e = tt
call_fine (signing slot) n e =
    slots_fine _ (λ i. empties_fine (has_bit (without_bit n.station.used slot) i && eqb (member_in n.station i).via slot) i) 62 0
call_fine (asking slot) n e = tt

updates_fine : (cs : List Call) (n : Net) → Fine (updates_of cs n)
unfolding updates_of
updates_fine [] n = tt
updates_fine (c ∷ cs) n =
    fine_both (cond (eqb (outcome c n).refusal 0) (of_call c n) []) _ (cond_keeps Fine (eqb (outcome c n).refusal 0) (of_call c n) [] (λ e. call_fine c n e) (λ _. tt)) (updates_fine cs (step c n))

-- ---- the readings

finite_if : (b : Bool) (xs ys : List Float) → Finite xs → Finite ys → Finite (cond b xs ys)
finite_if true xs ys p q = p
finite_if false xs ys p q = q

read_finite : (i : ℕ) (us : List Update) (xs : List Float) → Fine us → Finite xs → Finite (readings_of i us xs)
unfolding readings_of
read_finite i [] xs p h = h
read_finite i (measured j x ∷ us) xs p h = read_finite i us (also_read i (measured j x) xs) p.1 (finite_if (eqb j i) (x ∷ xs) xs (p.0, h) h)
read_finite i (emptied j ∷ us) xs p h = read_finite i us (also_read i (emptied j) xs) p (finite_if (eqb j i) [] xs tt h)

take_finite : (n : ℕ) (xs : List Float) → Finite xs → Finite (take n xs)
take_finite zero xs h = tt
take_finite (suc n) [] h = tt
take_finite (suc n) (x ∷ xs) h = (h.0, take_finite n xs h.1)

pub last_finite : (cs : List Call) (n : Net) (slot : ℕ) → Finite (take 32 (readings_of slot (updates_of cs n) []))
last_finite cs n slot = take_finite 32 (readings_of slot (updates_of cs n) []) (read_finite slot (updates_of cs n) [] (updates_fine cs n) tt)
