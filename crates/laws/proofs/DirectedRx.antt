-- Admissions and receptions: a report gives back what it names, and nothing else touches what is kept; and their words have no frame of word back. Assumes
-- nothing.
use Rattle.std.specs.Prelude.{is_some}
use mathlib.Core.Path.{◌≡◌, refl, sym, ap, ◌∙◌, subst}
use mathlib.Core.Logic.{inl, ⊎_elim}
use Prim.Native.Nat.{ℕ, ◌+◌, ◌/◌, ◌%◌, ◌<◌}
use native.Mathlib.Omega.{arith}
use mathlib.Core.Bool.{Bool, true, false, cond, ◌&&◌}
use mathlib.Core.List.{List, [], ◌∷◌, ◌++◌}
use lib.Dec.{eqb, leb}
use lib.Ieee.{Float}
use lib.ListN.{length, get_or, set, length-set, length-append}
use lib.Seq.{get_or-set_same, get_or-set_other}
use borrow.Author.Tests.{eqb-true, ne_eqb, eq-eqb}
use Rattle.bits.specs.Mask.{has_bit}
use Rattle.bits.proofs.Lists.{cond_keeps, cond_true, cond_false, never_both, eq_or_not}
use Rattle.wire.specs.Kinds.{tiny, k_idle, t_up, t_ctrl, c_checkin, c_report, c_overheard, c_kids}
use Rattle.words.specs.declared.Head.{Head}
use Rattle.words.specs.Words.{Heard, lost, heard, Burst, parsed}
use Rattle.queue.specs.declared.Queue.{Queue}
use Rattle.queue.specs.Queues.{empty_queue, most_of, reported_to}
use Rattle.net.specs.declared.Station.{Station}
use Rattle.net.specs.State.{index_of, queue_at, table_of, member_at, with_wait}
use Rattle.net.specs.Net.{is_member, Said, said}
use Rattle.net.proofs.Laws.{index_lt, index_is, member_lt}
use Rattle.admit.specs.declared.Seat.{Seat}
use Rattle.admit.specs.declared.Seat.TheVariants.{Known, Free, Full}
use Rattle.admit.specs.Admission.{seat_of, slot_of, admit_by}
use Rattle.admit.proofs.Laws.{seat_lt, seat_free}
use Rattle.stream.specs.Table.{accept}
use Rattle.frames.specs.declared.Air.{Air}
use Rattle.frames.specs.Reading.{Reading}
use Rattle.frames.specs.Pieces.{is_relayed, relay_if, traffic_if, piece_frame}
use Rattle.frames.specs.Control.{call_at, checkin_frame, u24, report_frame, relay_of, overheard_by, overheard_entry, overheard_frame, is_kid, kid_entry, kids_frame}
use Rattle.frames.specs.Frames.{control_by, read_frame, frame_step, read_frames}
use Rattle.rx.specs.Ending.{Ended, nothing_more, idle_end, reply_end, busy_wait}
use Rattle.rx.specs.Reception.{air_of, first_reading, tiny_burst, full_burst, ncs_rx}
use Rattle.promise.specs.Promise.{frames_by}
use Rattle.promise.proofs.Walk.{reports, entered, queued}
use Rattle.promise.proofs.WalkNext.{index_member}
use Rattle.promise.proofs.WalkCalls.{all}
use Rattle.promise.proofs.WalkRx.{each_keeps}
use Rattle.promise.proofs.WalkWords.{admit_events_lem}
use Rattle.promise.proofs.QuietWalk.{uncelled}
use Rattle.promise.proofs.Spoken.{idle_spoken, reply_spoken, rx_spoken}
use Rattle.promise.proofs.Receptions.{get_last, step_seen, seen_stays}
use Rattle.laws.specs.Directed.{is_report, also_told, told_by}
use Rattle.laws.proofs.VacantQueue.{Unposted, change_unposted}
use Rattle.laws.proofs.DirectedBytes.{Holds, holds_reported, Kept, kept_empty, kept_same}
use Rattle.laws.proofs.DirectedWords.{Other, events_other}
use Rattle.laws.proofs.DirectedNext.{Alike, spoken_other, spoken_alike}

-- what is kept, and nothing posted where there is no boat
pub record Sound (queue : List ℕ) (posted : ℕ → List ℕ) (told : ℕ → ℕ) (s : Station) : Type 0 where
  pub free : Unposted s.used s.queues
  pub kept : Kept queue posted told s.queues

pub admit_other : (seat : Seat) (s : Station) (call : List ℕ) (v : ℕ) (now : Float) → Other (admit_by seat s call v now).words
admit_other seat s call v now = events_other (admit_events_lem ⊥ seat s call v now)

-- ---- what leaves members and queues alone

relay_alike : (b : Bool) (s t : Station) → Alike s t → Alike s (relay_if b t)
relay_alike true s t h = h
relay_alike false s t h = h

traffic_alike : (b : Bool) (s t : Station) → Alike s t → Alike s (traffic_if b t)
traffic_alike true s t h = h
traffic_alike false s t h = h

piece_alike : (a : Air) (slot field : ℕ) (p : List ℕ) (x : Reading) → Alike x.station (piece_frame a slot field p x).station
unfolding piece_frame
piece_alike a slot field p x =
    let s = x.station in
    let r = accept (table_of s) (member_at s slot).up x.store slot field p in
    cond_keeps (λ (y : Reading). Alike s y.station) (is_member s.used slot) _ x
    (λ _. cond_keeps (λ (y : Reading). Alike s y.station) r.lost _ _
    (λ _. cond_keeps (λ (y : Reading). Alike s y.station) r.bars _ x (λ _. (refl, refl)) (λ _. (refl, refl)))
    (λ _. relay_alike (is_relayed a s slot r) s _ (traffic_alike (is_some r.landed) s _ (refl, refl))))
    (λ _. (refl, refl))

kid_alike : (a : Air) (p : List ℕ) (slot e : ℕ) (s : Station) (x : Said) → Alike s x.station → Alike s (kid_entry a p slot e x).station
unfolding kid_entry
kid_alike a p slot e s x h = cond_keeps (λ (y : Said). Alike s y.station) (is_kid x.station (get_or p e 0) slot) _ x (λ _. h) (λ _. h)

kids_alike : (a : Air) (len : ℕ) (p : List ℕ) (slot : ℕ) (s : Station) → Alike s (kids_frame a len p slot s).station
unfolding kids_frame
kids_alike a len p slot s =
    each_keeps (λ (x : Said). Alike s x.station) (kid_entry a p slot) (λ e x h. kid_alike a p slot e s x h) 2 len 128 1 (said s []) (refl, refl)

-- ---- a report

and_first : (a b c : Bool) → a ≡ false → a && b && c ≡ false
and_first false b c e = refl
and_first true b c e = absurd (never_both true refl e)

and_second : (a b c : Bool) → b ≡ false → a && b && c ≡ false
and_second false b c e = refl
and_second true false c e = refl
and_second true true c e = absurd (never_both true refl e)

and_third : (a b c : Bool) → c ≡ false → a && b && c ≡ false
and_third false b c e = refl
and_third true false c e = refl
and_third true true c e = e

and_all : (a b c : Bool) → a ≡ true → b ≡ true → c ≡ true → a && b && c ≡ true
and_all a b c e f g = rw (e, f, g)

short_none : (n : ℕ) → n ≡ 0 → leb 12 n ≡ false
short_none n e = rw e

-- a frame that is no report tells nothing
told_not : (flags field : ℕ) (p : List ℕ) (seen : ℕ) (told : ℕ → ℕ) (i : ℕ) → is_report flags p ≡ false → also_told (heard flags field p) seen told i ≡ told i
unfolding also_told
told_not flags field p seen told i e = cond_false (is_report flags p && is_member seen i && eqb (get_or p 1 0) i) _ _ (and_first (is_report flags p) (is_member seen i) (eqb (get_or p 1 0) i) e)

-- a report tells of one slot, where there is a boat
told_other : (flags field : ℕ) (p : List ℕ) (seen : ℕ) (told : ℕ → ℕ) (i : ℕ) → (get_or p 1 0 ≡ i → ⊥) → also_told (heard flags field p) seen told i ≡ told i
unfolding also_told
told_other flags field p seen told i e =
    cond_false (is_report flags p && is_member seen i && eqb (get_or p 1 0) i) _ _ (and_third (is_report flags p) (is_member seen i) (eqb (get_or p 1 0) i) (ne_eqb (get_or p 1 0) i e))

told_none : (flags field : ℕ) (p : List ℕ) (seen : ℕ) (told : ℕ → ℕ) (i : ℕ) → is_member seen i ≡ false → also_told (heard flags field p) seen told i ≡ told i
unfolding also_told
told_none flags field p seen told i e =
    cond_false (is_report flags p && is_member seen i && eqb (get_or p 1 0) i) _ _ (and_second (is_report flags p) (is_member seen i) (eqb (get_or p 1 0) i) e)

told_here : (flags field : ℕ) (p : List ℕ) (seen : ℕ) (told : ℕ → ℕ) (i : ℕ) → is_report flags p ≡ true → is_member seen i ≡ true → get_or p 1 0 ≡ i
    → also_told (heard flags field p) seen told i ≡ most_of (told i) (u24 p 9)
unfolding also_told
told_here flags field p seen told i r m e =
    cond_true (is_report flags p && is_member seen i && eqb (get_or p 1 0) i) _ _ (and_all (is_report flags p) (is_member seen i) (eqb (get_or p 1 0) i) r m (eq-eqb (get_or p 1 0) i e))

module _ (queue : List ℕ) (posted : ℕ → List ℕ) where
  abbrev In : (ℕ → ℕ) → Station → Type 0
  In told s = Sound queue posted told s

  pub sound_alike : {told : ℕ → ℕ} (s t : Station) → Alike s t → In told s → In told t
  sound_alike {told} s t e k =
      record {
        free = subst (λ (u : ℕ). Unposted u t.queues) (sym e.0) (subst (Unposted s.used) (sym e.1) k.free);
        kept = subst (Kept queue posted told) (sym e.1) k.kept;
      }

  pub sound_same : {told told' : ℕ → ℕ} (s : Station) → ((i : ℕ) → i < 62 → told' i ≡ told i) → In told s → In told' s
  sound_same s e k = record { free = k.free; kept = kept_same e k.kept }

  -- ---- a boat is admitted

  admit_by_lem : {told : ℕ → ℕ} (seat : Seat) (s : Station) (call : List ℕ) (v : ℕ) (now : Float) → seat_of s call ≡ seat → In told s → In told (admit_by seat s call v now).station
  admit_by_lem (Known i) s call v now e k = record { free = k.free; kept = k.kept }
  admit_by_lem (Free i) s call v now e k =
      let l = seat_lt s call i e in
      let none = ap (has_bit s.used) (index_is i l) ∙ seat_free s call i e in
      record {
        free = change_unposted {A = all} s _ (entered (index_of i) call 63 now (index_lt i) none (inl refl)) k.free;
        kept = kept_empty s.queues (index_of i) (index_lt i) (k.free.none (index_of i) (index_lt i) none) k.kept;
      }
  admit_by_lem Full s call v now e k = k

  pub sound_admit : {told : ℕ → ℕ} (s : Station) (call : List ℕ) (v : ℕ) (now : Float) → In told s → In told (admit_by (seat_of s call) s call v now).station
  sound_admit s call v now k = admit_by_lem (seat_of s call) s call v now refl k

  -- ---- a frame

  module _ (a : Air) where
    checkin_alike : (len : ℕ) (p : List ℕ) (s : Station)
        → Alike (admit_by (seat_of s (call_at p 1)) s (call_at p 1) 63 a.time).station (checkin_frame a len p s).station
    unfolding checkin_frame
    checkin_alike len p s =
        let d = (admit_by (seat_of s (call_at p 1)) s (call_at p 1) 63 a.time).station in
        cond_keeps (Alike d) (eqb (slot_of (seat_of s (call_at p 1))) 255) _ _ (λ _. (refl, refl)) (λ _. (refl, refl))

    sound_checkin : {told : ℕ → ℕ} (len : ℕ) (p : List ℕ) (s : Station) → In told s → In told (checkin_frame a len p s).station
    sound_checkin len p s k =
        let d = (admit_by (seat_of s (call_at p 1)) s (call_at p 1) 63 a.time).station in
        sound_alike d (checkin_frame a len p s).station (checkin_alike len p s) (sound_admit s (call_at p 1) 63 a.time k)

    overheard_by_lem : {told : ℕ → ℕ} (seat : Seat) (p : List ℕ) (slot v e : ℕ) (x : Said) → seat_of x.station (call_at p e) ≡ seat → In told x.station
        → In told (overheard_by seat a p e slot v x).station
    overheard_by_lem (Known i) p slot v e x q k = k
    overheard_by_lem (Free c) p slot v e x q k =
        let d = (admit_by (Free c) x.station (call_at p e) v a.time).station in
        let t = (overheard_by (Free c) a p e slot v x).station in
        let z : Alike d t = cond_keeps (Alike d) (is_member d.used slot) _ _ (λ _. (refl, refl)) (λ _. (refl, refl)) in
        sound_alike d t z (admit_by_lem (Free c) x.station (call_at p e) v a.time q k)
    overheard_by_lem Full p slot v e x q k = k

    sound_overheard : {told : ℕ → ℕ} (len : ℕ) (p : List ℕ) (slot : ℕ) (s : Station) → In told s → In told (overheard_frame a len p slot s).station
    unfolding overheard_frame overheard_entry
    sound_overheard {told} len p slot s k =
        each_keeps (λ (x : Said). In told x.station) (overheard_entry a p slot (relay_of s slot))
        (λ e x h. overheard_by_lem (seat_of x.station (call_at p e)) p slot (relay_of s slot) e x refl h) 8 len 32 1 (said s []) k

    module _ (flags field : ℕ) (p : List ℕ) (x : Reading) (told : ℕ → ℕ) (k : In told x.station) where
      abbrev s : Station
      s = x.station

      abbrev told' : ℕ → ℕ
      told' = also_told (heard flags field p) s.used told

      -- no report
      no_report : is_report flags p ≡ false → (t : Station) → In told t → In told' t
      no_report e t h = sound_same t (λ i l. told_not flags field p s.used told i e) h

      abbrev slot : ℕ
      slot = get_or p 1 0

      report_same : is_member s.used slot ≡ false → In told' s
      report_same e =
          sound_same s
          (λ i l.
          ⊎_elim (λ q. told_none flags field p s.used told i (ap (is_member s.used) (sym q) ∙ e)) (λ q. told_other flags field p s.used told i q) (eq_or_not slot i)) k

      report_kept : is_report flags p ≡ true → is_member s.used slot ≡ true → Kept queue posted told' (set s.queues (index_of slot) (reported_to (queue_at s slot) (u24 p 9)))
      report_kept r m =
          let l = member_lt s.used slot m in
          let z = index_is slot l in
          let n = u24 p 9 in
          let h = holds_reported queue slot (get_or s.queues slot empty_queue) (posted slot) (told slot) n (k.kept.each slot l) in
          let w = set s.queues slot (reported_to (get_or s.queues slot empty_queue) n) in
          let g : Kept queue posted told' w =
          record {
            many = length-set s.queues slot (reported_to (get_or s.queues slot empty_queue) n) ∙ k.kept.many;
            each = λ i j.
                ⊎_elim
                (λ e.
                subst (λ (y : ℕ). Holds queue y (get_or w y empty_queue) (posted y) (told' y)) e
                (subst (λ (t : ℕ). Holds queue slot (get_or w slot empty_queue) (posted slot) t) (sym (told_here flags field p s.used told slot r m refl))
                (subst (λ (q : Queue). Holds queue slot q (posted slot) (most_of (told slot) n)) (sym (get_or-set_same s.queues slot (reported_to (get_or s.queues slot empty_queue) n) empty_queue (omega (arith, k.kept.many)))) h)))
                (λ e.
                subst (λ (t : ℕ). Holds queue i (get_or w i empty_queue) (posted i) t) (sym (told_other flags field p s.used told i e))
                (subst (λ (q : Queue). Holds queue i q (posted i) (told i)) (sym (get_or-set_other s.queues slot i (reported_to (get_or s.queues slot empty_queue) n) empty_queue (λ y. e (sym y)))) (k.kept.each i j)))
                (eq_or_not slot i);
          } in
          subst (λ (y : ℕ). Kept queue posted told' (set s.queues y (reported_to (get_or s.queues y empty_queue) n))) (sym z) g

      report_free : is_member s.used slot ≡ true → Unposted s.used (set s.queues (index_of slot) (reported_to (queue_at s slot) (u24 p 9)))
      report_free m =
          change_unposted {A = all} s _ (queued (index_of slot) (reported_to (queue_at s slot) (u24 p 9)) (index_lt slot) (index_member s.used slot m) (reports (u24 p 9))) k.free

      sound_report : (len : ℕ) → is_report flags p ≡ true → In told' (report_frame a len p x).station
      unfolding report_frame
      sound_report len r =
          cond_keeps (In told') (is_member s.used slot) _ s (λ m. record { free = report_free m; kept = report_kept r m }) (λ m. report_same m)

      abbrev Read : Reading → Type 0
      Read y = In told' y.station

      sound_control : eqb (flags / 64) t_ctrl ≡ true → Read (control_by a (flags % 64) (get_or p 0 0) (length p) p x)
      unfolding control_by
      sound_control c =
          let b = get_or p 0 0 in
          let len = length p in
          let ctrl = eqb (flags / 64) t_ctrl in
          let no : eqb b c_report ≡ false → is_report flags p ≡ false = λ e. and_second ctrl (eqb b c_report) (leb 12 len) e in
          cond_keeps Read (eqb b c_checkin) _ _
          (λ q. let z = no (ne_eqb b c_report (λ e. omega (arith, eqb-true b c_checkin q))) in
          cond_keeps Read (leb 7 len) _ x (λ _. no_report z _ (sound_checkin len p s k)) (λ _. no_report z s k))
          (λ _. cond_keeps Read (eqb b c_report) _ _
          (λ q. cond_keeps Read (leb 12 len) (report_frame a len p x) x (λ m. sound_report len (and_all ctrl (eqb b c_report) (leb 12 len) c q m)) (λ m. no_report (and_third ctrl (eqb b c_report) (leb 12 len) m) s k))
          (λ q. cond_keeps Read (eqb b c_overheard) _ _ (λ _. no_report (no q) _ (sound_overheard len p (flags % 64) s k))
          (λ _. cond_keeps Read (eqb b c_kids) _ x (λ _. no_report (no q) _ (sound_alike s _ (kids_alike a len p (flags % 64) s) k)) (λ _. no_report (no q) s k))))

      sound_heard : Read (read_frame a (heard flags field p) x)
      unfolding read_frame
      sound_heard =
          let ctrl = eqb (flags / 64) t_ctrl in
          let b = eqb (get_or p 0 0) c_report in
          let len = leb 12 (length p) in
          cond_keeps Read (eqb (flags / 64) t_up) (piece_frame a (flags % 64) field p x) _
          (λ q. no_report (and_first ctrl b len (ne_eqb (flags / 64) t_ctrl (λ e. omega (arith, eqb-true (flags / 64) t_up q)))) _
          (sound_alike s (piece_frame a (flags % 64) field p x).station (piece_alike a (flags % 64) field p x) k))
          (λ _. cond_keeps Read ctrl _ x
          (λ c. cond_keeps Read (eqb (length p) 0) x (control_by a (flags % 64) (get_or p 0 0) (length p) p x)
          (λ z. no_report (and_third ctrl b len (short_none (length p) (eqb-true (length p) 0 z))) s k) (λ _. sound_control c))
          (λ c. no_report (and_first ctrl b len c) s k))

    sound_frame : (f : Heard) (x : Reading) (told : ℕ → ℕ) → In told x.station → In (also_told f x.station.used told) (frame_step a f x).station
    unfolding frame_step read_frame also_told
    sound_frame lost x told k = k
    sound_frame (heard flags field p) x told k = sound_heard flags field p x told k

    pub sound_frames : (fs : List Heard) (x : Reading) (n : ℕ) (told : ℕ → ℕ) → length x.seen ≡ n → In told x.station
        → In (told_by fs n (read_frames a fs x).seen told) (read_frames a fs x).station
    unfolding told_by read_frames
    sound_frames [] x n told e k = k
    sound_frames (f ∷ fs) x n told e k =
        let y = frame_step a f x in
        let w = (read_frames a fs y).seen in
        let q = step_seen a f x in
        let m : length y.seen ≡ n + 1 = ap length q ∙ length-append x.seen (x.station.used ∷ []) ∙ ap (λ (j : ℕ). j + 1) e in
        let u : get_or w n 0 ≡ x.station.used =
        seen_stays a fs y n (omega arith) ∙ ap (λ (l : List ℕ). get_or l n 0) q ∙ ap (λ (j : ℕ). get_or (x.seen ++ (x.station.used ∷ [])) j 0) (sym e) ∙ get_last x.seen x.station.used in
        sound_frames fs y (n + 1) (also_told f (get_or w n 0) told) m
        (subst (λ (v : ℕ). In (also_told f v told) y.station) (sym u) (sound_frame f x told k))

    -- ---- a reception

    tiny_alike : (h : Head) (s : Station) → Alike s (cond (eqb h.hi k_idle) (idle_end a h.extra s) (nothing_more s)).station
    tiny_alike h s =
        cond_keeps (λ (e : Ended). Alike s e.station) (eqb h.hi k_idle) _ _ (λ _. spoken_alike (idle_spoken uncelled tt a.time [] 0 a tt h.extra s))
        (λ _. (refl, refl))

    rx_by_lem : {told : ℕ → ℕ} (t : Bool) (b : Burst) (x : Reading) → length x.seen ≡ 0 → In told x.station
        → In (told_by (cond t [] b.frames) 0 (cond t (tiny_burst a b.head x) (full_burst a b.head (read_frames a b.frames x))).seen told)
        (cond t (tiny_burst a b.head x) (full_burst a b.head (read_frames a b.frames x))).station
    unfolding told_by
    rx_by_lem true b x e k = sound_alike x.station (tiny_burst a b.head x).station (tiny_alike b.head x.station) k
    rx_by_lem {told} false b x e k =
        let y = read_frames a b.frames x in
        sound_alike y.station (reply_end a b.head y).station (spoken_alike (reply_spoken uncelled tt a.time [] 0 a tt b.head y))
        (sound_frames b.frames x 0 told e k)

  pub rx_sound : {told : ℕ → ℕ} (s : Station) (b : Burst) (snr now : Float) (store : List ℕ) → In told s
      → In (told_by (frames_by (parsed b)) 0 (ncs_rx s b snr now store).seen told) (ncs_rx s b snr now store).station
  unfolding ncs_rx
  rx_sound s b snr now store k =
      let t = with_wait s (busy_wait s.wait b.head s.settings now) in
      rx_by_lem (air_of s b.head snr now) (eqb b.head.code tiny) b (first_reading t store) refl (record { free = k.free; kept = k.kept })

  pub rx_other : (s : Station) (b : Burst) (snr now : Float) (store : List ℕ) → Other (ncs_rx s b snr now store).words
  rx_other s b snr now store = spoken_other (rx_spoken all tt now [] tt s b snr store tt)
