-- The words that rerouting, admission and the frames of a reception return are events alone, and how many they are at most. Assumes nothing.
use Rattle.std.specs.Prelude.{Option, Some, None, is_some}
use mathlib.Core.Path.{◌≡◌, refl, sym, subst}
use Prim.Native.Nat.{ℕ, zero, suc, ◌+◌, ◌-◌, ◌*◌, ◌/◌, ◌%◌, ◌≤◌, ◌<◌}
use native.Mathlib.Omega.{arith}
use mathlib.Core.Bool.{Bool, true, false, cond}
use mathlib.Core.List.{List, [], ◌∷◌, ◌++◌}
use lib.Dec.{eqb, leb}
use lib.Ieee.{Float}
use lib.ListN.{length, get_or}
use borrow.Author.Tests.{leb-true}
use Rattle.bits.specs.Loop.{fold}
use Rattle.bits.specs.Mask.{has_bit}
use Rattle.bits.proofs.Lists.{cond_keeps}
use Rattle.level.specs.declared.Level.{Level}
use Rattle.level.specs.declared.Level.TheVariants.{Unheard, Decibels}
use Rattle.words.specs.Words.{Heard, lost, heard}
use Rattle.out.specs.Encode.{event_word, message_word, missed_word}
use Rattle.roster.specs.Relays.{promotable_at}
use Rattle.net.specs.declared.Station.{Station}
use Rattle.net.specs.Net.{is_member, Said, said}
use Rattle.bursts.specs.Rows.{member_in}
use Rattle.bursts.specs.Reroute.{floor_of, promote_with, promote_at, promote_all, leaves_of, new_relay, must_move, move_at, move_all, reroute_of}
use Rattle.admit.specs.declared.Seat.{Seat}
use Rattle.admit.specs.declared.Seat.TheVariants.{Known, Free, Full}
use Rattle.admit.specs.Admission.{seat_of, admit_by}
use Rattle.frames.specs.declared.Air.{Air}
use Rattle.frames.specs.Reading.{Reading}
use Rattle.frames.specs.Pieces.{relayer, relayed_words, unkept_at, kept_piece, piece_frame}
use Rattle.frames.specs.Control.{each_entry, call_at, checkin_frame, is_forwarded, report_says, report_frame, relay_of, overheard_by, overheard_entry, overheard_frame, is_kid, kid_entry, kids_frame}
use Rattle.frames.specs.Frames.{read_frame, frame_step, read_frames}
use Rattle.promise.proofs.FrameCases.{control_cases, frame_cases}
use Rattle.promise.proofs.Walk.{offered}

-- n events at most: words below 8, of which word 2, a message, stands there only where M says that it may
pub data Events (M : Type 0) : ℕ → List ℕ → Type 0 where
  none : {n : ℕ} → Events M n []
  more : {n k w : ℕ} {ws : List ℕ} → w < 2147483648 → (w / 268435456 ≡ 2 → M) → n < k → Events M n ws → Events M k (w ∷ ws)

-- of a frame, by the length of its payload; of the frames of a reception
abbrev pub most_of : Heard → ℕ
most_of lost = 0
most_of (heard flags field p) = 2 + (length p - 4) / 2

unfoldable pub most_in : List Heard → ℕ
most_in [] = 0
most_in (f ∷ fs) = most_of f + most_in fs

says_same : (b : Bool) (p : List ℕ) (x : Reading) → (report_says b p x).words ≡ x.words
says_same true p x = refl
says_same false p x = refl

pub events_less : {M : Type 0} {n k : ℕ} {ws : List ℕ} → n ≤ k → Events M n ws → Events M k ws
events_less h none = none
events_less {k = j} h (more {n = i} l m q e) = more {n = i} {k = j} l m (omega arith) e

pub events_both : {M : Type 0} {n k : ℕ} {a b : List ℕ} → Events M n a → Events M k b → Events M (n + k) (a ++ b)
events_both none f = events_less (omega arith) f
events_both {n = i} {k = j} (more {n = h} l m q e) f = more {n = h + j} {k = i + j} l m (omega arith) (events_both e f)

event : {M : Type 0} (w k : ℕ) {n : ℕ} {ws : List ℕ} → w < 2147483648 → (w / 268435456 ≡ 2 → M) → n < k → Events M n ws → Events M k (w ∷ ws)
event w k l m h e = more l m h e

module _ (M : Type 0) where
  one : (w : ℕ) → w < 2147483648 → (w / 268435456 ≡ 2 → M) → Events M 1 (w ∷ [])
  one w l m = event w 1 {n = 0} l m (omega arith) none

  pub missed_event_lem : (slot : ℕ) → Events M 1 (missed_word slot ∷ [])
  missed_event_lem slot = one (missed_word slot) (omega arith) (λ e. absurd (omega arith))

  abbrev Says : ℕ → Said → Type 0
  Says n x = Events M n x.words

  -- ---- rerouting: 62 promotions and 62 reroutings at most

  fold_events : (f : ℕ → Said → Said) → ((i n : ℕ) (x : Said) → Says n x → Says (n + 1) (f i x)) → (k i n : ℕ) (x : Said) → Says n x
      → Says (n + k) (fold f k i x)
  unfolding fold
  fold_events f h zero i n x e = events_less (omega arith) e
  fold_events f h (suc k) i n x e = events_less (omega arith) (fold_events f h k (suc i) (n + 1) (f i x) (h i n x e))

  promote_with_lem : (l : Level) (i n : ℕ) (x : Said) → Says n x → Says (n + 1) (promote_with l i x)
  promote_with_lem Unheard i n x e = events_less (omega arith) e
  promote_with_lem (Decibels snr) i n x e = events_both e (one (event_word 5 i 63) (omega arith) (λ q. absurd (omega arith)))

  promote_events : (floor : Float) (i n : ℕ) (x : Said) → Says n x → Says (n + 1) (promote_at floor i x)
  unfolding promote_at
  promote_events floor i n x e = promote_with_lem (promotable_at (has_bit x.station.used i) (member_in x.station i) floor) i n x e

  move_events : (leaves c n : ℕ) (x : Said) → Says n x → Says (n + 1) (move_at leaves c x)
  unfolding move_at
  move_events leaves c n x e =
      let r = new_relay x.station c in
      cond_keeps (Says (n + 1)) (must_move leaves x.station c) _ x
      (λ _. cond_keeps (Says (n + 1)) (eqb r 63) x _ (λ _. events_less (omega arith) e)
      (λ _. events_both e (one (event_word 5 c r) (omega arith) (λ q. absurd (omega arith)))))
      (λ _. events_less (omega arith) e)

  pub reroute_events : (s : Station) → Events M 124 (reroute_of s).words
  unfolding reroute_of move_all promote_all
  reroute_events s =
      fold_events (move_at (leaves_of (promote_all s).station)) (move_events (leaves_of (promote_all s).station)) 62 0 62 (promote_all s)
      (fold_events (promote_at (floor_of s)) (promote_events (floor_of s)) 62 0 0 (said s []) none)

  -- ---- admission: two

  pub admit_events_lem : (seat : Seat) (s : Station) (call : List ℕ) (v : ℕ) (now : Float) → Events M 2 (admit_by seat s call v now).words
  admit_events_lem (Known i) s call v now = none
  admit_events_lem (Free i) s call v now =
      let e : Events M 1 (event_word 1 i v ∷ []) = one (event_word 1 i v) (omega arith) (λ q. absurd (omega arith)) in
      cond_keeps (Events M 2) (eqb v 63) (event_word 1 i v ∷ []) (event_word 4 i v ∷ event_word 1 i v ∷ []) (λ _. events_less (omega arith) e)
      (λ _. event (event_word 4 i v) 2 (omega arith) (λ q. absurd (omega arith)) (omega arith) e)
  admit_events_lem Full s call v now = none

  -- ---- control frames

  -- entries of w bytes, with c events each at most, in a payload of which the first byte is no entry's
  module _ (f : ℕ → Said → Said) (w c len : ℕ) (few : 2 * c ≤ w) (each : (e n : ℕ) (x : Said) → Says n x → Says (n + c) (f e x)) where
    each_events : (k e n : ℕ) (x : Said) → 2 * n + 1 ≤ e → 2 * n ≤ len → Says n x → Says (len / 2) (each_entry f w len k e x)
    unfolding each_entry
    each_events zero e n x h l q = events_less (omega arith) q
    each_events (suc k) e n x h l q =
        cond_keeps (Says (len / 2)) (leb (e + w) len) _ x
        (λ t. let z = leb-true (e + w) len t in each_events k (e + w) (n + c) (f e x) (omega arith) (omega arith) (each e n x q))
        (λ _. events_less (omega arith) q)

  module _ (a : Air) where
    pub checkin_events : (len : ℕ) (p : List ℕ) (s : Station) → Events M 2 (checkin_frame a len p s).words
    unfolding checkin_frame
    checkin_events len p s = admit_events_lem (seat_of s (call_at p 1)) s (call_at p 1) 63 a.time

    overheard_by_lem : (seat : Seat) (p : List ℕ) (slot v e n : ℕ) (x : Said) → Says n x → Says (n + 2) (overheard_by seat a p e slot v x)
    overheard_by_lem (Known i) p slot v e n x h = events_less (omega arith) h
    overheard_by_lem (Free c) p slot v e n x h = events_both h (admit_events_lem (Free c) x.station (call_at p e) v a.time)
    overheard_by_lem Full p slot v e n x h = events_less (omega arith) h

    pub overheard_events : (len : ℕ) (p : List ℕ) (slot : ℕ) (s : Station) → Events M (len / 2) (overheard_frame a len p slot s).words
    unfolding overheard_frame overheard_entry
    overheard_events len p slot s =
        each_events (overheard_entry a p slot (relay_of s slot)) 8 2 len (omega arith)
        (λ e n x h. overheard_by_lem (seat_of x.station (call_at p e)) p slot (relay_of s slot) e n x h) 32 1 0 (said s []) (omega arith) (omega arith) none

    kid_events_lem : (p : List ℕ) (slot e n : ℕ) (x : Said) → Says n x → Says (n + 1) (kid_entry a p slot e x)
    unfolding kid_entry
    kid_events_lem p slot e n x h =
        let c = get_or p e 0 in
        let b = get_or p (e + 1) 0 in
        cond_keeps (Says (n + 1)) (is_kid x.station c slot) _ x
        (λ _. events_both h (cond_keeps (Events M 1) (leb 128 b) [] (missed_word c ∷ []) (λ _. none) (λ _. missed_event_lem c)))
        (λ _. events_less (omega arith) h)

    pub kids_events : (len : ℕ) (p : List ℕ) (slot : ℕ) (s : Station) → Events M (len / 2) (kids_frame a len p slot s).words
    unfolding kids_frame
    kids_events len p slot s = each_events (kid_entry a p slot) 2 1 len (omega arith) (kid_events_lem p slot) 128 1 0 (said s []) (omega arith) (omega arith) none

    -- ---- the frames, where messages may be

    module _ (m : M) where
      abbrev Reads : ℕ → Reading → Type 0
      Reads n x = Events M n x.words

      piece_one : (b : Bool) (via : Option ℕ) (slot cell number : ℕ) → Events M 2 (cond b (relayed_words via slot ++ (message_word slot cell number ∷ [])) [])
      piece_one true (Some v) slot cell number =
          event (event_word 4 slot v) 2 (omega arith) (λ q. m) (omega arith) (one (message_word slot cell number) (omega arith) (λ q. m))
      piece_one true None slot cell number = events_less (omega arith) (one (message_word slot cell number) (omega arith) (λ q. m))
      piece_one false via slot cell number = none

      frame_events : (f : Heard) (n : ℕ) (x : Reading) → Reads n x → Reads (n + most_of f) (read_frame a f x)
      unfolding read_frame report_frame piece_frame
      frame_events lost n x h = events_less (omega arith) h
      frame_events (heard flags field p) n x h =
          let s = x.station in
          let slot = flags % 64 in
          let k = n + (2 + (length p - 4) / 2) in
          let r = offered s x.store slot field p in
          let same : Reads k x = events_less (omega arith) h in
          frame_cases (Reads k) a x same flags field p
          (cond_keeps (Reads k) (is_member s.used slot) _ x
          (λ _. cond_keeps (Reads k) r.lost _ (kept_piece a slot r x)
          (λ _. cond_keeps (λ (y : Reading). Reads k (unkept_at y)) r.bars _ x (λ _. same) (λ _. same))
          (λ _. events_less (omega arith) (events_both h (piece_one (is_some r.landed) (relayer a s slot r) slot r.cell r.number))))
          (λ _. same))
          (control_cases (Reads k) a x same slot (get_or p 0 0) (length p) p
          (events_less (omega arith) (events_both h (checkin_events (length p) p s)))
          (subst (Events M k) (sym (says_same (is_forwarded a s (get_or p 1 0)) p x)) same)
          (events_less (omega arith) (events_both h (overheard_events (length p) p slot s)))
          (events_less (omega arith) (events_both h (kids_events (length p) p slot s))))

      pub frames_events : (fs : List Heard) (n : ℕ) (x : Reading) → Reads n x → Reads (n + most_in fs) (read_frames a fs x)
      unfolding read_frames frame_step most_in
      frames_events [] n x h = events_less (omega arith) h
      frames_events (f ∷ fs) n x h = events_less (omega arith) (frames_events fs (n + most_of f) (frame_step a f x) (frame_events f n x h))
