-- Admission, the frames of a reception and what its end hears are chains of single changes: those of a control frame and of the end leave the messages alone.
-- Assumes nothing.
use Rattle.std.specs.Prelude.{Option, Some, None, is_some}
use Rattle.std.specs.Bool.{then_some}
use mathlib.Core.Path.{◌≡◌, refl, sym, ap, ◌∙◌}
use mathlib.Core.Logic.{inl, inr, ⊎_elim}
use Prim.Native.Nat.{ℕ, zero, suc, ◌+◌, ◌/◌, ◌%◌, ◌<◌}
use native.Mathlib.Omega.{arith}
use mathlib.Core.Bool.{Bool, true, false, ◌&&◌}
use mathlib.Core.List.{List, [], ◌∷◌}
use lib.Dec.{eqb, ltb, leb}
use lib.Ieee.{Float}
use lib.ListN.{length, get_or}
use borrow.Author.Tests.{ltb-true}
use Rattle.bits.specs.Mask.{has_bit, with_bit}
use Rattle.bits.proofs.Lists.{cond_keeps, and_true, eq_or_not}
use Rattle.bits.proofs.Laws.{with_same, with_other}
use Rattle.wire.specs.Fields.{snr_from_q}
use Rattle.words.specs.declared.Head.{Head}
use Rattle.words.specs.Words.{Heard, lost, heard}
use Rattle.recent.specs.Readings.{empty}
use Rattle.roster.specs.declared.Member.{Member}
use Rattle.roster.specs.Members.{with_caps, with_version, received_at, is_willing}
use Rattle.net.specs.declared.Station.{Station}
use Rattle.net.specs.declared.Settings.{Settings}
use Rattle.net.specs.declared.Turn.{Turn}
use Rattle.net.specs.declared.Turn.TheVariants.{Idle, Sending, Waiting}
use Rattle.net.specs.declared.Wait.{Wait}
use Rattle.net.specs.State.{index_of, member_at, with_member, with_counted, with_hears, with_table}
use Rattle.net.specs.Net.{plus, leaf_wait, is_member, Said, said}
use Rattle.net.proofs.Laws.{index_lt, index_is, member_lt, member_is, member_has}
use Rattle.admit.specs.declared.Seat.{Seat}
use Rattle.admit.specs.declared.Seat.TheVariants.{Known, Free, Full}
use Rattle.admit.specs.Admission.{seat_of, slot_of, admit_by}
use Rattle.admit.proofs.Laws.{known_lt, known_used, seat_lt, seat_free}
use Rattle.frames.specs.declared.Air.{Air}
use Rattle.frames.specs.Reading.{Reading}
use Rattle.frames.specs.Pieces.{is_aside_leaf, heard_member, is_relayed, traffic_if, relay_if, unkept_at, barred_piece, kept_piece, piece_frame}
use Rattle.frames.specs.Control.{each_entry, checkin_member, checked_in, with_active, call_at, checkin_frame, is_forwarded, report_member, hear_pair, report_station, report_frame, relay_of, newcomer, hearing, overheard_by, overheard_entry, overheard_frame, is_kid, kid_entry, kids_frame, kid_member, hear_pairs, u24}
use Rattle.frames.specs.Frames.{control_by, read_frame, frame_step, read_frames}
use Rattle.rx.specs.Ending.{is_busy, postponed, idle_member, idle_heard, reply_heard, busy_wait}
use Rattle.promise.proofs.FrameCases.{control_cases, frame_cases}
use Rattle.promise.proofs.Walk.{Allowed, Fields, none, also, burst, caps, version, down, received, direct, reached, RelayOk, hears, entered, offered, piece, landed, barred, Chain, start, more, chain_then}
use Rattle.promise.proofs.Walk as walk
use Rattle.promise.proofs.WalkNext.{index_member, calm, ack, turn, write, count, heard_at_lem, queue}

-- what each entry keeps, all keep
pub each_keeps : {A : Type 0} (P : A → Type 0) (f : ℕ → A → A) → ((e : ℕ) (x : A) → P x → P (f e x)) → (w len n e : ℕ) (x : A) → P x → P (each_entry f w len n e x)
unfolding each_entry
each_keeps P f h w len zero e x p = p
each_keeps P f h w len (suc n) e x p =
    cond_keeps P (leb (e + w) len) _ x (λ _. each_keeps P f h w len n (e + w) (f e x) (h e x p)) (λ _. p)

-- ---- what is known where a change is made

-- a member stays one when another enters
pub member_with : (used c i : ℕ) → is_member used i ≡ true → is_member (with_bit used c) i ≡ true
member_with used c i h =
    let l = member_lt used i h in
    member_is (with_bit used c) i l
    ∙ ⊎_elim
    (λ e. rw e (with_same used i (omega arith)))
    (λ n. with_other used c i n ∙ member_has used i h)
    (eq_or_not c i)

relay_with : (used c v : ℕ) → RelayOk used v → RelayOk (with_bit used c) v
relay_with used c v r = ⊎_elim (λ e. inl e) (λ h. inr (member_with used c v h)) r

-- the relay of a frame's newcomers: its own boat, or none
relay_of_lem : (s : Station) (slot : ℕ) → RelayOk s.used (relay_of s slot)
unfolding relay_of
relay_of_lem s slot =
    cond_keeps (RelayOk s.used) (is_member s.used slot && eqb (member_at s slot).via 63 && is_willing (member_at s slot)) slot 63
    (λ e. inr (and_true (is_member s.used slot) _ (and_true (is_member s.used slot && eqb (member_at s slot).via 63) _ e).0).0)
    (λ _. inl refl)

known_here : (s : Station) (call : List ℕ) (i : ℕ) → seat_of s call ≡ Known i → is_member s.used i ≡ true
known_here s call i e = member_is s.used i (known_lt s call i e) ∙ known_used s call i e

-- a newcomer is a member
new_here : (used i : ℕ) → i < 62 → is_member (with_bit used (index_of i)) i ≡ true
new_here used i h = rw (index_is i h) (member_is (with_bit used i) i h ∙ with_same used i (omega arith))

-- the deadline moves, and nothing else
put_off : (y : Turn) (v : Wait) (at : Float) → v.turn ≡ y → (postponed y v at).turn ≡ v.turn
put_off Idle v at e = refl
put_off Sending v at e = refl
put_off (Waiting p) v at e = sym e

pub busy_turn : (v : Wait) (h : Head) (g : Settings) (now : Float) → (busy_wait v h g now).turn ≡ v.turn
busy_turn v h g now =
    cond_keeps (λ y. y.turn ≡ v.turn) (is_busy h) (postponed v.turn v (plus now (leaf_wait g))) v (λ e. put_off v.turn v (plus now (leaf_wait g)) refl) (λ e. refl)

pub idle_wait_lem : (a : Air) (extra : ℕ) (s : Station) → (idle_heard a extra s).wait ≡ s.wait
idle_wait_lem a extra s = cond_keeps (λ (t : Station). t.wait ≡ s.wait) (is_member s.used (extra % 64)) _ s (λ _. refl) (λ _. refl)

pub reply_wait : (a : Air) (slot n : ℕ) (s : Station) → (reply_heard a slot n s).wait ≡ s.wait
reply_wait a slot n s = cond_keeps (λ (t : Station). t.wait ≡ s.wait) (is_member s.used slot) _ s (λ _. refl) (λ _. refl)

module _ (A : Allowed) where
  -- ---- admission

  abbrev Sat : Station → ℕ → Said → Type 0
  Sat s₀ v x = Chain A s₀ x.station × RelayOk x.station.used v

  module _ (s₀ s : Station) (call : List ℕ) (v : ℕ) (now : Float) (r : RelayOk s.used v) (k : Chain A s₀ s) where
    admit_by_lem : (seat : Seat) → seat_of s call ≡ seat → Sat s₀ v (admit_by seat s call v now)
    admit_by_lem (Known i) e = (ack A s₀ s (index_of i) (index_member s.used i (known_here s call i e)) k, r)
    admit_by_lem (Free i) e =
        let l = seat_lt s call i e in
        let free = ap (has_bit s.used) (index_is i l) ∙ seat_free s call i e in
        let here = new_here s.used i l in (
          ack A s₀ _ (index_of i) (index_member (with_bit s.used (index_of i)) i here)
              (heard_at_lem A s₀ _ i empty here (more k (entered (index_of i) call v now (index_lt i) free r))),
          relay_with s.used (index_of i) v r,
        )
    admit_by_lem Full e = (k, r)

  pub admit_walk : (s : Station) (call : List ℕ) (v : ℕ) (now : Float) → RelayOk s.used v → Chain A s (admit_by (seat_of s call) s call v now).station
  admit_walk s call v now r = (admit_by_lem s s call v now r start (seat_of s call) refl).0

  -- ---- control frames

  module _ (a : Air) (ok : A.level a.level) where
    caps_fields : (n : Option ℕ) (m k : Member) → Fields A m k → Fields A m (with_caps k n)
    caps_fields (Some n) m k f = also f (caps _)
    caps_fields None m k f = f

    version_fields : (n : Option ℕ) (m k : Member) → Fields A m k → Fields A m (with_version k n)
    version_fields (Some n) m k f = also f (version _)
    version_fields None m k f = f

    checkin_fields : (len : ℕ) (p : List ℕ) (m : Member) → Fields A m (checkin_member a len p m)
    checkin_fields len p m =
        version_fields (then_some (ltb 9 len) (get_or p 9 0)) m _
        (caps_fields (then_some (ltb 7 len) (get_or p 7 0)) m _ (also none (received a.level (snr_from_q (get_or p 6 0)) a.time ok)))

    report_fields : (q : ℕ) (b : Bool) (m : Member) → Fields A m (report_member a q b m)
    report_fields q true m = also (also none (down q)) (walk.heard a.time)
    report_fields q false m = also none (down q)

    module _ (s₀ : Station) where
      abbrev WalkSaid : Said → Type 0
      WalkSaid x = Chain A s₀ x.station

      checked_walk : (len : ℕ) (p : List ℕ) (slot : ℕ) (s : Station) → is_member s.used slot ≡ true → Chain A s₀ s
          → WalkSaid (checked_in a len p slot (said s []))
      checked_walk len p slot s here k =
          cond_keeps (Chain A s₀) (eqb slot 255) s _ (λ _. k)
          (λ _. heard_at_lem A s₀ _ slot _ here (write A s₀ s slot _ here (checkin_fields len p (member_at s slot)) k))

      checkin_by : (len : ℕ) (p : List ℕ) (s : Station) → Chain A s₀ s → (seat : Seat) → seat_of s (call_at p 1) ≡ seat
          → WalkSaid (checked_in a len p (slot_of seat) (said (with_active (admit_by seat s (call_at p 1) 63 a.time).station) []))
      checkin_by len p s k (Known i) e =
          checked_walk len p i _ (known_here s (call_at p 1) i e)
          (calm A s₀ _ _ _ refl refl refl refl (admit_by_lem s₀ s (call_at p 1) 63 a.time (inl refl) k (Known i) e).0)
      checkin_by len p s k (Free i) e =
          checked_walk len p i _ (new_here s.used i (seat_lt s (call_at p 1) i e))
          (calm A s₀ _ _ _ refl refl refl refl (admit_by_lem s₀ s (call_at p 1) 63 a.time (inl refl) k (Free i) e).0)
      checkin_by len p s k Full e = calm A s₀ s _ _ refl refl refl refl k

      -- whom a boat hears
      hear_walk : (slot c q : ℕ) (t : Station) (h : List ℕ) → is_member t.used slot ≡ true → Chain A s₀ (with_hears t h) → Chain A s₀ (with_hears t (hearing slot c q h))
      hear_walk slot c q t h here k =
          cond_keeps (λ (l : List ℕ). Chain A s₀ (with_hears t l)) (ltb slot 62 && ltb c 62) _ h
          (λ e. more k (hears slot c q here (ltb-true c 62 (and_true (ltb slot 62) (ltb c 62) e).1)))
          (λ _. k)

      pub report_walk : (len : ℕ) (p : List ℕ) (slot : ℕ) (s : Station) → Chain A s₀ s → Chain A s₀ (report_station a len p slot s)
      report_walk len p slot s k =
          let m = report_member a (get_or p 2 0) (is_forwarded a s slot) (member_at s slot) in
          cond_keeps (Chain A s₀) (is_member s.used slot) _ s
          (λ here. queue A s₀ (with_hears (with_member s slot m) (hear_pairs len p slot s.hears)) slot _ here (walk.reports (u24 p 9))
          (each_keeps (λ (h : List ℕ). Chain A s₀ (with_hears (with_member s slot m) h)) (hear_pair p slot)
          (λ e h w. hear_walk slot (get_or p e 0) (get_or p (e + 1) 0) (with_member s slot m) h here w) 2 len 128 12 s.hears
          (write A s₀ s slot m here (report_fields (get_or p 2 0) (is_forwarded a s slot) (member_at s slot)) k)))
          (λ _. k)

      overheard_by_lem : (p : List ℕ) (slot v e : ℕ) (x : Said) → Sat s₀ v x → (seat : Seat) → seat_of x.station (call_at p e) ≡ seat
          → Sat s₀ v (overheard_by seat a p e slot v x)
      overheard_by_lem p slot v e x h (Known i) q = h
      overheard_by_lem p slot v e x h (Free c) q =
          let d = (admit_by (Free c) x.station (call_at p e) v a.time).station in
          let n = admit_by_lem s₀ x.station (call_at p e) v a.time h.1 h.0 (Free c) q in
          let t = with_member d c (newcomer p e (member_at d c)) in
          let k = write A s₀ d c _ (new_here x.station.used c (seat_lt x.station (call_at p e) c q)) (also (also none (caps _)) (version _)) n.0 in
          cond_keeps (λ (y : Station). Chain A s₀ y × RelayOk y.used v) (is_member t.used slot) _ t
          (λ here. (hear_walk slot c (get_or p (e + 5) 0) t t.hears here k, n.1)) (λ _. (k, n.1))
      overheard_by_lem p slot v e x h Full q = h

      overheard_entry_lem : (p : List ℕ) (slot v e : ℕ) (x : Said) → Sat s₀ v x → Sat s₀ v (overheard_entry a p slot v e x)
      unfolding overheard_entry
      overheard_entry_lem p slot v e x h = overheard_by_lem p slot v e x h (seat_of x.station (call_at p e)) refl

      kid_entry_lem : (p : List ℕ) (slot e : ℕ) (x : Said) → WalkSaid x → WalkSaid (kid_entry a p slot e x)
      unfolding kid_entry
      kid_entry_lem p slot e x k =
          let s = x.station in
          let c = get_or p e 0 in
          let b = get_or p (e + 1) 0 in
          cond_keeps WalkSaid (is_kid s c slot) _ x
          (λ q.
          let here = (and_true (is_member s.used c) _ (and_true (is_member s.used c && eqb (member_at s c).via slot) _ q).0).0 in
          heard_at_lem A s₀ (with_counted s c (kid_member a b (member_at s c))) c _ here
          (cond_keeps (λ (m : Member). Chain A s₀ (with_counted s c m)) (leb 128 b) _ _
          (λ _. count A s₀ s c _ 0 here (also none (reached b a.time)) k)
          (λ _. count A s₀ s c (member_at s c) _ here none k)))
          (λ _. k)

    pub checkin_walk : (len : ℕ) (p : List ℕ) (s : Station) → Chain A s (checkin_frame a len p s).station
    unfolding checkin_frame
    checkin_walk len p s = checkin_by s len p s start (seat_of s (call_at p 1)) refl

    pub overheard_walk : (len : ℕ) (p : List ℕ) (slot : ℕ) (s : Station) → Chain A s (overheard_frame a len p slot s).station
    unfolding overheard_frame
    overheard_walk len p slot s =
        (each_keeps (Sat s (relay_of s slot)) (overheard_entry a p slot (relay_of s slot)) (overheard_entry_lem s p slot (relay_of s slot)) 8 len 32 1 (said s []) (start, relay_of_lem s slot)).0

    pub kids_walk : (len : ℕ) (p : List ℕ) (slot : ℕ) (s : Station) → Chain A s (kids_frame a len p slot s).station
    unfolding kids_frame
    kids_walk len p slot s = each_keeps (WalkSaid s) (kid_entry a p slot) (kid_entry_lem s p slot) 2 len 128 1 (said s []) start

    abbrev WalkRead : Reading → Reading → Type 0
    WalkRead x y = Chain A x.station y.station

    pub control_walk : (slot b len : ℕ) (p : List ℕ) (x : Reading) → WalkRead x (control_by a slot b len p x)
    unfolding report_frame
    control_walk slot b len p x =
        control_cases (WalkRead x) a x start slot b len p (checkin_walk len p x.station) (report_walk x.station len p (get_or p 1 0) x.station start)
        (overheard_walk len p slot x.station) (kids_walk len p slot x.station)

    -- ---- a boat's piece

    heard_fields : (m : Member) (slot : ℕ) → Fields A m (heard_member a m slot)
    heard_fields m slot =
        cond_keeps (Fields A m) (is_aside_leaf a m slot) _ _ (λ _. also (also none (walk.heard a.time)) (direct a.level ok)) (λ _. also none (walk.heard a.time))

    module _ (cells : A.cells) (s₀ : Station) where
      abbrev Reads : Reading → Type 0
      Reads x = Chain A s₀ x.station

      traffic_walk : (b : Bool) (s : Station) → Chain A s₀ s → Chain A s₀ (traffic_if b s)
      traffic_walk true s k = calm A s₀ s _ _ refl refl refl refl k
      traffic_walk false s k = k

      relay_walk : (b : Bool) (s : Station) → Chain A s₀ s → Chain A s₀ (relay_if b s)
      relay_walk true s k = calm A s₀ s _ _ refl refl refl refl k
      relay_walk false s k = k

      piece_walk : (slot field : ℕ) (p : List ℕ) (x : Reading) → Reads x → Reads (piece_frame a slot field p x)
      unfolding piece_frame
      piece_walk slot field p x k =
          let s = x.station in
          let r = offered s x.store slot field p in
          let m = heard_member a (member_at s slot) slot in
          cond_keeps Reads (is_member s.used slot) _ x
          (λ here. cond_keeps Reads r.lost _ (kept_piece a slot r x)
          (λ _. cond_keeps (λ (y : Reading). Reads (unkept_at y)) r.bars (barred_piece slot r x) x (λ b. more k (barred cells x.store slot field p here b)) (λ _. k))
          (λ l.
          relay_walk (is_relayed a s slot r) _ (traffic_walk (is_some r.landed) _
          (cond_keeps (λ (y : Member). Chain A s₀ (with_member (with_table s r.table) slot y)) (is_some r.landed) _ m
          (λ d. more k (landed cells x.store slot field p m here (heard_fields (member_at s slot) slot) l d))
          (λ d. more k (piece cells x.store slot field p m here (heard_fields (member_at s slot) slot) l d))))))
          (λ _. k)

      -- ---- the frames

      frame_walk : (f : Heard) (x : Reading) → Reads x → Reads (read_frame a f x)
      unfolding read_frame
      frame_walk lost x k = k
      frame_walk (heard flags field p) x k =
          frame_cases Reads a x k flags field p (piece_walk (flags % 64) field p x k) (chain_then k (control_walk (flags % 64) (get_or p 0 0) (length p) p x))

      pub frames_walk : (fs : List Heard) (x : Reading) → Reads x → Reads (read_frames a fs x)
      unfolding read_frames frame_step
      frames_walk [] x k = k
      frames_walk (f ∷ fs) x k = frames_walk fs (frame_step a f x) (frame_walk f x k)

    -- ---- the end of a reception

    module _ (turns : A.turns) (s₀ : Station) where
      pub idle_heard_lem : (extra : ℕ) (s : Station) → Chain A s₀ s → Chain A s₀ (idle_heard a extra s)
      idle_heard_lem extra s k =
          let slot = extra % 64 in
          let m = member_at s slot in
          let q = snr_from_q (extra / 64 % 64) in
          let f : Fields A m (received_at m a.level q a.time) = also none (received a.level q a.time ok) in
          cond_keeps (Chain A s₀) (is_member s.used slot) _ s
          (λ here.
          heard_at_lem A s₀ (with_counted s slot (idle_member a extra m)) slot _ here
          (cond_keeps (λ (y : Member). Chain A s₀ (with_counted s slot y)) (eqb m.via 63) _ _
          (λ _. count A s₀ s slot _ 0 here f k)
          (λ _. count A s₀ s slot _ 0 here (also f (direct a.level ok)) k)))
          (λ _. k)

      pub reply_heard_lem : (slot n : ℕ) (s : Station) → Chain A s₀ s → Chain A s₀ (reply_heard a slot n s)
      reply_heard_lem slot n s k =
          cond_keeps (Chain A s₀) (is_member s.used slot) _ s
          (λ here. heard_at_lem A s₀ _ slot _ here
          (count A s₀ s slot _ 0 here (also (also none (received a.level (member_at s slot).snrdown a.time ok)) (burst ((n + 1) % 4))) k))
          (λ _. k)
