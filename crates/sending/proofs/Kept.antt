-- A bit set in an acknowledgement that a reception returns means a frame heard and not marked, of a slot with a member: K_ACK and K_POLLACK have the bits of
-- the frames that `ncs_rx` heard and kept. Assumes nothing.
use mathlib.Core.Path.{◌≡◌, refl, sym, ap, ◌∙◌, subst}
use mathlib.Core.Logic.{◌⊎◌, inl, inr, ⊎_elim}
use Prim.Native.Nat.{ℕ, zero, suc, ◌+◌, ◌*◌, ◌/◌, ◌%◌, ◌^◌, ◌≤◌, ◌<◌}
use native.Mathlib.Omega.{arith}
use mathlib.Core.Bool.{Bool, true, false, not, cond, ◌&&◌, ◌||◌}
use mathlib.Core.List.{List, [], ◌∷◌, ◌++◌}
use lib.Dec.{eqb, leb}
use lib.Ieee.{Float}
use lib.ListN.{length, get_or}
use borrow.Author.Tests.{eqb-true}
use Rattle.bits.specs.Mask.{has_bit, with_bit}
use Rattle.bits.proofs.Laws.{has_none, has_below, with_other}
use Rattle.bits.proofs.Lists.{cond_keeps, cond_true, cond_false, and_true, cases, never_both}
use Rattle.wire.specs.Kinds.{tiny, k_poll, k_relay, k_pollack, k_ack, k_idle, t_up, t_ctrl, c_checkin, c_report, c_overheard, c_kids}
use Rattle.words.specs.Words.{Heard, lost, heard, Burst, Parsed, malformed, parsed, parse, head_of}
use Rattle.words.specs.declared.Head.{Head}
use Rattle.out.specs.Encode.{head_word, wave_word}
use Rattle.stream.specs.Table.{accept}
use Rattle.net.specs.declared.Station.{Station}
use Rattle.net.specs.declared.Reply.{Reply}
use Rattle.net.specs.declared.Turn.{Turn}
use Rattle.net.specs.declared.Turn.TheVariants.{Idle, Sending, Waiting}
use Rattle.net.specs.declared.Wait.{Wait}
use Rattle.net.specs.State.{member_at, table_of, with_wait, one_reply}
use Rattle.net.specs.Net.{is_member}
use Rattle.net.proofs.Laws.{member_lt}
use Rattle.frames.specs.declared.Air.{Air}
use Rattle.frames.specs.Reading.{Reading}
use Rattle.frames.specs.Pieces.{unkept_at, piece_frame}
use Rattle.frames.specs.Control.{is_forwarded, report_frame}
use Rattle.frames.specs.Frames.{control_by, read_frame, is_there, frame_step, read_frames}
use Rattle.rx.specs.Ending.{Ended, busy_wait, idle_heard, idle_by, idle_end, ack_extra, reply_heard, answer_by, goes_on, is_reply, reply_by, reply_end}
use Rattle.rx.specs.Reception.{air_of, first_reading, tiny_burst, full_burst, ncs_rx}
use Rattle.station.specs.Entries.{Outcome, received_as, receive_by, receive_refusal, receive_of}
use Rattle.promise.specs.Promise.{burst_by, bursts_in, TurnEvent, of_burst, frames_by}
use Rattle.promise.proofs.Walk.{Allowed, Change, others, turned, over, hears, written, counted, promoted, moved, entered, queued, posted, piece, landed, freed, barred, readings, signs_off, start, chain_keeps}
use Rattle.promise.proofs.WalkRx.{member_with, frames_walk, busy_turn}
use Rattle.promise.proofs.TurnsKeeps.{frames_calm}
use Rattle.promise.proofs.Readings.{frame_runs}
use Rattle.promise.proofs.Receptions.{step_seen, step_frame, seen_stays, mask_stays, get_last}
use Rattle.sending.specs.Sending.{Among, is_ack_to, bits_of}
use Rattle.sending.proofs.Book.{among_split}
use Rattle.sending.proofs.Polled.{Polled, TurnIn}

-- ---- a frame leaves the bits of the frames before it alone

abbrev SameHeard : Reading → Reading → Type 0
SameHeard x y = y.heard ≡ x.heard

report_heard : (a : Air) (len : ℕ) (p : List ℕ) (x : Reading) → SameHeard x (report_frame a len p x)
unfolding report_frame
report_heard a len p x = cond_keeps (SameHeard x) (is_forwarded a x.station (get_or p 1 0)) x _ (λ _. refl) (λ _. refl)

control_heard : (a : Air) (slot b len : ℕ) (p : List ℕ) (x : Reading) → SameHeard x (control_by a slot b len p x)
unfolding control_by
control_heard a slot b len p x =
    cond_keeps (SameHeard x) (eqb b c_checkin) _ _ (λ _. cond_keeps (SameHeard x) (leb 7 len) _ x (λ _. refl) (λ _. refl))
    (λ _. cond_keeps (SameHeard x) (eqb b c_report) _ _ (λ _. cond_keeps (SameHeard x) (leb 12 len) _ x (λ _. report_heard a len p x) (λ _. refl))
    (λ _. cond_keeps (SameHeard x) (eqb b c_overheard) _ _ (λ _. refl) (λ _. cond_keeps (SameHeard x) (eqb b c_kids) _ x (λ _. refl) (λ _. refl))))

frame_heard : (a : Air) (f : Heard) (x : Reading) → SameHeard x (read_frame a f x)
unfolding read_frame piece_frame
frame_heard a lost x = refl
frame_heard a (heard flags field p) x =
    cond_keeps (SameHeard x) (eqb (flags / 64) t_up) _ _
    (λ _. cond_keeps (SameHeard x) (is_member x.station.used (flags % 64)) _ x
    (λ _. cond_keeps (SameHeard x) (accept (table_of x.station) (member_at x.station (flags % 64)).up x.store (flags % 64) field p).lost _ _
    (λ _. cond_keeps (λ (y : Reading). SameHeard x (unkept_at y)) (accept (table_of x.station) (member_at x.station (flags % 64)).up x.store (flags % 64) field p).bars _ x (λ _. refl) (λ _. refl))
    (λ _. refl))
    (λ _. refl))
    (λ _. cond_keeps (SameHeard x) (eqb (flags / 64) t_ctrl) _ x
    (λ _. cond_keeps (SameHeard x) (eqb (length p) 0) x _ (λ _. refl) (λ _. control_heard a (flags % 64) (get_or p 0 0) (length p) p x)) (λ _. refl))

-- ---- members stay in a reception

abbrev untimed : Allowed
untimed = record { level = λ x. Unit {0}; turns = ⊥; cells = Unit {0}; host = Unit {0} }

module _ (slot : ℕ) where
  abbrev Here : Station → Type 0
  Here s = is_member s.used slot ≡ true

  change_here : (s t : Station) → Change untimed s t → Here s → Here t
  change_here s t (others r n e m q) h = h
  change_here s t (turned a w r n y m q) h = absurd a
  change_here s t (over a r e here) h = absurd a
  change_here s t (hears r c q l e) h = h
  change_here s t (written i m l here f) h = h
  change_here s t (counted i m n l here f) h = h
  change_here s t (promoted i snr l here d) h = h
  change_here s t (moved c r l here there able n) h = h
  change_here s t (entered i call v now l free r) h = member_with s.used i slot h
  change_here s t (queued i q l here f) h = h
  change_here s t (posted a i n l here e) h = h
  change_here s t (piece a store i field p m here f l d) h = h
  change_here s t (landed a store i field p m here f l d) h = h
  change_here s t (freed a cell) h = h
  change_here s t (barred a store i field p here b) h = h
  change_here s t (readings i r l here) h = h
  change_here s t (signs_off a b c i here) h = absurd a

  -- frame j came, is not marked, and as it was read the slot had a member
  pub record KeptAt (f : Heard) (mask j : ℕ) (seen : List ℕ) : Type 0 where
    pub there : is_there f ≡ true
    pub unmarked : has_bit mask j ≡ false
    pub member : is_member (get_or seen j 0) slot ≡ true

  module _ (a : Air) where
    step_here : (f : Heard) (x : Reading) → Here x.station → Here (frame_step a f x).station
    unfolding read_frames
    step_here f x h = chain_keeps Here change_here (frames_walk untimed a tt tt x.station (f ∷ []) x start) h

    -- as frame i is read: none from it on is heard yet, and the slot has a member
    record Ready (x : Reading) (i : ℕ) : Type 0 where
      frame : x.frame ≡ i
      seen : length x.seen ≡ i
      clear : (j : ℕ) → i ≤ j → has_bit x.heard j ≡ false
      here : Here x.station

    step_bit : (f : Heard) (x : Reading) (j : ℕ) → (x.frame ≡ j → ⊥) → has_bit (frame_step a f x).heard j ≡ has_bit x.heard j
    unfolding frame_step
    step_bit f x j n =
        let r = read_frame a f x in
        let e = (frame_runs a f x).frame in
        cond_keeps (λ (m : ℕ). has_bit m j ≡ has_bit x.heard j) (is_there f && not (has_bit r.unkept r.frame)) _ _
        (λ _. with_other r.heard r.frame j (λ q. n (sym e ∙ q)) ∙ ap (λ (m : ℕ). has_bit m j) (frame_heard a f x))
        (λ _. ap (λ (m : ℕ). has_bit m j) (frame_heard a f x))

    bits_stay : (fs : List Heard) (x : Reading) (j : ℕ) → j < x.frame → has_bit (read_frames a fs x).heard j ≡ has_bit x.heard j
    unfolding read_frames
    bits_stay [] x j h = refl
    bits_stay (f ∷ fs) x j h =
        let n = step_frame a f x in
        bits_stay fs (frame_step a f x) j (omega arith) ∙ step_bit f x j (λ e. omega arith)

    step_ready : (f : Heard) (x : Reading) (i : ℕ) → Ready x i → Ready (frame_step a f x) (i + 1)
    step_ready f x i r =
        let p = r.frame in
        record {
          frame = step_frame a f x ∙ ap (λ (n : ℕ). n + 1) r.frame;
          seen = ap length (step_seen a f x) ∙ one_more x.seen x.station.used ∙ ap (λ (n : ℕ). n + 1) r.seen;
          clear = λ j h. step_bit f x j (λ e. omega arith) ∙ r.clear j (omega arith);
          here = step_here f x r.here;
        }
      where
        one_more : (l : List ℕ) (u : ℕ) → length (l ++ (u ∷ [])) ≡ length l + 1
        one_more [] u = refl
        one_more (y ∷ l) u = let e = one_more l u in omega arith

    -- the frame whose bit was set as it was read
    first_kept : (f : Heard) (x : Reading) (i : ℕ) → Ready x i → has_bit (frame_step a f x).heard i ≡ true → (is_there f ≡ true) × (has_bit (frame_step a f x).unkept i ≡ false)
    unfolding frame_step
    first_kept f x i r h =
        let y = read_frame a f x in
        let e : y.frame ≡ i = (frame_runs a f x).frame ∙ r.frame in
        ⊎_elim (λ t.
        let q = and_true (is_there f) (not (has_bit y.unkept y.frame)) t in
        (q.0, ap (has_bit y.unkept) (sym e) ∙ not_true (has_bit y.unkept y.frame) q.1))
        (λ t.
        absurd (never_both (has_bit x.heard i)
        (sym (ap (λ (m : ℕ). has_bit m i) (cond_false (is_there f && not (has_bit y.unkept y.frame)) (with_bit y.heard y.frame) y.heard t ∙ frame_heard a f x)) ∙ h)
        (r.clear i (omega arith))))
        (cases (is_there f && not (has_bit y.unkept y.frame)))
      where
        not_true : (b : Bool) → not b ≡ true → b ≡ false
        not_true true q = absurd (never_both false q refl)
        not_true false q = refl

    heard_kept : (fs : List Heard) (x : Reading) (i k : ℕ) → Ready x i → has_bit (read_frames a fs x).heard (i + k) ≡ true
        → KeptAt (get_or fs k lost) (read_frames a fs x).unkept (i + k) (read_frames a fs x).seen
    unfolding read_frames
    heard_kept [] x i k r h = absurd (never_both (has_bit x.heard (i + k)) h (r.clear (i + k) (omega arith)))
    heard_kept (f ∷ fs) x i zero r h =
        let y = frame_step a f x in
        let z : i + 0 ≡ i = omega arith in
        let p = r.seen in
        let r' = step_ready f x i r in
        let c = r'.frame in
        let m = r'.seen in
        let q = first_kept f x i r (sym (bits_stay fs y i (omega arith)) ∙ subst (λ (j : ℕ). has_bit (read_frames a fs y).heard j ≡ true) z h) in
        subst (λ (j : ℕ). KeptAt f (read_frames a fs y).unkept j (read_frames a fs y).seen) (sym z)
        (record {
          there = q.0;
          unmarked = mask_stays a fs y i (omega arith) ∙ q.1;
          member =
              ap (λ (u : ℕ). is_member u slot)
              (seen_stays a fs y i (omega arith)
              ∙ ap (λ (s : List ℕ). get_or s i 0) (step_seen a f x)
              ∙ ap (λ (j : ℕ). get_or (x.seen ++ (x.station.used ∷ [])) j 0) (sym r.seen)
              ∙ get_last x.seen x.station.used)
              ∙ r.here;
        })
    heard_kept (f ∷ fs) x i (suc k) r h =
        let z : i + 1 + k ≡ i + suc k = omega arith in
        subst (λ (j : ℕ). KeptAt (get_or fs k lost) (read_frames a fs (frame_step a f x)).unkept j (read_frames a fs (frame_step a f x)).seen) z
        (heard_kept fs (frame_step a f x) (i + 1) k (step_ready f x i r) (subst (λ (j : ℕ). has_bit (read_frames a fs (frame_step a f x)).heard j ≡ true) (sym z) h))

  -- ---- the word

  -- no acknowledgement stands among words without a burst
  cond_none : {A : Type 0} (b : Bool) (x y : List A) → cond b (x ++ y) y ≡ [] → y ≡ []
  cond_none true [] y h = h
  cond_none true (a ∷ x) y h = absurd (let z : ◌≡◌ {A = ℕ} 0 1 = cc in omega arith)
  cond_none false x y h = h

  ack_parts : (w : ℕ) → is_ack_to slot w ≡ true
      → (eqb (w / 268435456) 8 ≡ true) × (eqb (head_of w).code tiny && (eqb (head_of w).hi k_pollack || eqb (head_of w).hi k_ack) ≡ true) × ((head_of w).extra % 64 ≡ slot)
  ack_parts w h =
      let p = and_true (eqb (w / 268435456) 8 && (eqb (head_of w).code tiny && (eqb (head_of w).hi k_pollack || eqb (head_of w).hi k_ack))) (eqb ((head_of w).extra % 64) slot) h in
      let q = and_true (eqb (w / 268435456) 8) (eqb (head_of w).code tiny && (eqb (head_of w).hi k_pollack || eqb (head_of w).hi k_ack)) p.0 in
      (q.0, q.1, eqb-true ((head_of w).extra % 64) slot p.1)

  burst_there : (h : Head) → eqb h.code tiny && (eqb h.hi k_pollack || eqb h.hi k_ack) ≡ true → (es : List TurnEvent) → burst_by h ++ es ≡ [] → ⊥
  burst_there h q es = at (eqb h.code tiny && (eqb h.hi k_poll || eqb h.hi k_relay)) (eqb h.code tiny && (eqb h.hi k_pollack || eqb h.hi k_ack)) q
    where
      at : (b c : Bool) → c ≡ true → cond b (TurnEvent.poll (h.extra % 64) ∷ []) (cond c (TurnEvent.ack (h.extra % 64) ∷ []) []) ++ es ≡ [] → ⊥
      at true c q e = let z : ◌≡◌ {A = ℕ} 0 1 = cc in omega arith
      at false true q e = let z : ◌≡◌ {A = ℕ} 0 1 = cc in omega arith
      at false false q e = never_both false q refl

  quiet_none : (ws : List ℕ) → bursts_in ws ≡ [] → (w : ℕ) → Among w ws → is_ack_to slot w ≡ true → ⊥
  unfolding bursts_in
  quiet_none [] q w m h = m
  quiet_none (v ∷ ws) q w (inl e) h =
      let p = ack_parts v (subst (λ (y : ℕ). is_ack_to slot y ≡ true) e h) in
      burst_there (head_of v) p.1 (bursts_in ws) (sym (cond_true (eqb (v / 268435456) 8) (burst_by (head_of v) ++ bursts_in ws) (bursts_in ws) p.0) ∙ q)
  quiet_none (v ∷ ws) q w (inr m) h = quiet_none ws (cond_none (eqb (v / 268435456) 8) (burst_by (head_of v)) (bursts_in ws) q) w m h

  -- the acknowledgement that a reception ends with
  abbrev TurnOf : Turn → Type 0
  TurnOf Idle = ⊥
  TurnOf Sending = ⊥
  TurnOf (Waiting r) = r.slot % 64 ≡ slot

  abbrev AckEnd : Turn → ℕ → Ended → Type 0
  AckEnd t bits e = (w : ℕ) → Among w e.burst → is_ack_to slot w ≡ true → TurnOf t × ((i : ℕ) → i < 6 → has_bit (bits_of w) i ≡ true → has_bit bits i ≡ true)

  low_bits : (bits i : ℕ) → i < 6 → has_bit (bits % 64) i ≡ has_bit bits i
  low_bits bits i l =
      let z : bits ≡ bits % 64 + 2 ^ 6 * (bits / 64) = omega arith in
      sym (ap (λ (m : ℕ). has_bit m i) z ∙ has_below 6 (bits % 64) (bits / 64) i l)

  word_ends : (r : Reply) (kind n bits level w : ℕ) → n < 4 → Among w (head_word tiny kind (ack_extra r.slot n bits) ∷ wave_word level ∷ []) → is_ack_to slot w ≡ true
      → (r.slot % 64 ≡ slot) × ((i : ℕ) → i < 6 → has_bit (bits_of w) i ≡ true → has_bit bits i ≡ true)
  word_ends r kind n bits level w low (inl e) h =
      let p = ack_parts w h in
      let x : w % 65536 ≡ ack_extra r.slot n bits = ap (λ (y : ℕ). y % 65536) e ∙ extra_is kind (ack_extra r.slot n bits) (omega arith) in
      let s : r.slot % 64 ≡ slot = (let q = p.2 in omega arith) in
      let b : bits_of w ≡ bits % 64 = (omega arith) in
      (s, λ i l t. sym (low_bits bits i l) ∙ ap (λ (m : ℕ). has_bit m i) (sym b) ∙ t)
    where
      extra_is : (kind extra : ℕ) → extra < 65536 → head_word tiny kind extra % 65536 ≡ extra
      extra_is kind extra l = omega arith
  word_ends r kind n bits level w low (inr (inl e)) h =
      let p = ack_parts w h in
      let q : w / 268435456 ≡ 8 = eqb-true (w / 268435456) 8 p.0 in
      absurd (omega arith)
  word_ends r kind n bits level w low (inr (inr m)) h = absurd m

  reply_ends : (t : Turn) (a : Air) (h : Head) (x : Reading) → AckEnd t x.heard (reply_by t a h x)
  reply_ends Idle a h x = λ w m q. absurd m
  reply_ends Sending a h x = λ w m q. absurd m
  reply_ends (Waiting r) a h x =
      cond_keeps (AckEnd (Waiting r) x.heard) (is_reply h x.sender r) _ _
      (λ _. at (goes_on h x.more r) (reply_heard a r.slot (h.hi % 4) (one_reply x.station))) (λ _ w m q. absurd m)
    where
      at : (b : Bool) (s : Station) → AckEnd (Waiting r) x.heard (answer_by b r (h.hi % 4) x.heard s)
      at true s w m q = word_ends r k_pollack (h.hi % 4) x.heard _ w (omega arith) m q
      at false s w m q = word_ends r k_ack (h.hi % 4) x.heard _ w (omega arith) m q

  -- ---- a reception

  -- frame i, of the frames read for content, is kept
  abbrev AckRx : Parsed Burst → List ℕ → Outcome → Type 0
  AckRx b seen o =
      (w : ℕ) → Among w o.words → is_ack_to slot w ≡ true → (i : ℕ) → i < 6 → has_bit (bits_of w) i ≡ true
      → (o.refusal ≡ 0) × KeptAt (get_or (frames_by b) i lost) o.mask i seen

  idle_none : (a : Air) (extra : ℕ) (s : Station) → (idle_end a extra s).burst ≡ []
  unfolding idle_end
  idle_none a extra s = at s.wait.turn (idle_heard a extra s)
    where
      at : (t : Turn) (u : Station) → (idle_by t (extra % 64) u).burst ≡ []
      at Idle u = refl
      at Sending u = refl
      at (Waiting r) u = cond_keeps (λ (e : Ended). e.burst ≡ []) (eqb r.slot (extra % 64)) _ _ (λ _. refl) (λ _. refl)

  turn_here : (used : ℕ) (t : Turn) → TurnIn used t → TurnOf t → is_member used slot ≡ true
  turn_here used Idle p h = absurd h
  turn_here used Sending p h = absurd h
  turn_here used (Waiting r) p h =
      let l = member_lt used r.slot p in
      let z : r.slot ≡ slot = omega arith in
      subst (λ (i : ℕ). is_member used i ≡ true) z p

  module _ (s : Station) (polled : Polled s) (b : Burst) (snr now : Float) (store : List ℕ) where
    abbrev s' : Station
    s' = with_wait s (busy_wait s.wait b.head s.settings now)

    abbrev a : Air
    a = air_of s b.head snr now

    abbrev x : Reading
    x = first_reading s' store

    abbrev y : Reading
    y = read_frames a b.frames x

    y_turn : y.station.wait.turn ≡ s.wait.turn
    y_turn = ap (λ (w : Wait). w.turn) (frames_calm a b.frames s' store).wait ∙ busy_turn s.wait b.head s.settings now

    full_kept : (w : ℕ) → Among w (y.words ++ (reply_end a b.head y).burst) → is_ack_to slot w ≡ true → (i : ℕ) → i < 6 → has_bit (bits_of w) i ≡ true
        → KeptAt (get_or b.frames i lost) y.unkept i y.seen
    unfolding reply_end
    full_kept w m h i l t =
        ⊎_elim (λ e. absurd (quiet_none y.words (frames_calm a b.frames s' store).quiet.0 w e h))
        (λ e.
        let q = reply_ends y.station.wait.turn a b.head y w e h in
        let here = turn_here s.used s.wait.turn polled.turn (subst TurnOf y_turn q.0) in
        let z : 0 + i ≡ i = omega arith in
        subst (λ (j : ℕ). KeptAt (get_or b.frames i lost) y.unkept j y.seen) z
        (heard_kept a b.frames x 0 i (record { frame = refl; seen = refl; clear = λ j g. has_none j; here = here })
        (subst (λ (j : ℕ). has_bit y.heard j ≡ true) (sym z) (q.1 i l t))))
        (among_split w y.words (reply_end a b.head y).burst m)

    rx_kept : AckRx (parsed b) (ncs_rx s b snr now store).seen (received_as (ncs_rx s b snr now store))
    unfolding ncs_rx
    rx_kept = at (eqb b.head.code tiny)
      where
        at : (t : Bool) (w : ℕ) → Among w (cond t (tiny_burst a b.head x) (full_burst a b.head y)).words → is_ack_to slot w ≡ true → (i : ℕ) → i < 6 → has_bit (bits_of w) i ≡ true
            → (◌≡◌ {A = ℕ} 0 0) × KeptAt (get_or (cond t [] b.frames) i lost) (cond t (tiny_burst a b.head x) (full_burst a b.head y)).unkept i (cond t (tiny_burst a b.head x) (full_burst a b.head y)).seen
        at false w m h i l q = (refl, full_kept w m h i l q)
        at true w m h i l q =
            absurd (subst (Among w)
            (cond_keeps (λ (e : Ended). e.burst ≡ []) (eqb b.head.hi k_idle) _ _ (λ _. idle_none a b.head.extra s') (λ _. refl)) m)

  -- of any words, refused or not
  pub ack_kept : (s : Station) → Polled s → (words : List ℕ) (snr now : Float) (store : List ℕ) (room : ℕ)
      → AckRx (parse words) (of_burst (parse words) [] (λ b. (ncs_rx s b snr now store).seen)) (receive_of s words snr now store room)
  unfolding receive_of
  ack_kept s polled words snr now store room =
      cond_keeps (AckRx (parse words) (of_burst (parse words) [] (λ b. (ncs_rx s b snr now store).seen))) (eqb (receive_refusal room (length store) s.count now snr (parse words)) 0) _ _
      (λ _. by (parse words)) (λ _ w m. absurd m)
    where
      by : (w : Parsed Burst) → AckRx w (of_burst w [] (λ b. (ncs_rx s b snr now store).seen)) (receive_by w s snr now store)
      by malformed = λ w m. absurd m
      by (parsed b) = rx_kept s polled b snr now store
