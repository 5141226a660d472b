-- The call answers the lowest of the last 32 readings: each call's updates are what its definition makes of the rings. Assumes nothing.
use Rattle.std.specs.Prelude.{Option, Some, None, is_some, Ok}
use mathlib.Core.Path.{◌≡◌, refl, sym, ap, ap₂, ◌∙◌, subst}
use mathlib.Core.Bool.{Bool, true, false, not, cond, ◌&&◌, ◌||◌}
use mathlib.Core.List.{List, [], ◌∷◌, ◌++◌}
use Prim.Native.Nat.{ℕ, zero, suc, ◌+◌, ◌/◌, ◌%◌, ◌≤◌, ◌<◌}
use native.Mathlib.Omega.{arith}
use lib.Dec.{eqb, ltb, leb}
use lib.Ieee.{Float, lt}
use lib.ListN.{length, get_or, set}
use lib.Seq.{set-get_or, get_or-set_other}
use borrow.Author.Tests.{le-ltb, eq-eqb}
use Rattle.bits.specs.Loop.{fold}
use Rattle.bits.specs.Mask.{has_bit, without_bit, lowest_bit}
use Rattle.bits.proofs.Laws.{without_same}
use Rattle.bits.proofs.Lists.{cond_keeps, cond_true, cond_false, and_true, never_both}
use Rattle.bits.proofs.Loops.{fold_keeps}
use Rattle.level.specs.declared.Level.{Level}
use Rattle.level.specs.declared.Level.TheVariants.{Unheard, Decibels}
use Rattle.level.specs.Levels.{is_heard}
use Rattle.recent.specs.declared.Recent.{Recent}
use Rattle.recent.specs.Readings.{no_recent, empty, noted, worst, least_of, readings}
use Rattle.recent.proofs.Lowest.{lowest}
use Rattle.wire.specs.Call.{unpack_call}
use Rattle.wire.specs.Fields.{snr_from_q}
use Rattle.wire.specs.Kinds.{tiny, k_idle, t_up, t_ctrl, c_checkin, c_report, c_overheard, c_kids}
use Rattle.words.specs.declared.Head.{Head}
use Rattle.words.specs.Words.{Heard, lost, heard, Burst, Parsed, malformed, parsed, parse}
use Rattle.stream.specs.Table.{accept}
use Rattle.roster.specs.declared.Member.{Member}
use Rattle.roster.specs.Members.{no_member}
use Rattle.roster.specs.Relays.{promotable_at}
use Rattle.net.specs.declared.Station.{Station}
use Rattle.net.specs.declared.Reply.{Reply}
use Rattle.net.specs.declared.Turn.{Turn}
use Rattle.net.specs.declared.Turn.TheVariants.{Idle, Sending, Waiting}
use Rattle.net.specs.State.{index_of, member_at, queue_at, table_of, recent_at, with_wait, with_round, with_rxsent, with_rxdirty, one_reply}
use Rattle.net.specs.Net.{is_member, idle_wait, Said, said, on_tx_done}
use Rattle.net.proofs.Laws.{index_is, member_lt}
use Rattle.admit.specs.declared.Seat.{Seat}
use Rattle.admit.specs.declared.Seat.TheVariants.{Known, Free, Full}
use Rattle.admit.specs.Admission.{seat_of, slot_of, is_full, via_for, admit_by}
use Rattle.admit.proofs.Laws.{known_lt, seat_lt}
use Rattle.bursts.specs.Rows.{member_in}
use Rattle.bursts.specs.Bursts.{tell_at, tell_all, list_sent, rx_list_burst, acks_burst, beacon_of}
use Rattle.bursts.specs.Direct.{direct_burst}
use Rattle.bursts.specs.Reroute.{floor_of, promote_with, promote_at, promote_all, new_relay, must_move, leaves_of, move_at, move_all, reroute_of}
use Rattle.next.specs.declared.Due.{Due}
use Rattle.next.specs.declared.Due.TheVariants as due
use Rattle.next.specs.declared.Act.{Act}
use Rattle.next.specs.declared.Act.TheVariants as act
use Rattle.next.specs.Next.{Decision, poll_by, directed_by, word_by, poll_stage, drawn, draw_stage, rerouted_stage, reroute_stage, round_end, brought_forward, act_of, act_by, window_stage, close_stage, again_stage, missed_in, missed_stage, due_of, by_due, ncs_next}
use Rattle.next.specs.Next as next
use Rattle.frames.specs.declared.Air.{Air}
use Rattle.frames.specs.Reading.{Reading}
use Rattle.frames.specs.Pieces.{unkept_at, barred_piece, is_relayed, kept_piece, piece_frame}
use Rattle.frames.specs.Control.{each_entry, call_at, checkin_frame, report_station, report_frame, relay_of, overheard_by, overheard_entry, overheard_frame, heard_as, kid_recent, is_kid, kid_entry, kids_frame}
use Rattle.frames.specs.Frames.{control_by, read_frame, frame_step, read_frames}
use Rattle.rx.specs.Ending.{Ended, turn_over_in, idle_heard, idle_by, idle_end, reply_heard, answer_by, goes_on, is_reply, reply_by, reply_end, busy_wait}
use Rattle.rx.specs.Reception.{Received, air_of, first_reading, ncs_rx}
use Rattle.config.specs.Checks.{settings_of}
use Rattle.station.specs.Entries.{Outcome, done, refused, unless, check1, admit_refusal, admitted, admit_of, receive_by, receive_refusal, receive_of, next_refusal, next_of, post_refusal, post_of, sent_of, close_refusal, close_of, read_refusal, cell_refusal, free_of}
use Rattle.signoff.specs.SignOff.{bereft_of, bereave_at, bereave_all, leave, struck_off, vacant, sign_off}
use Rattle.station.specs.SignOff.{sign_off_refusal, sign_off_of}
use Rattle.station.specs.Worst.{worst_of, refusal_in, decibels_of}
use Rattle.dues.specs.Dues.{dues_refusal}
use Rattle.promise.specs.Promise.{lent_to, Net, of_burst, Call, admission, reception, decision, sending, closing, reading, freeing, charging, signing, asking, posting, result, outcome, step, after, started}
use Rattle.promise.proofs.WalkCalls.{started_is}
use Rattle.laws.specs.Worst.{Update, measured, emptied, readings_of, of_seat, of_checkin, of_level, of_kid, of_entries, of_kids, of_overheard, of_control, of_frame, of_frames, of_sender, of_reply, of_burst_at, of_reception, of_slots, emptied_if, promotions, of_reroute, of_round_end, of_act, of_window, of_due, of_decision, of_sign_off, of_call, updates_of, WorstOfLast, last_of}
use Rattle.laws.proofs.WorstFinite.{last_finite}
use Rattle.laws.proofs.WorstRings.{applied, Follows, follow, follow_cond, follow_slots, Holds, updates_hold, new_holds}

-- ---- a slot and its index

index_noted : (rs : List Recent) (slot : ℕ) (x : Float) → slot < 62
    → set rs (index_of slot) (noted (get_or rs (index_of slot) no_recent) x) ≡ set rs slot (noted (get_or rs slot no_recent) x)
index_noted rs slot x l = ap (λ (y : ℕ). set rs y (noted (get_or rs y no_recent) x)) (index_is slot l)

-- ---- admission

seat_follows : (seat : Seat) (s : Station) (call : List ℕ) (via : ℕ) (now : Float) → ((i : ℕ) → seat ≡ Free i → i < 62)
    → Follows s (admit_by seat s call via now).station (of_seat seat)
seat_follows (Known i) s call via now l = refl
seat_follows (Free i) s call via now l = ap (λ (y : ℕ). set s.recent y empty) (index_is i (l i refl))
seat_follows Full s call via now l = refl

-- ---- control frames

module _ (a : Air) where
  seat_low : (s : Station) (call : List ℕ) (seat : Seat) → seat_of s call ≡ seat → eqb (slot_of seat) 255 ≡ false → slot_of seat < 62
  seat_low s call (Known i) e f = known_lt s call i e
  seat_low s call (Free i) e f = seat_lt s call i e
  seat_low s call Full e f = absurd (never_both true refl f)

  checkin_follows : (len : ℕ) (p : List ℕ) (s : Station) → Follows s (checkin_frame a len p s).station (of_checkin a p s)
  unfolding checkin_frame
  checkin_follows len p s =
      let call = call_at p 1 in
      let seat = seat_of s call in
      let d = (admit_by seat s call 63 a.time).station in
      follow s.recent (of_seat seat) _ (seat_follows seat s call 63 a.time (λ i e. seat_lt s call i e))
      (follow_cond (λ (t : Station). t) d (eqb (slot_of seat) 255) _ _ [] _ (λ _. refl) (λ f. index_noted d.recent (slot_of seat) a.level (seat_low s call seat refl f)))

  report_same : (len : ℕ) (p : List ℕ) (slot : ℕ) (s : Station) → (report_station a len p slot s).recent ≡ s.recent
  report_same len p slot s = cond_keeps (λ (t : Station). t.recent ≡ s.recent) (is_member s.used slot) _ s (λ _. refl) (λ _. refl)

  each_follows : (f : ℕ → Said → Said) (g : ℕ → Station → List Update) → ((e : ℕ) (x : Said) → Follows x.station (f e x).station (g e x.station))
      → (w len n e : ℕ) (x : Said) → Follows x.station (each_entry f w len n e x).station (of_entries f g w len n e x)
  unfolding each_entry of_entries
  each_follows f g h w len zero e x = refl
  each_follows f g h w len (suc n) e x =
      follow_cond (λ (y : Said). y.station) x.station (leb (e + w) len) _ x _ []
      (λ _. follow x.station.recent (g e x.station) _ (h e x) (each_follows f g h w len n (e + w) (f e x))) (λ _. refl)

  overheard_by_lem : (p : List ℕ) (slot v e : ℕ) (x : Said) (seat : Seat) → ((i : ℕ) → seat ≡ Free i → i < 62)
      → Follows x.station (overheard_by seat a p e slot v x).station (of_seat seat)
  overheard_by_lem p slot v e x (Known i) l = refl
  overheard_by_lem p slot v e x (Free c) l =
      cond_keeps (λ (t : Station). t.recent ≡ set x.station.recent c empty)
      (is_member (admit_by (Free c) x.station (call_at p e) v a.time).station.used slot) _ _
      (λ _. ap (λ (y : ℕ). set x.station.recent y empty) (index_is c (l c refl)))
      (λ _. ap (λ (y : ℕ). set x.station.recent y empty) (index_is c (l c refl)))
  overheard_by_lem p slot v e x Full l = refl

  overheard_entry_lem : (p : List ℕ) (slot v e : ℕ) (x : Said) → Follows x.station (overheard_entry a p slot v e x).station (of_seat (seat_of x.station (call_at p e)))
  unfolding overheard_entry
  overheard_entry_lem p slot v e x = overheard_by_lem p slot v e x (seat_of x.station (call_at p e)) (λ i q. seat_lt x.station (call_at p e) i q)

  level_follows : (t : Bool) (l : Level) (c : ℕ) (rs : List Recent)
      → set rs c (cond t (heard_as l (get_or rs c no_recent)) (get_or rs c no_recent)) ≡ applied (cond t (of_level c l) []) rs
  level_follows true Unheard c rs = refl
  level_follows true (Decibels x) c rs = refl
  level_follows false l c rs = set-get_or rs c no_recent

  kid_entry_lem : (p : List ℕ) (slot e : ℕ) (x : Said) → Follows x.station (kid_entry a p slot e x).station (of_kid slot (get_or p e 0) (get_or p (e + 1) 0) x.station)
  unfolding kid_entry
  kid_entry_lem p slot e x =
      let s = x.station in
      let c = get_or p e 0 in
      let b = get_or p (e + 1) 0 in
      follow_cond (λ (y : Said). y.station) s (is_kid s c slot) _ x _ []
      (λ q.
      let here = (and_true (is_member s.used c) _ (and_true (is_member s.used c && eqb (member_at s c).via slot) _ q).0).0 in
      ap (λ (y : ℕ). set s.recent y (kid_recent b (get_or s.recent y no_recent))) (index_is c (member_lt s.used c here))
      ∙ level_follows (leb 128 b) (snr_from_q b) c s.recent)
      (λ _. refl)

  control_follows : (slot b len : ℕ) (p : List ℕ) (x : Reading) → Follows x.station (control_by a slot b len p x).station (of_control a slot b len p x.station)
  unfolding control_by report_frame overheard_frame kids_frame
  control_follows slot b len p x =
      let s = x.station in
      let st : Reading → Station = λ (y : Reading). y.station in
      follow_cond st s (eqb b c_checkin) _ _ _ _
      (λ _. follow_cond st s (leb 7 len) _ x _ [] (λ _. checkin_follows len p s) (λ _. refl))
      (λ _. follow_cond st s (eqb b c_report) _ _ [] _
      (λ _. cond_keeps (λ (y : Reading). y.station.recent ≡ s.recent) (leb 12 len) _ x (λ _. report_same len p (get_or p 1 0) s) (λ _. refl))
      (λ _. follow_cond st s (eqb b c_overheard) _ _ _ _
      (λ _. each_follows (overheard_entry a p slot (relay_of s slot)) (λ e t. of_seat (seat_of t (call_at p e))) (overheard_entry_lem p slot (relay_of s slot)) 8 len 32 1 (said s []))
      (λ _. follow_cond st s (eqb b c_kids) _ x _ []
      (λ _. each_follows (kid_entry a p slot) (λ e t. of_kid slot (get_or p e 0) (get_or p (e + 1) 0) t) (kid_entry_lem p slot) 2 len 128 1 (said s [])) (λ _. refl))))

  -- ---- the frames

  piece_same : (slot field : ℕ) (p : List ℕ) (x : Reading) → (piece_frame a slot field p x).station.recent ≡ x.station.recent
  unfolding piece_frame
  piece_same slot field p x =
      let s = x.station in
      let r = accept (table_of s) (member_at s slot).up x.store slot field p in
      let P : Station → Type 0 = λ (t : Station). t.recent ≡ s.recent in
      cond_keeps (λ (y : Reading). y.station.recent ≡ s.recent) (is_member s.used slot) _ x
      (λ _. cond_keeps (λ (y : Reading). y.station.recent ≡ s.recent) r.lost _ (kept_piece a slot r x)
      (λ _. cond_keeps (λ (y : Reading). (unkept_at y).station.recent ≡ s.recent) r.bars (barred_piece slot r x) x (λ _. refl) (λ _. refl))
      (λ _. cond_keeps P (is_relayed a s slot r) _ _
      (λ _. cond_keeps P (is_some r.landed) _ _ (λ _. refl) (λ _. refl))
      (λ _. cond_keeps P (is_some r.landed) _ _ (λ _. refl) (λ _. refl))))
      (λ _. refl)

  frame_follows : (f : Heard) (x : Reading) → Follows x.station (read_frame a f x).station (of_frame a f x.station)
  unfolding read_frame
  frame_follows lost x = refl
  frame_follows (heard flags field p) x =
      let st : Reading → Station = λ (y : Reading). y.station in
      follow_cond st x.station (eqb (flags / 64) t_up) _ _ [] _
      (λ _. piece_same (flags % 64) field p x)
      (λ _. follow_cond st x.station (eqb (flags / 64) t_ctrl) _ x _ []
      (λ _. follow_cond st x.station (eqb (length p) 0) x _ [] _ (λ _. refl) (λ _. control_follows (flags % 64) (get_or p 0 0) (length p) p x))
      (λ _. refl))

  frames_follow : (fs : List Heard) (x : Reading) → Follows x.station (read_frames a fs x).station (of_frames a fs x)
  unfolding read_frames frame_step of_frames
  frames_follow [] x = refl
  frames_follow (f ∷ fs) x =
      follow x.station.recent (of_frame a f x.station) _ (frame_follows f x) (frames_follow fs (frame_step a f x))

  -- ---- the end of a reception

  over_same : (s : Station) (slot source : ℕ) → (turn_over_in s slot source).recent ≡ s.recent
  over_same s slot source = cond_keeps (λ (t : Station). t.recent ≡ s.recent) (is_member s.used source) _ s (λ _. refl) (λ _. refl)

  idle_same : (t : Turn) (slot : ℕ) (s : Station) → (idle_by t slot s).station.recent ≡ s.recent
  idle_same Idle slot s = refl
  idle_same Sending slot s = refl
  idle_same (Waiting r) slot s =
      cond_keeps (λ (e : Ended). e.station.recent ≡ s.recent) (eqb r.slot slot) _ _ (λ _. over_same (one_reply (with_wait s idle_wait)) slot r.relayfor) (λ _. refl)

  idle_follows : (extra : ℕ) (s : Station) → Follows s (idle_end a extra s).station (of_sender (extra % 64) a s)
  unfolding idle_end
  idle_follows extra s =
      idle_same s.wait.turn (extra % 64) (idle_heard a extra s)
      ∙ follow_cond (λ (t : Station). t) s (is_member s.used (extra % 64)) _ s _ []
      (λ here. index_noted s.recent (extra % 64) a.level (member_lt s.used (extra % 64) here)) (λ _. refl)

  answer_same : (b : Bool) (r : Reply) (n frames : ℕ) (s : Station) → (answer_by b r n frames s).station.recent ≡ s.recent
  answer_same true r n frames s = refl
  answer_same false r n frames s = over_same (with_wait s _) r.slot r.relayfor

  reply_by_lem : (t : Turn) (h : Head) (x : Reading) → Follows x.station (reply_by t a h x).station (of_reply t a h x)
  reply_by_lem Idle h x = refl
  reply_by_lem Sending h x = refl
  reply_by_lem (Waiting r) h x =
      let s = x.station in
      follow_cond (λ (e : Ended). e.station) s (is_reply h x.sender r) _ _ _ []
      (λ _. answer_same (goes_on h x.more r) r (h.hi % 4) x.heard (reply_heard a r.slot (h.hi % 4) (one_reply s))
      ∙ follow_cond (λ (t : Station). t) s (is_member s.used r.slot) _ _ _ []
      (λ here. index_noted s.recent r.slot a.level (member_lt s.used r.slot here)) (λ _. refl))
      (λ _. refl)

-- ---- a reception

reception_follows : (s : Station) (b : Burst) (snr now : Float) (store : List ℕ) → Follows s (ncs_rx s b snr now store).station (of_reception s snr now store b)
unfolding ncs_rx reply_end
reception_follows s b snr now store =
    let a = air_of s b.head snr now in
    let x = first_reading (with_wait s (busy_wait s.wait b.head s.settings now)) store in
    let y = read_frames a b.frames x in
    follow_cond (λ (r : Received). r.station) s (eqb b.head.code tiny) _ _ _ _
    (λ _. follow_cond (λ (e : Ended). e.station) s (eqb b.head.hi k_idle) _ _ _ [] (λ _. idle_follows a b.head.extra x.station) (λ _. refl))
    (λ _. follow s.recent (of_frames a b.frames x) _ (frames_follow a b.frames x) (reply_by_lem a y.station.wait.turn b.head y))

-- ---- a decision

-- the boats from i on are those of s
pub record Same (s : Station) (i : ℕ) (t : Station) : Type 0 where
  pub used : t.used ≡ s.used
  pub seat : (j : ℕ) → i ≤ j → member_in t j ≡ member_in s j

promote_with_lem : (s : Station) (l : Level) (i : ℕ) (x : Said) → Same s i x.station
    → Follows x.station (promote_with l i x).station (emptied_if (is_heard l) i) × Same s (suc i) (promote_with l i x).station
promote_with_lem s Unheard i x h = (refl, record { used = h.used; seat = λ j l. h.seat j (omega arith) })
promote_with_lem s (Decibels snr) i x h =
    (refl, record { used = h.used; seat = λ j l. get_or-set_other x.station.members i j _ no_member (λ e. omega arith) ∙ h.seat j (omega arith) })

promote_one : (s : Station) (i : ℕ) (x : Said) → Same s i x.station
    → Follows x.station (promote_at (floor_of s) i x).station (emptied_if (is_heard (promotable_at (has_bit s.used i) (member_in s i) (floor_of s))) i)
    × Same s (suc i) (promote_at (floor_of s) i x).station
unfolding promote_at
promote_one s i x h =
    let l = promotable_at (has_bit s.used i) (member_in s i) (floor_of s) in
    let e : l ≡ promotable_at (has_bit x.station.used i) (member_in x.station i) (floor_of s) =
    ap₂ (λ (u : ℕ) (m : Member). promotable_at (has_bit u i) m (floor_of s)) (sym h.used) (sym (h.seat i (omega arith))) in
    subst (λ (y : Level). Follows x.station (promote_with y i x).station (emptied_if (is_heard l) i) × Same s (suc i) (promote_with y i x).station) e (promote_with_lem s l i x h)

move_same : (leaves c : ℕ) (x : Said) → (move_at leaves c x).station.recent ≡ x.station.recent
unfolding move_at
move_same leaves c x =
    cond_keeps (λ (y : Said). y.station.recent ≡ x.station.recent) (must_move leaves x.station c) _ x
    (λ _. cond_keeps (λ (y : Said). y.station.recent ≡ x.station.recent) (eqb (new_relay x.station c) 63) x _ (λ _. refl) (λ _. refl)) (λ _. refl)

reroute_follows : (s : Station) → Follows s (reroute_of s).station (promotions s)
unfolding reroute_of promote_all move_all
reroute_follows s =
    let x = promote_all s in
    fold_keeps (λ (y : Said). y.station.recent ≡ x.station.recent) (move_at (leaves_of x.station)) (λ c y e. move_same (leaves_of x.station) c y ∙ e) 62 0 x refl
    ∙ follow_slots (λ (y : Said). y.station) (promote_at (floor_of s)) _ (λ i y. Same s i y.station) (λ i y h. promote_one s i y h) 62 0 (said s []) (record { used = refl; seat = λ j l. refl })

poll_same : (f : Option ℕ) (s : Station) → (poll_by f s).station.recent ≡ s.recent
poll_same None s = refl
poll_same (Some slot) s = refl

-- word back before it
word_same : (f : Option ℕ) (s : Station) (queue : List ℕ) → (word_by f s queue).station.recent ≡ s.recent
unfolding direct_burst
word_same None s queue = poll_same (lowest_bit s.round.list) s
word_same (Some slot) s queue = refl

rerouted_same : (x : Said) (now : Float) (queue : List ℕ) → (rerouted_stage x now queue).station.recent ≡ x.station.recent
unfolding draw_stage poll_stage acks_burst
rerouted_same x now queue =
    cond_keeps (λ (d : Decision). d.station.recent ≡ x.station.recent) (eqb x.station.round.treenews 0) _ _
    (λ _. word_same (directed_by (lowest_bit (drawn x.station now).round.list) (drawn x.station now)) (drawn x.station now) queue) (λ _. refl)

abbrev station_of : Decision → Station
station_of d = d.station

reroute_stage_lem : (s : Station) (now : Float) (queue : List ℕ) → Follows s (reroute_stage s now queue).station (of_reroute s now)
unfolding reroute_stage
reroute_stage_lem s now queue =
    follow_cond station_of s (not s.round.traffic && ltb 0 s.round.number && lt now s.round.nextround) _ _ [] _
    (λ _. refl) (λ _. rerouted_same (reroute_of s) now queue ∙ reroute_follows s)

list_same : (s : Station) → (rx_list_burst s).station.recent ≡ s.recent
unfolding rx_list_burst tell_all
list_same s =
    let t = fold_keeps (λ (r : Station). r.recent ≡ s.recent) tell_at (λ i r e. e) 62 0 (with_round s (with_rxdirty s.round false)) refl in
    cond_keeps (λ (x : Said). x.station.recent ≡ s.recent) (list_sent s) _ _ (λ _. t) (λ _. t)

round_follows : (s : Station) (now : Float) (queue : List ℕ) → Follows s (round_end s now queue).station (of_round_end s now)
unfolding round_end
round_follows s now queue =
    let t = with_round s (with_rxsent s.round s.round.number) in
    follow_cond station_of s (eqb s.round.number 0 || eqb s.round.rxsent s.round.number) _ _ _ _
    (λ _. reroute_stage_lem s now queue)
    (λ _. follow_cond station_of s (list_sent t) _ _ [] _ (λ _. list_same t)
    (λ _. reroute_stage_lem (rx_list_burst t).station now queue ∙ ap (applied (of_reroute (rx_list_burst t).station now)) (list_same t)))

act_follows : (a : Act) (s : Station) (now : Float) (queue : List ℕ) → Follows s (act_by a s now queue).station (of_act a s now)
unfolding beacon_of acks_burst poll_stage
act_follows act.Wait s now queue = refl
act_follows act.Beacon s now queue = refl
act_follows act.Acks s now queue = refl
act_follows act.Draw s now queue = round_follows s now queue
act_follows act.Poll s now queue = word_same (directed_by (lowest_bit s.round.list) s) s queue

window_follows : (s : Station) (now : Float) (queue : List ℕ) → Follows s (window_stage s now queue).station (of_window s now)
unfolding window_stage
window_follows s now queue =
    let t = brought_forward s now in
    let e : t.recent ≡ s.recent = cond_keeps (λ (r : Station). r.recent ≡ s.recent) s.round.activity _ s (λ _. refl) (λ _. refl) in
    follow_cond station_of s (lt now s.round.windowend) _ _ [] _ (λ _. refl)
    (λ _. act_follows (act_of t.round t.used now) t now queue ∙ ap (applied (of_act (act_of t.round t.used now) t now)) e)

missed_same : (s : Station) (slot source : ℕ) → (next.turn_over_in (missed_in s slot) slot source).recent ≡ s.recent
missed_same s slot source =
    cond_keeps (λ (t : Station). t.recent ≡ s.recent) (is_member (missed_in s slot).used source) _ (missed_in s slot) (λ _. m) (λ _. m)
  where
    m : (missed_in s slot).recent ≡ s.recent
    m = cond_keeps (λ (t : Station). t.recent ≡ s.recent) (is_member s.used slot) _ s (λ _. refl) (λ _. refl)

due_follows : (d : Due) (s : Station) (now : Float) (queue : List ℕ) → Follows s (by_due d s now queue).station (of_due d s now)
unfolding close_stage again_stage missed_stage
due_follows due.Free s now queue = window_follows s now queue
due_follows due.Quiet s now queue = refl
due_follows due.Close s now queue = cond_keeps (λ (x : Decision). x.station.recent ≡ s.recent) (eqb s.round.closeleft 0) _ _ (λ _. refl) (λ _. refl)
due_follows (due.Again r) s now queue = refl
due_follows (due.Missed r) s now queue =
    let t = next.turn_over_in (missed_in (with_wait s idle_wait) r.slot) r.slot r.relayfor in
    window_follows t now queue ∙ ap (applied (of_window t now)) (missed_same (with_wait s idle_wait) r.slot r.relayfor)

-- ---- a sign-off

module _ (s : Station) (slot : ℕ) where
  -- the boats from i on are those of s, the slot's apart
  record Left (i : ℕ) (t : Station) : Type 0 where
    pub used : t.used ≡ without_bit s.used slot
    pub seat : (j : ℕ) → i ≤ j → (j ≡ slot → ⊥) → member_in t j ≡ member_in s j

  bereave_by : (b v : Bool) (i : ℕ) (t : Station) → has_bit t.used i ≡ b → eqb (member_in t i).via slot ≡ v → Left i t
      → Follows t (bereave_at slot i t) (emptied_if (b && v) i) × Left (suc i) (bereave_at slot i t)
  unfolding bereave_at
  bereave_by false v i t p q h = rw p (refl, record { used = h.used; seat = λ j l z. h.seat j (omega arith) z })
  bereave_by true true i t p q h =
      rw (p, q) (refl, record { used = h.used; seat = λ j l z. get_or-set_other t.members i j _ no_member (λ e. omega arith) ∙ h.seat j (omega arith) z })
  bereave_by true false i t p q h =
      rw (p, q) (set-get_or t.recent i no_recent, record { used = h.used; seat = λ j l z. get_or-set_other t.members i j _ no_member (λ e. omega arith) ∙ h.seat j (omega arith) z })

  bereave_one : (i : ℕ) (t : Station) → Left i t
      → Follows t (bereave_at slot i t) (emptied_if (has_bit (without_bit s.used slot) i && eqb (member_in s i).via slot) i) × Left (suc i) (bereave_at slot i t)
  bereave_one i t h = go (has_bit t.used i) refl
    where
      here : has_bit t.used i ≡ has_bit (without_bit s.used slot) i
      here = ap (λ (u : ℕ). has_bit u i) h.used

      go : (b : Bool) → has_bit t.used i ≡ b
          → Follows t (bereave_at slot i t) (emptied_if (has_bit (without_bit s.used slot) i && eqb (member_in s i).via slot) i) × Left (suc i) (bereave_at slot i t)
      go false e = rw (← here, e) (bereave_by false (eqb (member_in t i).via slot) i t e refl h)
      go true e =
          let z : i ≡ slot → ⊥ = λ q. never_both (has_bit (without_bit s.used slot) i) (sym here ∙ e) (ap (has_bit (without_bit s.used slot)) q ∙ without_same s.used slot) in
          rw (← here, e, ← h.seat i (omega arith) z) (bereave_by true (eqb (member_in t i).via slot) i t e refl h)

  sign_follows : Follows s (sign_off s slot) (of_sign_off s slot)
  unfolding sign_off bereave_all
  sign_follows =
      follow_slots (λ (t : Station). t) (bereave_at slot) _ Left bereave_one 62 0 (leave slot (struck_off slot s))
      (record { used = refl; seat = λ j l z. get_or-set_other s.members slot j vacant no_member z })

-- ---- the calls

-- a refused call has no updates
unless_follows : (k : ℕ) (s : Station) (store : List ℕ) (o : Outcome) (us : List Update) → o.refusal ≡ 0 → Follows s o.station us
    → Follows s (unless k s store o).station (cond (eqb (unless k s store o).refusal 0) us [])
unless_follows k s store o us z h = go (eqb k 0) refl
  where
    go : (b : Bool) → eqb k 0 ≡ b → Follows s (cond b o (refused k s store)).station (cond (eqb (cond b o (refused k s store)).refusal 0) us [])
    go true e = rw z h
    go false e = rw e refl

never_follows : (k : ℕ) (s : Station) (store : List ℕ) → Follows s (unless k s store (refused 3 s store)).station (cond (eqb (unless k s store (refused 3 s store)).refusal 0) [] [])
never_follows k s store = go (eqb k 0) (eqb (unless k s store (refused 3 s store)).refusal 0)
  where
    go : (b c : Bool) → Follows s (cond b (refused 3 s store) (refused k s store)).station (cond c [] [])
    go true true = refl
    go true false = refl
    go false true = refl
    go false false = refl

receive_follows : (p : Parsed Burst) (k : ℕ) (s : Station) (snr now : Float) (store : List ℕ)
    → Follows s (unless k s store (receive_by p s snr now store)).station (cond (eqb (unless k s store (receive_by p s snr now store)).refusal 0) (of_burst p [] (of_reception s snr now store)) [])
receive_follows malformed k s snr now store = never_follows k s store
receive_follows (parsed b) k s snr now store = unless_follows k s store (receive_by (parsed b) s snr now store) (of_reception s snr now store b) refl (reception_follows s b snr now store)

pub call_follows : (c : Call) (n : Net) → Follows n.station (step c n).station (cond (eqb (outcome c n).refusal 0) (of_call c n) [])
unfolding step result admit_of receive_of next_of post_of sent_of close_of free_of sign_off_of ncs_next on_tx_done
call_follows (admission packed relay now room) n =
    let s = n.station in
    let call = unpack_call packed in
    let seat = seat_of s call in
    unless_follows (admit_refusal room now s.used relay (is_full seat)) s [] _ (of_seat seat) refl
    (seat_follows seat s call (via_for s seat relay) now (λ i e. seat_lt s call i e))
call_follows (reception words snr now lent room numbers) n =
    let store = lent_to lent n.store in
    receive_follows (parse words) (receive_refusal room (length store) n.station.count now snr (parse words)) n.station snr now store
call_follows (decision now queue room) n =
    let s = n.station in
    unless_follows (next_refusal now (length queue) room) s [] _ (of_decision s now) refl (due_follows (due_of s.wait s.round.closed now) s now queue)
call_follows (posting slot message queue) n =
    unless_follows (post_refusal (length queue) n.station.used slot (queue_at n.station slot) (length message)) n.station queue _ [] refl refl
call_follows (sending now) n = unless_follows (check1 now 0) n.station [] _ [] refl refl
call_follows (closing count) n = unless_follows (close_refusal count) n.station [] _ [] refl refl
call_follows (reading cell lent) n =
    unless_follows (read_refusal (length (lent_to lent n.store)) n.station.count n.station.landed cell) n.station n.store _ [] refl refl
call_follows (freeing cell) n = unless_follows (cell_refusal n.station.count n.station.landed cell) n.station [] _ [] refl refl
call_follows (charging figures) n = unless_follows (dues_refusal figures) n.station n.store _ [] refl refl
call_follows (signing slot) n = unless_follows (sign_off_refusal n.station.used slot) n.station [] _ (of_sign_off n.station slot) refl (sign_follows n.station slot)
call_follows (asking slot) n = unless_follows (refusal_in (worst_of n.station slot)) n.station n.store _ [] refl refl

calls_follow : (cs : List Call) (n : Net) → Follows n.station (after cs n).station (updates_of cs n)
unfolding after updates_of
calls_follow [] n = refl
calls_follow (c ∷ cs) n = follow n.station.recent (cond (eqb (outcome c n).refusal 0) (of_call c n) []) _ (call_follows c n) (calls_follow cs (step c n))

-- ---- the theorem

answer_is : (s : Station) (slot : ℕ) → is_member s.used slot ≡ true → worst_of s slot ≡ Ok (least_of (readings (get_or s.recent slot no_recent)))
unfolding worst_of worst sign_off_refusal
answer_is s slot here =
    let l = member_lt s.used slot here in
    rw (le-ltb 61 slot (omega arith), here) (ap (λ (y : ℕ). Ok (least_of (readings (get_or s.recent y no_recent)))) (index_is slot l))

pub worst_of_last : WorstOfLast
worst_of_last s g store e cs slot here =
    let n = started s g store in
    let h : Holds n.station.recent (λ i. []) = subst (λ (t : Station). Holds t.recent (λ i. [])) (sym (started_is s g store e)) (new_holds (settings_of g) _) in
    let k : Holds (after cs n).station.recent (λ i. readings_of i (updates_of cs n) []) =
    subst (λ (rs : List Recent). Holds rs (λ i. readings_of i (updates_of cs n) [])) (sym (calls_follow cs n)) (updates_hold (updates_of cs n) n.station.recent (λ i. []) h) in
    let is : worst_of (after cs n).station slot ≡ Ok (least_of (last_of cs n slot)) =
    answer_is (after cs n).station slot here ∙ ap (λ (xs : List Float). Ok (least_of xs)) (k.last slot (member_lt (after cs n).station.used slot here)) in
    record {
      answer = is;
      number = ap decibels_of is;
      finite = last_finite cs n slot;
      lowest = lowest _;
    }
