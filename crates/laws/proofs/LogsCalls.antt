-- What each call returns, as a log has it: events, and one burst behind them at most. Assumes nothing.
use Rattle.std.specs.Prelude.{Option, Some, None}
use mathlib.Core.Path.{◌≡◌, refl, sym, ap, ◌∙◌, subst}
use Prim.Native.Nat.{ℕ, zero, suc, ◌%◌, ◌+◌, ◌-◌, ◌*◌, ◌≤◌}
use native.Mathlib.Omega.{arith}
use mathlib.Core.Bool.{Bool, true, false, cond, ◌&&◌, ◌||◌}
use mathlib.Core.List.{List, [], ◌++◌, append_assoc, append-nil}
use lib.Dec.{eqb, ltb}
use lib.Ieee.{Float}
use lib.ListN.{length, get_or}
use Rattle.bits.proofs.Lists.{cond_keeps}
use Rattle.wire.specs.Call.{unpack_call}
use Rattle.wire.specs.Kinds.{t_down}
use Rattle.words.specs.Words as words
use Rattle.words.specs.Words.{least, Parsed, malformed, parsed, parse}
use Rattle.roster.specs.declared.Member.{Member}
use Rattle.net.specs.declared.Station.{Station}
use Rattle.net.specs.declared.Settings.{Settings}
use Rattle.net.specs.declared.Round.{Round}
use Rattle.net.specs.declared.Wait.{Wait}
use Rattle.net.specs.State.{member_at, with_wait, with_round, queue_at}
use Rattle.net.specs.Net.{is_member, Said, on_tx_done}
use Rattle.admit.specs.Admission.{seat_of, is_full, via_for}
use Rattle.bursts.specs.Rows.{least_direct, reach_level, member_in}
use Rattle.bursts.specs.Bursts.{tiny_words, poll_burst, acks_burst, beacon_of, acks_level}
use Rattle.bursts.specs.Reroute.{source_for}
use Rattle.next.specs.Next.{ncs_next}
use Rattle.rx.specs.Reception.{ncs_rx}
use Rattle.station.specs.Entries.{Outcome, refused, done, unless, admit_of, admitted, receive_by, receive_refusal, receive_of, next_of, sent_of, close_of, free_of, read_refusal, check1, admit_refusal, next_refusal, close_refusal, cell_refusal, post_refusal, post_of}
use Rattle.station.specs.Worst.{worst_of, refusal_in}
use Rattle.dues.specs.Dues.{dues_refusal}
use Rattle.promise.specs.Promise.{lent_to, Net, of_burst, Call, admission, reception, decision, sending, closing, reading, freeing, charging, signing, asking, result, outcome, leads, LinksHold, posting}
use Rattle.promise.proofs.CallEvents.{behind_of}
use Rattle.promise.proofs.TurnsWords.{Mute, mute_none, mute_both}
use Rattle.promise.proofs.TurnsKeeps.{admit_calm, events_mute}
use Rattle.promise.proofs.Walk.{Allowed}
use Rattle.promise.proofs.WalkCalls.{all}
use Rattle.promise.proofs.Spoken.{Sends, Spoken, next_spoken, rx_spoken}
use Rattle.promise.proofs.TurnsSpoken.{acks_other, beacon_other, list_other, word_other}
use Rattle.laws.proofs.LogsWords.{Burst, burst_none, burst_other, burst_poll, burst_pollack, burst_ack, burst_close, Frames, frames_none, frames_less, frames_both, frames_one, burst_level}
use Rattle.laws.proofs.LogsRows.{Sendable, acks_frames, list_frames, beacon_frames}
use Rattle.bursts.specs.Direct.{room_at, payload_at, down_frame, down_frames, down_burst, direct_burst}
use Rattle.bursts.proofs.Directing.{reach_lt, least_le, least_fst}
use Rattle.queue.specs.Queues.{first_of, byte_at, bytes_from}
use Rattle.queue.proofs.Laws.{length_bytes}
use Rattle.words.specs.Fine.{Bytes}

-- events, then a burst or none
pub record Logged (ws : List ℕ) (behind : Option ℕ) : Type 0 where
  pub events : List ℕ
  pub burst : List ℕ
  pub words : ws ≡ events ++ burst
  pub mute : Mute events
  pub ok : Burst burst behind

logged_mute : (ws : List ℕ) (behind : Option ℕ) → Mute ws → Logged ws behind
logged_mute ws behind m = record { events = ws; burst = []; words = sym (append-nil ws); mute = m; ok = burst_none behind }

-- ---- each burst

here_poll : (here t : Bool) (x y l m : ℕ) → Burst (cond here (tiny_words (cond t 1 5) x l) (tiny_words (cond t 1 5) y m)) None
here_poll true t x y l m = burst_poll t x l
here_poll false t x y l m = burst_poll t y m

poll_ok : (g : Settings) (here : Bool) (m : Member) (slot relayfor : ℕ) (robust : Bool) → Burst (poll_burst g here m slot relayfor robust) None
unfolding poll_burst
poll_ok g here m slot relayfor robust = here_poll here (eqb relayfor 63) _ _ _ 0

-- word back

bytes_of_lem : (queue : List ℕ) (slot o n : ℕ) → Bytes (bytes_from queue slot o n)
unfolding bytes_from
bytes_of_lem queue slot o zero = Bytes.none
bytes_of_lem queue slot o (suc n) = Bytes.more {b = byte_at queue slot o} (omega arith) (bytes_of_lem queue slot (o + 1) n)

frames_downs : (k : ℕ) (queue : List ℕ) (slot max last o : ℕ) → max ≤ 255 → Frames k (down_frames k queue slot max last o)
unfolding down_frames
frames_downs zero queue slot max last o h = frames_none 0
frames_downs (suc k) queue slot max last o h =
    let n = least max (last - o) in
    cond_keeps (Frames (suc k)) (ltb o last) _ []
    (λ _. subst (λ (j : ℕ). Frames j (down_frame queue slot o n ++ down_frames k queue slot max last (o + max))) (let z : 1 + k ≡ suc k = omega arith in z)
    (frames_both
    (frames_one (64 * t_down + slot % 64) (o % 16777216) (omega arith) (omega arith) (bytes_from queue slot o n) (omega (arith, length_bytes queue slot o n, least_fst max (last - o))) (bytes_of_lem queue slot o n))
    (frames_downs k queue slot max last (o + max) h)))
    (λ _. frames_none (suc k))

down_ok : (s : Station) (queue : List ℕ) (slot : ℕ) → Burst (direct_burst s queue slot).words None
unfolding direct_burst down_burst
down_ok s queue slot =
    let g = s.settings in
    let q = queue_at s slot in
    let level = reach_level s slot in
    burst_level level (down_frames (room_at g level) queue slot (payload_at g level) q.posted (first_of q))
    (reach_lt g s.used (member_in s slot) (member_at s (member_in s slot).via))
    (frames_less (least_le (get_or g.rooms level 0) 64) (frames_downs (room_at g level) queue slot (payload_at g level) q.posted (first_of q) (least_le (get_or g.payloads level 0) 255)))
    (word_other s queue slot)

-- relays do not depend on the waiting and the round
leads_same : (s : Station) (w : Wait) (r : Round) (k i : ℕ) → leads (with_round (with_wait s w) r) k i ≡ leads s k i
unfolding leads
leads_same s w r zero i = refl
leads_same s w r (suc k) i = ap (λ (b : Bool). is_member s.used i && (eqb (member_at s i).via 63 || b)) (leads_same s w r k (member_at s i).via)

links_same : (s : Station) (w : Wait) (r : Round) → LinksHold (with_round (with_wait s w) r) → LinksHold s
links_same s w r l i m = sym (leads_same s w r 61 i) ∙ l i m

module _ {F : Type 0} {now : Float} {lent : List ℕ} where
  -- that leaves relays in order
  sends_logged : {s : Station} {x : Said} {o : Option ℕ} → Sends F now lent s x o → Sendable s.settings → LinksHold x.station → Burst x.words o
  unfolding acks_burst beacon_of direct_burst
  sends_logged Sends.nothing g l = burst_none None
  sends_logged {s} Sends.closing g l = burst_close s.settings.beaconlevel
  sends_logged {s} (Sends.again r e z) g l = poll_ok s.settings (is_member s.used r.slot) (member_at s r.slot) r.slot r.relayfor true
  sends_logged {s} (Sends.beacon f e) g l = burst_other s.settings.beaconlevel _ (beacon_frames s g) (beacon_other s now)
  sends_logged {s} (Sends.acks f e) g l = burst_other (acks_level s) _ (acks_frames s (links_same s _ _ l)) (acks_other s)
  sends_logged {s} (Sends.list f e) g l = burst_other (least_direct s) _ (list_frames s) (list_other s)
  sends_logged {s} (Sends.word f e slot here) g l = down_ok s lent slot
  sends_logged {s} (Sends.poll e slot h) g l = poll_ok s.settings (is_member s.used slot) (member_at s slot) slot (source_for s slot) false
  sends_logged (Sends.pollack r n heard e h) g l = burst_pollack _ _
  sends_logged (Sends.ack r n heard e) g l = burst_ack _ _ r.slot
  sends_logged (Sends.idle r e) g l = burst_none (Some r.slot)

  logged : {A : Allowed} {n : ℕ} {s : Station} {x : Said} {a b o : Option ℕ} → Spoken A F now lent n s x a b o → Sendable s.settings
      → LinksHold x.station → Logged x.words o
  logged {x} (Spoken.burst b) g l = record { events = []; burst = x.words; words = refl; mute = mute_none; ok = sends_logged b g l }
  logged (Spoken.events {ws = ws} q h e k) g l =
      let f = logged k (subst Sendable (sym h.settings) g) l in
      record {
        events = ws ++ f.events;
        burst = f.burst;
        words = ap (λ (v : List ℕ). ws ++ v) f.words ∙ sym (append_assoc ws f.events f.burst);
        mute = mute_both ws f.events (events_mute e) f.mute;
        ok = f.ok;
      }
  logged (Spoken.draws e z k) g l = logged k g l
  logged (Spoken.late r e h k) g l = logged k (subst Sendable (sym h.settings) g) l

-- ---- each call

logged_unless : (n : ℕ) (s : Station) (store : List ℕ) (o : Outcome) (behind : Option ℕ) → (LinksHold o.station → Logged o.words behind)
    → LinksHold (unless n s store o).station → Logged (unless n s store o).words behind
logged_unless n s store o behind f = by (eqb n 0)
  where
    by : (b : Bool) → LinksHold (cond b o (refused n s store)).station → Logged (cond b o (refused n s store)).words behind
    by true l = f l
    by false l = logged_mute [] behind mute_none

-- one that returns no burst
logged_quiet : (n : ℕ) (s t : Station) (store old ws : List ℕ) → Mute ws → LinksHold (unless n s store (done t old ws)).station
    → Logged (unless n s store (done t old ws)).words None
logged_quiet n s t store old ws m = logged_unless n s store (done t old ws) None (λ l. logged_mute ws None m)

logged_receive : (p : Parsed words.Burst) (n : ℕ) (s : Station) (snr now : Float) (store : List ℕ) → Sendable s.settings
    → LinksHold (unless n s store (receive_by p s snr now store)).station
    → Logged (unless n s store (receive_by p s snr now store)).words (of_burst p None (λ b. (ncs_rx s b snr now store).over))
logged_receive malformed n s snr now store g = logged_unless n s store (refused 3 s store) None (λ l. logged_mute [] None mute_none)
logged_receive (parsed b) n s snr now store g =
    logged_unless n s store (receive_by (parsed b) s snr now store) (ncs_rx s b snr now store).over
    (λ l. logged (rx_spoken all tt now [] tt s b snr store tt) g l)

pub reports : (c : Call) (n : Net) → ((slot : ℕ) → c ≡ signing slot → ⊥) → Sendable n.station.settings → LinksHold (outcome c n).station
    → Logged (outcome c n).words (behind_of c n)
unfolding result admit_of receive_of next_of post_of sent_of close_of free_of on_tx_done
reports (admission packed relay now room) n f g =
    let s = n.station in
    let seat = seat_of s (unpack_call packed) in
    let a = admitted s (unpack_call packed) relay now in
    logged_quiet (admit_refusal room now s.used relay (is_full seat)) s a.station [] [] a.words
    (admit_calm seat s (unpack_call packed) (via_for s seat relay) now).quiet
reports (reception words snr now lent room numbers) n f g =
    logged_receive (parse words) (receive_refusal room (length (lent_to lent n.store)) n.station.count now snr (parse words)) n.station snr now
    (lent_to lent n.store) g
reports (decision now queue room) n f g =
    let s = n.station in
    logged_unless (next_refusal now (length queue) room) s [] (done (ncs_next s now queue).station [] (ncs_next s now queue).words) None
    (λ l. logged (next_spoken all tt now queue s) g l)
reports (posting slot message queue) n f g =
    logged_quiet (post_refusal (length queue) n.station.used slot (queue_at n.station slot) (length message)) n.station _ queue _ [] mute_none
reports (sending now) n f g = logged_quiet (check1 now 0) n.station (on_tx_done n.station now) [] [] [] mute_none
reports (closing count) n f g = logged_quiet (close_refusal count) n.station _ [] [] [] mute_none
reports (reading cell lent) n f g =
    logged_quiet (read_refusal (length (lent_to lent n.store)) n.station.count n.station.landed cell) n.station n.station n.store
    n.store [] mute_none
reports (freeing cell) n f g = logged_quiet (cell_refusal n.station.count n.station.landed cell) n.station _ [] [] [] mute_none
reports (charging figures) n f g = logged_quiet (dues_refusal figures) n.station n.station n.store n.store [] mute_none
reports (signing slot) n f g = absurd (f slot refl)
reports (asking slot) n f g = logged_quiet (refusal_in (worst_of n.station slot)) n.station n.station n.store n.store [] mute_none
