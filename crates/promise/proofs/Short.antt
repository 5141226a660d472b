-- How many words an admission and a next decision return at most, whatever the station is, and that none of them is an event 2. Assumes nothing.
use Rattle.std.specs.Prelude.{Option}
use mathlib.Core.Path.{◌≡◌, refl, ◌∙◌}
use Prim.Native.Nat.{ℕ, zero, suc, ◌+◌, ◌-◌, ◌*◌, ◌/◌, ◌%◌, ◌≤◌}
use native.Mathlib.Omega.{arith}
use mathlib.Core.Bool.{Bool, true, false, cond}
use mathlib.Core.List.{List, [], ◌∷◌, ◌++◌}
use lib.Dec.{ltb}
use lib.Ieee.{Float}
use lib.ListN.{length, take, drop, get_or, length-append, length-drop}
use Rattle.bits.proofs.Lists.{cond_keeps}
use Rattle.wire.specs.Kinds.{t_down, k_close, k_ack, k_pollack, c_acks, c_tree, c_rxlist}
use Rattle.out.specs.Encode.{head_word, wave_word, word12, pack, frame_words, ctrl_words, chunks_of, chunk_size, chunk_words}
use Rattle.out.proofs.Pack.{length_pack, length_take_most}
use Rattle.roster.specs.declared.Member.{Member}
use Rattle.net.specs.declared.Station.{Station}
use Rattle.net.specs.declared.Settings.{Settings}
use Rattle.net.specs.State.{member_at, queue_at}
use Rattle.net.specs.Net.{is_member, Said}
use Rattle.admit.specs.declared.Seat.{Seat}
use Rattle.admit.specs.Admission.{admit_by}
use Rattle.bursts.specs.Rows.{ack_at, ack_row, ack_rows, tree_at, tree_row, tree_rows, list_at, list_row, list_rows, least_direct, reach_level}
use Rattle.bursts.specs.Bursts.{head_words, tiny_words, poll_burst, acked, moved_in, acked_or_moved, acks_burst, name_payload, beacon_payload, beacon_rows, beacon_acks, beacon_of, list_words, acks_level}
use Rattle.bursts.proofs.Filling.{rows_most}
use Rattle.bursts.proofs.Waiting.{beacon_most}
use Rattle.next.specs.Next.{ncs_next}
use Rattle.promise.specs.Promise.{events_in}
use Rattle.promise.proofs.Events.{events_none, event_other, append_quiet}
use Rattle.words.specs.Words.{least}
use Rattle.queue.specs.declared.Queue.{Queue}
use Rattle.queue.specs.Queues.{first_of, bytes_from}
use Rattle.queue.proofs.Laws.{length_bytes}
use Rattle.bursts.specs.Direct.{room_at, payload_at, down_frames, down_burst, direct_burst}
use Rattle.bursts.proofs.Directing.{least_le, least_fst}
use Rattle.promise.proofs.WalkWords.{Events, admit_events_lem}
use Rattle.promise.proofs.Spoken.{Sends, Spoken, next_spoken}
use Rattle.promise.proofs.QuietWalk.{uncelled}

-- n words at most, and no event 2 among them
pub record Short (n : ℕ) (ws : List ℕ) : Type 0 where
  pub most : length ws ≤ n
  pub quiet : events_in ws ≡ []

pub short_none : (n : ℕ) → Short n []
short_none n = record { most = omega arith; quiet = events_none }

pub short_less : {n k : ℕ} {ws : List ℕ} → n ≤ k → Short n ws → Short k ws
short_less h s = record { most = omega (arith, s.most); quiet = s.quiet }

short_word : {n : ℕ} {ws : List ℕ} (w : ℕ) → (w / 268435456 ≡ 2 → ⊥) → Short n ws → Short (n + 1) (w ∷ ws)
short_word {n} {ws} w h s = record { most = omega (arith, s.most); quiet = event_other w ws h ∙ s.quiet }

pub short_both : {n k : ℕ} {a b : List ℕ} → Short n a → Short k b → Short (n + k) (a ++ b)
short_both {n} {k} {a} {b} s t = record { most = omega (arith, length-append a b, s.most, t.most); quiet = append_quiet a b [] s.quiet t.quiet }

short_if : {n : ℕ} {a b : List ℕ} (t : Bool) → Short n a → Short n b → Short n (cond t a b)
short_if true s r = s
short_if false s r = r

-- ---- bursts

-- a head, its wave and 64 frames at most, each of 2 + 85 words at most: so is every burst, whatever it says
abbrev pub burst_room : ℕ
burst_room = 2 + 64 * 87

quiet_pack : (l : List ℕ) → events_in (pack l) ≡ []
unfolding pack
quiet_pack [] = events_none
quiet_pack (a ∷ []) = event_other (word12 a 0 0) [] (λ e. omega arith) ∙ events_none
quiet_pack (a ∷ b ∷ []) = event_other (word12 a b 0) [] (λ e. omega arith) ∙ events_none
quiet_pack (a ∷ b ∷ c ∷ l) = event_other (word12 a b c) (pack l) (λ e. omega arith) ∙ quiet_pack l

-- a frame
pub short_frame : (flags field : ℕ) (p : List ℕ) → length p ≤ 255 → Short 87 (frame_words flags field p)
short_frame flags field p h =
    short_word (0xa0000000 + flags * 256 + length p) (λ e. omega arith)
    (short_word {n = 85} (0xb0000000 + field) (λ e. omega arith) (record { most = omega (arith, length_pack p); quiet = quiet_pack p }))

short_ctrl : (p : List ℕ) → length p ≤ 255 → Short 87 (ctrl_words p)
short_ctrl p h = short_frame 0xbf 0 p h

module _ (kind size : ℕ) (few : size ≤ 31) where
  short_chunks : (k n : ℕ) (l : List ℕ) → length l ≤ n * size → Short (n * 87) (chunks_of k kind size l)
  unfolding chunks_of
  short_chunks zero n l e = short_none (n * 87)
  short_chunks (suc k) n [] e = short_none (n * 87)
  short_chunks (suc k) zero (b ∷ l) e = absurd (omega arith)
  short_chunks (suc k) (suc n) (b ∷ l) e =
      let c : length (drop size (b ∷ l)) ≤ n * size = omega (arith, length-drop size (b ∷ l), e) in
      short_less (omega arith)
      (short_both (short_ctrl (kind ∷ take size (b ∷ l)) (omega (arith, length_take_most size (b ∷ l)))) (short_chunks k n (drop size (b ∷ l)) c))

-- n frames of rows
short_rows : (kind size n : ℕ) (l : List ℕ) → chunk_size size ≤ 31 → length l ≤ n * chunk_size size → Short (n * 87) (chunk_words kind size l)
short_rows kind size n l h e = short_chunks kind (chunk_size size) h (length l) n l e

pub short_burst : (code hi extra level : ℕ) (fs : List ℕ) → Short (64 * 87) fs → Short burst_room (head_words code hi extra level ++ fs)
short_burst code hi extra level fs s = short_word (head_word code hi extra) (λ e. omega arith) (short_word (wave_word level) (λ e. omega arith) s)

-- without frames
pub short_tiny : (kind extra level : ℕ) → Short burst_room (tiny_words kind extra level)
short_tiny kind extra level = short_burst 62 kind extra level [] (short_none (64 * 87))

short_poll : (g : Settings) (here : Bool) (m : Member) (slot relayfor : ℕ) (robust : Bool) → Short burst_room (poll_burst g here m slot relayfor robust)
unfolding poll_burst
short_poll g here m slot relayfor robust = short_if here (short_tiny _ _ _) (short_tiny _ _ 0)

short_acks : (s : Station) → Short burst_room (acks_burst s).words
unfolding acks_burst
short_acks s =
    let a = ack_rows s (acked s) 62 in
    let t = tree_rows s (acked_or_moved s) (moved_in s) in
    short_burst 0 0 0 (acks_level s) (chunk_words c_acks 18 a ++ chunk_words c_tree 20 t)
    (short_less (omega arith) (short_both
    (short_rows c_acks 18 21 a (omega arith) (omega (arith, rows_most (ack_at (acked s) 62) (ack_row s) 6 (λ i. refl) [])))
    (short_rows c_tree 20 7 t (omega arith) (omega (arith, rows_most (tree_at s (acked_or_moved s) (moved_in s)) (tree_row s) 2 (λ i. refl) [])))))

payload_most : (g : Settings) (acks : ℕ) → length (beacon_payload g acks) ≤ 255
unfolding beacon_payload
payload_most g acks = cond_keeps (λ (t : List ℕ). length (name_payload g ++ t) ≤ 255) g.prime _ [] (λ _. omega arith) (λ _. omega arith)

short_beacon : (s : Station) (now : Float) → Short burst_room (beacon_of s now).words
unfolding beacon_of
short_beacon s now =
    let p = beacon_payload s.settings (beacon_acks s) in
    short_burst 0 0 0 s.settings.beaconlevel (ctrl_words p ++ chunk_words c_acks 18 (beacon_rows s))
    (short_less (omega arith) (short_both (short_ctrl p (payload_most s.settings (beacon_acks s))) (short_rows c_acks 18 42 (beacon_rows s) (omega arith) (omega (arith, beacon_most s)))))

short_list : (s : Station) → Short burst_room (list_words s)
short_list s =
    short_burst 0 0 0 (least_direct s) (chunk_words c_rxlist 21 (list_rows s))
    (short_less (omega arith) (short_rows c_rxlist 21 9 (list_rows s) (omega arith) (omega (arith, rows_most (list_at s) (list_row s) 3 (λ i. refl) []))))

-- word back: 64 frames at most of 255 bytes each
short_downs : (k : ℕ) (queue : List ℕ) (slot max last o : ℕ) → max ≤ 255 → Short (k * 87) (down_frames k queue slot max last o)
unfolding down_frames
short_downs zero queue slot max last o h = short_none 0
short_downs (suc k) queue slot max last o h =
    cond_keeps (Short (suc k * 87)) (ltb o last) _ []
    (λ _. short_less (omega arith)
    (short_both
    (short_frame (64 * t_down + slot % 64) (o % 16777216) (bytes_from queue slot o (least max (last - o))) (omega (arith, length_bytes queue slot o (least max (last - o)), least_fst max (last - o))))
    (short_downs k queue slot max last (o + max) h)))
    (λ _. short_none (suc k * 87))

short_down : (g : Settings) (queue : List ℕ) (slot : ℕ) (q : Queue) (level : ℕ) → Short burst_room (down_burst g queue slot q level)
unfolding down_burst
short_down g queue slot q level =
    short_burst level 0 0 level (down_frames (room_at g level) queue slot (payload_at g level) q.posted (first_of q))
    (short_less (omega (arith, least_le (get_or g.rooms level 0) 64))
    (short_downs (room_at g level) queue slot (payload_at g level) q.posted (first_of q) (least_le (get_or g.payloads level 0) 255)))

-- ---- what is said

pub short_events : {n : ℕ} {ws : List ℕ} → Events ⊥ n ws → Short n ws
short_events {n} Events.none = short_none n
short_events (Events.more {w} l m h e) = short_less (omega arith) (short_word w m (short_events e))

pub short_admit : (seat : Seat) (s : Station) (call : List ℕ) (via : ℕ) (now : Float) → Short 2 (admit_by seat s call via now).words
short_admit seat s call via now = short_events (admit_events_lem ⊥ seat s call via now)

module _ {F : Type 0} {now : Float} {lent : List ℕ} where
  short_sends : {s : Station} {x : Said} {o : Option ℕ} → Sends F now lent s x o → Short burst_room x.words
  unfolding direct_burst
  short_sends Sends.nothing = short_none burst_room
  short_sends {s} Sends.closing = short_tiny k_close 0 s.settings.beaconlevel
  short_sends {s} (Sends.again r e z) = short_poll s.settings (is_member s.used r.slot) (member_at s r.slot) r.slot r.relayfor true
  short_sends {s} (Sends.beacon f e) = short_beacon s now
  short_sends {s} (Sends.acks f e) = short_acks s
  short_sends {s} (Sends.list f e) = short_list s
  short_sends {s} (Sends.word f e slot here) = short_down s.settings lent slot (queue_at s slot) (reach_level s slot)
  short_sends {s} (Sends.poll e slot h) = short_poll s.settings (is_member s.used slot) (member_at s slot) slot _ false
  short_sends (Sends.pollack r n heard e l) = short_tiny k_pollack _ _
  short_sends (Sends.ack r n heard e) = short_tiny k_ack _ _
  short_sends (Sends.idle r e) = short_none burst_room

  -- where no message lands
  pub short_spoken : {n : ℕ} {s : Station} {x : Said} {l m o : Option ℕ} → Spoken uncelled F now lent n s x l m o → Short (n + burst_room) x.words
  short_spoken (Spoken.burst b) = short_less (omega arith) (short_sends b)
  short_spoken (Spoken.events q h e k) = short_less (omega arith) (short_both (short_events e) (short_spoken k))
  short_spoken (Spoken.draws e z k) = short_spoken k
  short_spoken (Spoken.late r e h k) = short_spoken k

-- event 3, 62 promotions and 62 reroutings, a burst
abbrev pub next_room : ℕ
next_room = 125 + burst_room

pub short_next : (queue : List ℕ) (s : Station) (now : Float) → Short next_room (ncs_next s now queue).words
short_next queue s now = short_spoken (next_spoken uncelled tt now queue s)
