-- What is said has no frame of word back but those of the burst of it, and what is kept stays. Assumes nothing.
use Rattle.std.specs.Prelude.{Option, None}
use mathlib.Core.Path.{◌≡◌, refl, sym, ◌∙◌, subst}
use Prim.Native.Nat.{ℕ, ◌≤◌, ◌<◌}
use native.Mathlib.Omega.{arith}
use mathlib.Core.Bool.{Bool, true, false, cond}
use mathlib.Core.List.{List, [], ◌++◌}
use lib.Dec.{ltb}
use lib.Ieee.{Float}
use lib.ListN.{length, get_or}
use Rattle.bits.proofs.Lists.{cond_keeps}
use Rattle.wire.specs.Kinds.{k_close, k_pollack, k_ack, c_acks, c_tree, c_rxlist}
use Rattle.out.specs.Encode.{ctrl_words, chunk_words}
use Rattle.roster.specs.declared.Member.{Member}
use Rattle.queue.specs.declared.Queue.{Queue}
use Rattle.queue.specs.Queues.{empty_queue, first_of}
use Rattle.net.specs.declared.Station.{Station}
use Rattle.net.specs.declared.Settings.{Settings}
use Rattle.net.specs.State.{index_of, member_at, queue_at, with_wait, one_reply}
use Rattle.net.specs.Net.{is_member, idle_wait, wait_of, Said}
use borrow.Author.Tests.{ltb-true, ltb-false}
use Rattle.net.proofs.Laws.{index_is, index_lt, member_lt}
use Rattle.bursts.specs.Rows.{ack_rows, tree_rows, list_rows, least_direct, reach_level}
use Rattle.bursts.specs.Bursts.{head_words, poll_kind, poll_burst, acked, moved_in, acked_or_moved, acks_level, acks_burst, name_payload, beacon_payload, beacon_rows, beacon_acks, beacon_of}
use Rattle.bursts.specs.Reroute.{source_for}
use Rattle.bursts.specs.Direct.{room_at, payload_at, down_frames, down_burst, direct_burst}
use Rattle.bursts.proofs.Directing.{least_le}
use Rattle.next.specs.Next.{ncs_next}
use Rattle.net.specs.declared.Turn.TheVariants.{Sending}
use Rattle.rx.specs.Ending.{turn_over_in}
use Rattle.promise.proofs.Walk.{Allowed}
use Rattle.promise.proofs.QuietWalk.{uncelled}
use Rattle.promise.proofs.Spoken.{Sends, Spoken, reach_told, next_spoken}
use Rattle.laws.specs.Directed.{DownFrames}
use Rattle.laws.proofs.DirectedBytes.{Holds, Kept, kept_sent}
use Rattle.laws.proofs.DirectedWords.{Other, other_both, events_other, other_ctrl, other_rows, other_burst, other_tiny, down_first, down_other, down_burst_lem}

-- ---- bursts that are no word back

poll_other : (g : Settings) (here : Bool) (m : Member) (slot relayfor : ℕ) (robust : Bool) → Other (poll_burst g here m slot relayfor robust)
unfolding poll_burst
poll_other g here m slot relayfor robust =
    cond_keeps Other here _ _ (λ _. other_tiny (poll_kind relayfor) _ _) (λ _. other_tiny (poll_kind relayfor) _ 0)

payload_most : (g : Settings) (acks : ℕ) → length (beacon_payload g acks) ≤ 255
unfolding beacon_payload
payload_most g acks = cond_keeps (λ (t : List ℕ). length (name_payload g ++ t) ≤ 255) g.prime _ [] (λ _. omega arith) (λ _. omega arith)

acks_other : (s : Station) → Other (acks_burst s).words
unfolding acks_burst
acks_other s =
    other_burst 0 0 0 (acks_level s) (chunk_words c_acks 18 (ack_rows s (acked s) 62) ++ chunk_words c_tree 20 (tree_rows s (acked_or_moved s) (moved_in s)))
    (other_both (other_rows c_acks 18 (ack_rows s (acked s) 62) (omega arith)) (other_rows c_tree 20 (tree_rows s (acked_or_moved s) (moved_in s)) (omega arith)))

beacon_other : (s : Station) (now : Float) → Other (beacon_of s now).words
unfolding beacon_of
beacon_other s now =
    let p = beacon_payload s.settings (beacon_acks s) in
    other_burst 0 0 0 s.settings.beaconlevel (ctrl_words p ++ chunk_words c_acks 18 (beacon_rows s))
    (other_both (other_ctrl p (payload_most s.settings (beacon_acks s))) (other_rows c_acks 18 (beacon_rows s) (omega arith)))

-- members and queues stay
abbrev pub Alike : Station → Station → Type 0
Alike s t = (t.used ≡ s.used) × (t.queues ≡ s.queues)

over_alike : (s : Station) (slot source : ℕ) → Alike s (turn_over_in s slot source)
over_alike s slot source = cond_keeps (Alike s) (is_member s.used source) _ s (λ _. (refl, refl)) (λ _. (refl, refl))

-- a burst is word back, or has no frame of it
module _ {F : Type 0} {now : Float} {lent : List ℕ} {s : Station} (P : Said → Type 0)
    (back : F → (slot : ℕ) → is_member s.used slot ≡ true → P (direct_burst s lent slot))
    (other : (x : Said) → Alike s x.station → Other x.words → P x) where
  sends_cases : {x : Said} {o : Option ℕ} → Sends F now lent s x o → P x
  unfolding acks_burst beacon_of
  sends_cases Sends.nothing = other _ (refl, refl) Other.none
  sends_cases Sends.closing = other _ (refl, refl) (other_tiny k_close 0 s.settings.beaconlevel)
  sends_cases (Sends.again r e z) =
      other _ (refl, refl) (poll_other s.settings (is_member s.used r.slot) (member_at s r.slot) r.slot r.relayfor true)
  sends_cases (Sends.beacon f e) = other (beacon_of s now) (refl, refl) (beacon_other s now)
  sends_cases (Sends.acks f e) = other (acks_burst s) (refl, refl) (acks_other s)
  sends_cases (Sends.list f e) =
      other _ ((reach_told uncelled s).boats (λ n. n))
      (other_burst 0 0 0 (least_direct s) (chunk_words c_rxlist 21 (list_rows s)) (other_rows c_rxlist 21 (list_rows s) (omega arith)))
  sends_cases (Sends.word f e slot here) = back f slot here
  sends_cases (Sends.poll e slot h) = other _ (refl, refl) (poll_other s.settings (is_member s.used slot) (member_at s slot) slot (source_for s slot) false)
  sends_cases (Sends.pollack r n heard e l) = other _ (refl, refl) (other_tiny k_pollack _ _)
  sends_cases (Sends.ack r n heard e) = other _ (over_alike (with_wait s (wait_of Sending None)) r.slot r.relayfor) (other_tiny k_ack _ _)
  sends_cases (Sends.idle r e) = other _ (over_alike (one_reply (with_wait s idle_wait)) r.slot r.relayfor) Other.none

-- a reception has none; and its end leaves members and queues alone
module _ {now : Float} {lent : List ℕ} where
  pub spoken_other : {A : Allowed} {n : ℕ} {s : Station} {x : Said} {a b o : Option ℕ} → Spoken A ⊥ now lent n s x a b o → Other x.words
  spoken_other (Spoken.burst b) = sends_cases (λ (x : Said). Other x.words) (λ f slot here. absurd f) (λ x h o. o) b
  spoken_other (Spoken.events q h e k) = other_both (events_other e) (spoken_other k)
  spoken_other (Spoken.draws e z k) = spoken_other k
  spoken_other (Spoken.late r e h k) = spoken_other k

  pub spoken_alike : {n : ℕ} {s : Station} {x : Said} {a b o : Option ℕ} → Spoken uncelled ⊥ now lent n s x a b o → Alike s x.station
  spoken_alike {s = s} (Spoken.burst b) = sends_cases (λ (x : Said). Alike s x.station) (λ f slot here. absurd f) (λ x h o. h) b
  spoken_alike (Spoken.events q h e k) = let a = h.boats (λ n. n) in let b = spoken_alike k in (b.0 ∙ a.0, b.1 ∙ a.1)
  spoken_alike (Spoken.draws e z k) = spoken_alike k
  spoken_alike (Spoken.late r e h k) = let a = h.boats (λ n. n) in let b = spoken_alike k in (b.0 ∙ a.0, b.1 ∙ a.1)

most_least : (a b : ℕ) (x : Bool) → ltb a b ≡ x → (a ≤ cond x b a) × (b ≤ cond x b a)
most_least a b true e = (omega (arith, ltb-true a b e), omega arith)
most_least a b false e = (omega arith, omega (arith, ltb-false a b e))

-- ---- a decision

module _ (queue : List ℕ) (posted : ℕ → List ℕ) (told : ℕ → ℕ) where
  abbrev Keeps : Station → Type 0
  Keeps s = Kept queue posted told s.queues

  abbrev Fine : Said → Type 0
  Fine x = DownFrames posted told x.words × Keeps x.station

  keeps_from : {qs rs : List Queue} → rs ≡ qs → Kept queue posted told qs → Kept queue posted told rs
  keeps_from e k = subst (Kept queue posted told) (sym e) k

  -- the only burst of word back
  down_ok : (s : Station) (slot : ℕ) → slot < 62 → Keeps s → DownFrames posted told (down_burst s.settings queue slot (queue_at s slot) (reach_level s slot))
  unfolding down_burst
  down_ok s slot l k =
      let q = queue_at s slot in
      let level = reach_level s slot in
      let h : Holds queue slot q (posted slot) (told slot) = subst (λ (j : ℕ). Holds queue slot (get_or s.queues j empty_queue) (posted slot) (told slot)) (sym (index_is slot l)) (k.each slot l) in
      let m = most_least q.reported q.kept (ltb q.reported q.kept) refl in
      subst (λ (n : ℕ). DownFrames posted told
      (head_words level 0 0 level ++ down_frames (room_at s.settings level) queue slot (payload_at s.settings level) n (first_of q))) (sym h.numbers.total)
      (down_burst_lem posted told queue slot l h.fine (omega (arith, h.numbers)) level (room_at s.settings level) (payload_at s.settings level) (first_of q)
      (least_le (get_or s.settings.payloads level 0) 255) (omega (arith, h.numbers.most, m.0)) (λ j a b. h.bytes j (omega (arith, m.1)) b))

  fine_word : (s : Station) (slot : ℕ) → is_member s.used slot ≡ true → Keeps s → Fine (direct_burst s queue slot)
  unfolding direct_burst
  fine_word s slot here k = (down_ok s slot (member_lt s.used slot here) k, kept_sent s.queues (index_of slot) s.round.number (index_lt slot) k)

  fine_spoken : {F : Type 0} {now : Float} {n : ℕ} {s : Station} {x : Said} {a b o : Option ℕ} → Spoken uncelled F now queue n s x a b o → Keeps s → Fine x
  fine_spoken {s = s} (Spoken.burst b) k =
      sends_cases Fine (λ f slot here. fine_word s slot here k) (λ x h o. (down_other posted told o, keeps_from h.1 k)) b
  fine_spoken (Spoken.events {x = x} q h e m) k =
      let f = fine_spoken m (keeps_from (h.boats (λ n. n)).1 k) in
      (down_first posted told x.words (events_other e) f.0, f.1)
  fine_spoken (Spoken.draws e z m) k = fine_spoken m k
  fine_spoken (Spoken.late r e h m) k = fine_spoken m (keeps_from (h.boats (λ n. n)).1 k)

  pub fine_next : (s : Station) (now : Float) → Keeps s → DownFrames posted told (ncs_next s now queue).words × Kept queue posted told (ncs_next s now queue).station.queues
  fine_next s now k = fine_spoken (next_spoken uncelled tt now queue s) k
