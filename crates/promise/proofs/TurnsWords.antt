-- Which bursts stand in the words returned: a head is a burst, and the words of events, waves and frames are none. Assumes nothing.
use mathlib.Core.Path.{◌≡◌, refl, sym, ap, ◌∙◌}
use Prim.Native.Nat.{ℕ, zero, suc, ◌+◌, ◌-◌, ◌*◌, ◌/◌, ◌%◌, ◌≤◌, ◌<◌}
use native.Mathlib.Omega.{arith}
use mathlib.Core.Bool.{Bool, true, false, cond, ◌||◌}
use mathlib.Core.List.{List, [], ◌∷◌, ◌++◌, append_assoc}
use lib.Dec.{eqb, ltb}
use lib.ListN.{length, take, drop}
use borrow.Author.Tests.{ne_eqb, lt-leb}
use Rattle.wire.specs.Kinds.{t_down, k_pollack, k_ack, k_close}
use Rattle.words.specs.Words.{head_of, least}
use Rattle.out.specs.Encode.{head_word, wave_word, word12, pack, ctrl_words, chunks_of, chunk_size, chunk_words, frame_words}
use Rattle.roster.specs.declared.Member.{Member}
use Rattle.net.specs.declared.Station.{Station}
use Rattle.net.specs.declared.Settings.{Settings}
use Rattle.bursts.specs.Rows.{least_of}
use Rattle.bursts.specs.Bursts.{head_words, tiny_words, poll_extra, poll_burst}
use Rattle.rx.specs.Ending.{ack_extra, ack_words}
use Rattle.promise.specs.Promise.{TurnEvent, poll, ack, burst_by, bursts_in}
use Rattle.logs.specs.Reading.{is_sent, sent_in}
use Rattle.bits.proofs.Lists.{cond_keeps}
use Rattle.queue.specs.declared.Queue.{Queue}
use Rattle.queue.specs.Queues.{first_of, bytes_from}
use Rattle.bursts.specs.Direct.{room_at, payload_at, down_frame, down_frames, down_burst}

-- no burst stands in these words
abbrev pub Quiet : List ℕ → Type 0
Quiet ws = bursts_in ws ≡ []

below_head : (w : ℕ) (ws : List ℕ) → w < 2147483648 → bursts_in (w ∷ ws) ≡ bursts_in ws
unfolding bursts_in
below_head w ws h = rw (ne_eqb (w / 268435456) 8 (λ e. omega arith))

above_head : (w : ℕ) (ws : List ℕ) → 2415919104 ≤ w → bursts_in (w ∷ ws) ≡ bursts_in ws
unfolding bursts_in
above_head w ws h = rw (ne_eqb (w / 268435456) 8 (λ e. omega arith))

append_by : (b : Bool) (e xs ys zs : List TurnEvent) → zs ≡ xs ++ ys → cond b (e ++ zs) zs ≡ cond b (e ++ xs) xs ++ ys
append_by true e xs ys zs h = ap (λ (l : List TurnEvent). e ++ l) h ∙ sym (append_assoc e xs ys)
append_by false e xs ys zs h = h

pub bursts_append : (a b : List ℕ) → bursts_in (a ++ b) ≡ bursts_in a ++ bursts_in b
unfolding bursts_in
bursts_append [] b = refl
bursts_append (w ∷ a) b = append_by (eqb (w / 268435456) 8) (burst_by (head_of w)) (bursts_in a) (bursts_in b) (bursts_in (a ++ b)) (bursts_append a b)

-- words without a burst before others
pub quiet_first : (a b : List ℕ) → Quiet a → bursts_in (a ++ b) ≡ bursts_in b
quiet_first a b h = bursts_append a b ∙ ap (λ (x : List TurnEvent). x ++ bursts_in b) h

pub quiet_both : (a b : List ℕ) → Quiet a → Quiet b → Quiet (a ++ b)
quiet_both a b h k = quiet_first a b h ∙ k

pub quiet_none : Quiet []
unfolding bursts_in
quiet_none = refl

-- ### Events

-- and no word of a sending
abbrev pub Mute : List ℕ → Type 0
Mute ws = Quiet ws × (sent_in ws ≡ [])

unsent : (w : ℕ) (ws : List ℕ) → w < 2147483648 → sent_in (w ∷ ws) ≡ sent_in ws
unfolding sent_in
unsent w ws h = rw (lt-leb 8 (w / 268435456) (omega arith))

sent_by_lem : (b : Bool) (w : ℕ) (xs ys zs : List ℕ) → zs ≡ xs ++ ys → cond b (w ∷ zs) zs ≡ cond b (w ∷ xs) xs ++ ys
sent_by_lem true w xs ys zs h = ap (λ (l : List ℕ). w ∷ l) h
sent_by_lem false w xs ys zs h = h

pub sent_append : (a b : List ℕ) → sent_in (a ++ b) ≡ sent_in a ++ sent_in b
unfolding sent_in
sent_append [] b = refl
sent_append (w ∷ a) b = sent_by_lem (is_sent w) w (sent_in a) (sent_in b) (sent_in (a ++ b)) (sent_append a b)

pub mute_none : Mute []
unfolding sent_in
mute_none = (quiet_none, refl)

pub mute_both : (a b : List ℕ) → Mute a → Mute b → Mute (a ++ b)
mute_both a b h k = (quiet_both a b h.0 k.0, sent_append a b ∙ rw (h.1, k.1))

pub mute_one : (w : ℕ) → w < 2147483648 → Mute (w ∷ [])
mute_one w h = (below_head w [] h ∙ quiet_none, unsent w [] h ∙ mute_none.1)

-- ### Frames

quiet_pack : (l : List ℕ) → Quiet (pack l)
unfolding pack
quiet_pack [] = quiet_none
quiet_pack (a ∷ []) = above_head (word12 a 0 0) [] (omega arith) ∙ quiet_none
quiet_pack (a ∷ b ∷ []) = above_head (word12 a b 0) [] (omega arith) ∙ quiet_none
quiet_pack (a ∷ b ∷ c ∷ l) = above_head (word12 a b c) (pack l) (omega arith) ∙ quiet_pack l

pub quiet_frame : (flags field : ℕ) (p : List ℕ) → Quiet (frame_words flags field p)
quiet_frame flags field p =
    above_head (0xa0000000 + flags * 256 + length p) ((0xb0000000 + field) ∷ pack p) (omega arith)
    ∙ above_head (0xb0000000 + field) (pack p) (omega arith) ∙ quiet_pack p

pub quiet_ctrl : (p : List ℕ) → Quiet (ctrl_words p)
quiet_ctrl p = quiet_frame 0xbf 0 p

-- the frames of word back
quiet_downs : (k : ℕ) (queue : List ℕ) (slot max last o : ℕ) → Quiet (down_frames k queue slot max last o)
unfolding down_frames
quiet_downs zero queue slot max last o = quiet_none
quiet_downs (suc k) queue slot max last o =
    cond_keeps Quiet (ltb o last) _ []
    (λ _. quiet_both (down_frame queue slot o (least max (last - o))) (down_frames k queue slot max last (o + max)) (quiet_frame (64 * t_down + slot % 64) (o % 16777216) (bytes_from queue slot o (least max (last - o)))) (quiet_downs k queue slot max last (o + max)))
    (λ _. quiet_none)

quiet_chunks : (k kind size : ℕ) (l : List ℕ) → Quiet (chunks_of k kind size l)
unfolding chunks_of
quiet_chunks zero kind size l = quiet_none
quiet_chunks (suc k) kind size [] = quiet_none
quiet_chunks (suc k) kind size (b ∷ l) =
    quiet_both (ctrl_words (kind ∷ take size (b ∷ l))) (chunks_of k kind size (drop size (b ∷ l))) (quiet_ctrl (kind ∷ take size (b ∷ l)))
    (quiet_chunks k kind size (drop size (b ∷ l)))

pub quiet_chunk_words : (kind size : ℕ) (l : List ℕ) → Quiet (chunk_words kind size l)
quiet_chunk_words kind size l = quiet_chunks (length l) kind (chunk_size size) l

-- ### Heads

-- a burst with frames
pub other_burst : (level : ℕ) (ws : List ℕ) → Quiet ws → bursts_in (head_words 0 0 0 level ++ ws) ≡ []
unfolding bursts_in
other_burst level ws h = above_head (wave_word level) ws (omega arith) ∙ h

-- a burst whose code is a level of the ladder
level_head : (level : ℕ) (ws : List ℕ) → level < 17 → Quiet ws → bursts_in (head_words level 0 0 level ++ ws) ≡ []
unfolding bursts_in
level_head level ws l h =
    let w = head_word level 0 0 in
    let k : w / 268435456 ≡ 8 = omega arith in
    let c : w / 2097152 % 128 ≡ level = omega arith in
    rw (k, c, ne_eqb level 62 (λ e. omega arith)) (above_head (wave_word level) ws (omega arith) ∙ h)

-- word back is no poll and no acknowledgement
pub down_burst_lem : (g : Settings) (queue : List ℕ) (slot : ℕ) (q : Queue) (level : ℕ) → level < 17 → bursts_in (down_burst g queue slot q level) ≡ []
unfolding down_burst
down_burst_lem g queue slot q level l =
    level_head level (down_frames (room_at g level) queue slot (payload_at g level) q.posted (first_of q)) l (quiet_downs (room_at g level) queue slot (payload_at g level) q.posted (first_of q))

abbrev pub tiny_burst : ℕ → ℕ → List TurnEvent
tiny_burst kind slot = cond (eqb kind 1 || eqb kind 5) (poll slot ∷ []) (cond (eqb kind 2 || eqb kind 3) (ack slot ∷ []) [])

-- a burst without frames
pub tiny_head : (kind extra level : ℕ) → kind < 16
    → bursts_in (tiny_words kind extra level) ≡ tiny_burst kind (extra % 64) ++ []
unfolding bursts_in
tiny_head kind extra level h =
    let w = head_word 62 kind extra in
    let k : w / 268435456 ≡ 8 = omega arith in
    let c : w / 2097152 % 128 ≡ 62 = omega arith in
    let n : w / 131072 % 16 ≡ kind = omega arith in
    let x : w % 65536 % 64 ≡ extra % 64 = omega arith in
    rw (k, c, n, x) (ap (λ (t : List TurnEvent). tiny_burst kind (extra % 64) ++ t) (above_head (wave_word level) [] (omega arith) ∙ quiet_none))

pub close_burst : (level : ℕ) → bursts_in (tiny_words k_close 0 level) ≡ []
close_burst level = tiny_head k_close 0 level (omega arith)

extra_by : (t : Bool) (slot a b c : ℕ) → slot < 62
    → cond t (slot % 64 + 64 * a + 1024 * (b % 4)) (slot % 64 + 64 * (c % 64) + 4096 * a) % 64 ≡ slot
extra_by true slot a b c h = omega arith
extra_by false slot a b c h = omega arith

poll_by_lem : (t : Bool) (extra slot level : ℕ) → extra % 64 ≡ slot → bursts_in (tiny_words (cond t 1 5) extra level) ≡ poll slot ∷ []
poll_by_lem true extra slot level h = tiny_head 1 extra level (omega arith) ∙ rw h
poll_by_lem false extra slot level h = tiny_head 5 extra level (omega arith) ∙ rw h

here_by : (here : Bool) (t : Bool) (x y slot l m : ℕ) → x % 64 ≡ slot → y % 64 ≡ slot
    → bursts_in (cond here (tiny_words (cond t 1 5) x l) (tiny_words (cond t 1 5) y m)) ≡ poll slot ∷ []
here_by true t x y slot l m p q = poll_by_lem t x slot l p
here_by false t x y slot l m p q = poll_by_lem t y slot m q

pub poll_burst_lem : (g : Settings) (here : Bool) (m : Member) (slot relayfor : ℕ) (robust : Bool) → slot < 62
    → bursts_in (poll_burst g here m slot relayfor robust) ≡ poll slot ∷ []
unfolding poll_burst
poll_burst_lem g here m slot relayfor robust h =
    here_by here (eqb relayfor 63) _ (poll_extra slot relayfor 0 0) slot _ 0 (extra_by (eqb relayfor 63) slot _ _ relayfor h)
    (extra_by (eqb relayfor 63) slot (least_of 0 15) 0 relayfor h)

pub pollack_burst : (s : Station) (slot burst heard : ℕ) → slot < 62 → bursts_in (ack_words k_pollack s slot burst heard) ≡ ack slot ∷ []
pollack_burst s slot burst heard h =
    let e : ack_extra slot burst heard % 64 ≡ slot = omega arith in
    tiny_head k_pollack (ack_extra slot burst heard) _ (omega arith) ∙ rw e

pub ack_burst : (s : Station) (slot burst heard : ℕ) → slot < 62 → bursts_in (ack_words k_ack s slot burst heard) ≡ ack slot ∷ []
ack_burst s slot burst heard h =
    let e : ack_extra slot burst heard % 64 ≡ slot = omega arith in
    tiny_head k_ack (ack_extra slot burst heard) _ (omega arith) ∙ rw e
