-- The words of one burst in a log: they are a sending, no word of a mark, and its head alone is an entry. Assumes nothing.
use mathlib.Core.Path.{◌≡◌, refl, sym, ap, ◌∙◌, subst}
use Prim.Native.Nat.{ℕ, zero, suc, ◌+◌, ◌-◌, ◌*◌, ◌/◌, ◌%◌, ◌≤◌, ◌<◌}
use native.Mathlib.Nat.{zero-add}
use native.Mathlib.Omega.{arith}
use mathlib.Core.Bool.{Bool, true, false, cond, ◌||◌}
use mathlib.Core.List.{List, [], ◌∷◌, ◌++◌, append_assoc}
use Rattle.std.specs.Prelude.{Some, Option, None}
use lib.Dec.{eqb}
use lib.ListN.{length, take, drop, length-drop}
use borrow.Author.Tests.{eq-eqb, ne_eqb, le-leb}
use Rattle.bits.proofs.Lists.{cond_false}
use Rattle.words.specs.Words.{words_for, head_ok, head_of}
use Rattle.words.specs.declared.Item.TheVariants.{Frame}
use Rattle.words.specs.Fine.{Bytes}
use Rattle.words.proofs.Fine.{take_bytes}
use Rattle.out.specs.Encode.{head_word, wave_word, word12, pack, ctrl_words, chunks_of, chunk_size, chunk_words, frame_words}
use Rattle.out.proofs.Pack.{length_take_most}
use Rattle.out.proofs.Trip.{item_back, rest_back}
use Rattle.bursts.specs.Bursts.{head_words, tiny_words}
use Rattle.logs.specs.Reading.{Entry, part, frame_part, part_of, parts_from, marks_from, sending_by, entries_from, sent_in}
use Rattle.logs.specs.Reading as log
use Rattle.logs.proofs.Parts.{parts_more}
use Rattle.promise.specs.Promise.{TurnEvent, poll, ack, bursts_in}
use Rattle.promise.proofs.TurnsWords.{tiny_head, tiny_burst}

-- ---- words 9 to 12

pub data Plain : List ℕ → Type 0 where
  empty : Plain []
  more : {w : ℕ} {l : List ℕ} → 2415919104 ≤ w → w < 3489660928 → Plain l → Plain (w ∷ l)

plain_append : {a b : List ℕ} → Plain a → Plain b → Plain (a ++ b)
plain_append Plain.empty k = k
plain_append (Plain.more p q h) k = Plain.more p q (plain_append h k)

plain_sent : {l : List ℕ} → Plain l → sent_in l ≡ l
unfolding sent_in
plain_sent Plain.empty = refl
plain_sent (Plain.more {w} p q h) = rw (le-leb 8 (w / 268435456) (omega arith), le-leb (w / 268435456) 12 (omega arith), plain_sent h)

plain_marks : {l : List ℕ} → Plain l → (ws : List ℕ) → marks_from 0 (l ++ ws) ≡ marks_from 0 ws
unfolding marks_from
plain_marks Plain.empty ws = refl
plain_marks (Plain.more {w} p q h) ws = rw (ne_eqb (w / 268435456) 6 (λ e. omega arith)) (plain_marks h ws)

plain_entries : {l : List ℕ} → Plain l → (ws : List ℕ) → entries_from 0 (l ++ ws) ≡ entries_from 0 ws
unfolding entries_from
plain_entries Plain.empty ws = refl
plain_entries (Plain.more {w} p q h) ws =
    rw (ne_eqb (w / 268435456) 6 (λ e. omega arith), ne_eqb (w / 268435456) 8 (λ e. omega arith)) (plain_entries h ws)

plain_pack : {p : List ℕ} → Bytes p → Plain (pack p)
unfolding pack
plain_pack Bytes.none = Plain.empty
plain_pack (Bytes.more {b = a} h Bytes.none) = Plain.more {w = word12 a 0 0} (omega arith) (omega arith) Plain.empty
plain_pack (Bytes.more {b = a} h (Bytes.more {b = b} i Bytes.none)) = Plain.more {w = word12 a b 0} (omega arith) (omega arith) Plain.empty
plain_pack (Bytes.more {b = a} h (Bytes.more {b = b} i (Bytes.more {b = c} j t))) = Plain.more {w = word12 a b c} (omega arith) (omega arith) (plain_pack t)

-- ---- parts of a log, one after the other

-- a log goes on with these words where m frames may follow
abbrev pub GoodFrom : ℕ → List ℕ → Type 0
GoodFrom m ws = (room : ℕ) → m ≤ room → parts_from 0 room ws ≡ true

abbrev pub Good : List ℕ → Type 0
Good ws = GoodFrom 0 ws

pub good_none : Good []
unfolding parts_from
good_none room h = refl

-- a word of a mark
pub good_mark : (w : ℕ) (ws : List ℕ) → w / 268435456 ≡ 6 → Good ws → Good (w ∷ ws)
unfolding parts_from part_of
good_mark w ws e g room h = rw (eq-eqb (w / 268435456) 6 e) (g 0 (omega arith))

-- a head with its wave
good_head : (code hi extra level : ℕ) (ws : List ℕ) → GoodFrom 64 ws → Good (head_words code hi extra level ++ ws)
unfolding parts_from part_of head_ok
good_head code hi extra level ws g room h =
    let w = head_word code hi extra in
    rw (
      ne_eqb (w / 268435456) 6 (λ e. omega arith),
      eq-eqb (w / 268435456) 8 (omega arith),
      eq-eqb (w / 65536 % 2) 0 (omega arith),
      eq-eqb (wave_word level / 32) 75497472 (omega arith),
    ) (g 64 (omega arith))

module _ (flags field : ℕ) (fl : flags < 256) (fi : field < 16777216) (p ws : List ℕ) (n : length p < 256) (bs : Bytes p) where
  abbrev w : ℕ
  w = 0xa0000000 + flags * 256 + length p

  frame_part_lem : (room : ℕ) → part_of room (frame_words flags field p ++ ws) ≡ frame_part room (Frame flags field (length p))
  unfolding part_of head_ok
  frame_part_lem room =
      rw (ne_eqb (w / 268435456) 6 (λ e. omega arith), ne_eqb (w / 268435456) 8 (λ e. omega arith)) (ap (frame_part room) (item_back flags field p ws fl fi n bs))

  -- a frame, where one may follow
  good_frame : (m : ℕ) → GoodFrom m ws → GoodFrom (suc m) (frame_words flags field p ++ ws)
  good_frame m g room h =
      let q : part_of room (frame_words flags field p ++ ws) ≡ Some (part (2 + words_for (length p)) (room - 1)) = frame_part_lem room ∙ cond_false (eqb room 0) _ _ (ne_eqb room 0 (λ e. omega arith)) in
      parts_more (frame_words flags field p ++ ws) 0 room (omega arith) (part (2 + words_for (length p)) (room - 1)) (sym q) (omega arith)
      ∙ rw (zero-add (2 + words_for (length p)), rest_back flags field p ws fl fi n bs) (g (room - 1) (omega arith))

-- ---- frames

-- n frames at most
pub record Frames (n : ℕ) (fs : List ℕ) : Type 0 where
  pub plain : Plain fs
  pub good : (m : ℕ) (ws : List ℕ) → GoodFrom m ws → GoodFrom (n + m) (fs ++ ws)

pub frames_none : (n : ℕ) → Frames n []
frames_none n = record { plain = Plain.empty; good = λ m ws g room h. g room (omega arith) }

pub frames_less : {n k : ℕ} {fs : List ℕ} → n ≤ k → Frames n fs → Frames k fs
frames_less h f = record { plain = f.plain; good = λ m ws g room q. f.good m ws g room (omega arith) }

pub frames_both : {n k : ℕ} {a b : List ℕ} → Frames n a → Frames k b → Frames (n + k) (a ++ b)
frames_both {n} {k} {a} {b} f g =
    record {
      plain = plain_append f.plain g.plain;
      good = λ m ws h room q. rw append_assoc (f.good (k + m) (b ++ ws) (g.good m ws h) room (omega arith));
    }

pub frames_one : (flags field : ℕ) → flags < 256 → field < 16777216 → (p : List ℕ) → length p < 256 → Bytes p → Frames 1 (frame_words flags field p)
frames_one flags field fl fi p n bs =
    record {
      plain = Plain.more {w = 0xa0000000 + flags * 256 + length p} (omega arith) (omega arith) (Plain.more {w = 0xb0000000 + field} (omega arith) (omega arith) (plain_pack bs));
      good = λ m ws g room h. good_frame flags field fl fi p ws n bs m g room (omega arith);
    }

pub frames_ctrl : (p : List ℕ) → length p < 256 → Bytes p → Frames 1 (ctrl_words p)
frames_ctrl p n bs = frames_one 0xbf 0 (omega arith) (omega arith) p n bs

drop_bytes : (n : ℕ) {l : List ℕ} → Bytes l → Bytes (drop n l)
drop_bytes zero h = h
drop_bytes (suc n) Bytes.none = Bytes.none
drop_bytes (suc n) (Bytes.more h t) = drop_bytes n t

module _ (kind size : ℕ) (byte : kind < 256) (most : size ≤ 31) where
  frames_chunks : (k n : ℕ) {l : List ℕ} → Bytes l → length l ≤ n * size → Frames n (chunks_of k kind size l)
  unfolding chunks_of
  frames_chunks zero n h e = frames_none n
  frames_chunks (suc k) n Bytes.none e = frames_none n
  frames_chunks (suc k) zero (Bytes.more b t) e = absurd (omega arith)
  frames_chunks (suc k) (suc n) {l} (Bytes.more {b = x} {l = m} b t) e =
      let c : length (drop size (x ∷ m)) ≤ n * size = omega (arith, length-drop size (x ∷ m), e) in
      subst (λ (j : ℕ). Frames j (ctrl_words (kind ∷ take size (x ∷ m)) ++ chunks_of k kind size (drop size (x ∷ m)))) (omega arith)
      (frames_both (frames_ctrl (kind ∷ take size (x ∷ m)) (omega (arith, length_take_most size (x ∷ m))) (Bytes.more byte (take_bytes size (Bytes.more b t))))
      (frames_chunks k n (drop_bytes size (Bytes.more b t)) c))

-- rows in control frames of 18, 20 or 21 bytes each
pub frames_rows : (kind size n : ℕ) (l : List ℕ) → kind < 256 → chunk_size size ≤ 31 → Bytes l → length l ≤ n * chunk_size size → Frames n (chunk_words kind size l)
frames_rows kind size n l k m bs e = frames_chunks kind (chunk_size size) k m (length l) n bs e

-- ---- bursts

-- what the monitor sees of a burst, the slot whose waiting ends behind it, and what the log shows of it: only K_ACK ends a waiting
pub data Agree : List TurnEvent → Option ℕ → List Entry → Type 0 where
  neither : {b : Option ℕ} → Agree [] b []
  polls : {x : ℕ} → Agree (poll x ∷ []) None (log.poll x ∷ [])
  goes : {x : ℕ} → Agree (ack x ∷ []) None (log.pollack x ∷ [])
  ends : {x y : ℕ} → Agree (ack x ∷ []) (Some y) (log.ack x ∷ [])

-- a burst as a log has it
pub record Burst (b : List ℕ) (behind : Option ℕ) : Type 0 where
  pub sent : sent_in b ≡ b
  pub good : (ws : List ℕ) → Good ws → Good (b ++ ws)
  pub marks : (ws : List ℕ) → marks_from 0 (b ++ ws) ≡ marks_from 0 ws
  pub entries : List Entry
  pub read : (ws : List ℕ) → entries_from 0 (b ++ ws) ≡ entries ++ entries_from 0 ws
  pub agree : Agree (bursts_in b) behind entries

-- no burst
pub burst_none : (behind : Option ℕ) → Burst [] behind
unfolding sent_in bursts_in
burst_none behind = record { sent = refl; good = λ ws g. g; marks = λ ws. refl; entries = []; read = λ ws. refl; agree = Agree.neither }

module _ (code hi extra level : ℕ) (fs : List ℕ) (f : Frames 64 fs) where
  abbrev h : ℕ
  h = head_word code hi extra

  head_sent : sent_in (head_words code hi extra level ++ fs) ≡ head_words code hi extra level ++ fs
  unfolding sent_in
  head_sent =
      let a : h / 268435456 ≡ 8 = omega arith in
      let b : wave_word level / 268435456 ≡ 9 = omega arith in
      rw (a, b, plain_sent f.plain)

  head_marks : (ws : List ℕ) → marks_from 0 ((head_words code hi extra level ++ fs) ++ ws) ≡ marks_from 0 ws
  unfolding marks_from
  head_marks ws =
      let a : h / 268435456 ≡ 8 = omega arith in
      let b : wave_word level / 268435456 ≡ 9 = omega arith in
      rw (a, b) (plain_marks f.plain ws)

  head_read : (ws : List ℕ) → entries_from 0 ((head_words code hi extra level ++ fs) ++ ws) ≡ sending_by (head_of h) ++ entries_from 0 ws
  unfolding entries_from
  head_read ws =
      let a : h / 268435456 ≡ 8 = omega arith in
      let b : wave_word level / 268435456 ≡ 9 = omega arith in
      rw (a, b, plain_entries f.plain ws)

  pub burst_of_lem : (behind : Option ℕ) → Agree (bursts_in (head_words code hi extra level ++ fs)) behind (sending_by (head_of h)) → Burst (head_words code hi extra level ++ fs) behind
  burst_of_lem behind a =
      record {
        sent = head_sent;
        good = λ ws g. good_head code hi extra level (fs ++ ws) (λ room q. f.good 0 ws g room (omega arith));
        marks = head_marks;
        entries = sending_by (head_of h);
        read = head_read;
        agree = a;
      }

-- a burst with frames
pub burst_other : (level : ℕ) (fs : List ℕ) → Frames 64 fs → bursts_in (head_words 0 0 0 level ++ fs) ≡ [] → Burst (head_words 0 0 0 level ++ fs) None
burst_other level fs f e = burst_of_lem 0 0 0 level fs f None (subst (λ (l : List TurnEvent). Agree l None []) (sym e) Agree.neither)

-- one of data, whose code is its level
pub burst_level : (level : ℕ) (fs : List ℕ) → level < 17 → Frames 64 fs → bursts_in (head_words level 0 0 level ++ fs) ≡ [] → Burst (head_words level 0 0 level ++ fs) None
burst_level level fs l f e =
    let w = head_word level 0 0 in
    let c : w / 2097152 % 128 ≡ level = omega arith in
    burst_of_lem level 0 0 level fs f None
    (subst (λ (x : List Entry). Agree (bursts_in (head_words level 0 0 level ++ fs)) None x) (sym (rw (c, ne_eqb level 62 (λ z. omega arith)))) (subst (λ (x : List TurnEvent). Agree x None []) (sym e) Agree.neither))

-- ---- header-only bursts

abbrev tiny_entry : ℕ → ℕ → List Entry
tiny_entry kind slot =
    cond (eqb kind 1 || eqb kind 5) (log.poll slot ∷ []) (cond (eqb kind 2) (log.pollack slot ∷ []) (cond (eqb kind 3) (log.ack slot ∷ []) []))

tiny_entry_lem : (kind extra : ℕ) → kind < 16 → sending_by (head_of (head_word 62 kind extra)) ≡ tiny_entry kind (extra % 64)
tiny_entry_lem kind extra h =
    let w = head_word 62 kind extra in
    let c : w / 2097152 % 128 ≡ 62 = omega arith in
    let n : w / 131072 % 16 ≡ kind = omega arith in
    let x : w % 65536 % 64 ≡ extra % 64 = omega arith in
    rw (c, n, x)

burst_tiny : (kind extra level : ℕ) (behind : Option ℕ) → kind < 16 → Agree (tiny_burst kind (extra % 64) ++ []) behind (tiny_entry kind (extra % 64))
    → Burst (tiny_words kind extra level) behind
burst_tiny kind extra level behind h a =
    burst_of_lem 62 kind extra level [] (frames_none 64) behind
    (subst (λ (l : List TurnEvent). Agree l behind (sending_by (head_of (head_word 62 kind extra)))) (sym (tiny_head kind extra level h))
    (subst (λ (l : List Entry). Agree (tiny_burst kind (extra % 64) ++ []) behind l) (sym (tiny_entry_lem kind extra h)) a))

pub burst_poll : (t : Bool) (extra level : ℕ) → Burst (tiny_words (cond t 1 5) extra level) None
burst_poll true extra level = burst_tiny 1 extra level None (omega arith) Agree.polls
burst_poll false extra level = burst_tiny 5 extra level None (omega arith) Agree.polls

pub burst_pollack : (extra level : ℕ) → Burst (tiny_words 2 extra level) None
burst_pollack extra level = burst_tiny 2 extra level None (omega arith) Agree.goes

pub burst_ack : (extra level slot : ℕ) → Burst (tiny_words 3 extra level) (Some slot)
burst_ack extra level slot = burst_tiny 3 extra level (Some slot) (omega arith) Agree.ends

pub burst_close : (level : ℕ) → Burst (tiny_words 6 0 level) None
burst_close level = burst_tiny 6 0 level None (omega arith) Agree.neither
