-- The frames of word back in the words returned: a burst of it has the bytes posted, and no other word begins such a frame. Assumes nothing.
use mathlib.Core.Path.{◌≡◌, refl, sym, ap, ◌∙◌, subst}
use Prim.Native.Nat.{ℕ, zero, suc, ◌+◌, ◌-◌, ◌*◌, ◌/◌, ◌%◌, ◌≤◌, ◌<◌}
use native.Mathlib.Numerals.{add-one}
use native.Mathlib.Omega.{arith}
use mathlib.Core.Bool.{false}
use mathlib.Core.List.{List, [], ◌∷◌, ◌++◌}
use lib.Dec.{ltb}
use lib.ListN.{length, take, drop, get_or}
use lib.Seq.{drop-cons}
use borrow.Author.Tests.{ne_eqb, ltb-true}
use Rattle.bits.proofs.Lists.{cond_keeps, never_both}
use Rattle.wire.specs.Kinds.{t_down}
use Rattle.words.specs.Words.{unpack, payload, least}
use Rattle.words.specs.Fine.{Bytes}
use Rattle.words.proofs.Fine.{take_bytes}
use Rattle.out.specs.Encode.{head_word, wave_word, word12, pack, ctrl_words, chunks_of, chunk_size, chunk_words}
use Rattle.out.proofs.Pack.{length_take_most}
use Rattle.out.proofs.Trip.{item_back}
use Rattle.queue.specs.Queues.{place_of, bytes_from}
use Rattle.queue.proofs.Laws.{length_bytes}
use Rattle.bursts.specs.Bursts.{head_words, tiny_words}
use Rattle.bursts.specs.Direct.{down_frame, down_frames}
use Rattle.bursts.proofs.Directing.{least_le, least_fst}
use Rattle.promise.proofs.WalkWords.{Events}
use Rattle.laws.specs.Directed.{begins_down, Carries, DownFrames}

-- ---- words that begin no frame of word back

pub data Other : List ℕ → Type 0 where
  none : Other []
  more : {w : ℕ} {l : List ℕ} → begins_down w ≡ false → Other l → Other (w ∷ l)

below_frame : (w : ℕ) → w < 2684354560 → begins_down w ≡ false
below_frame w h = rw (ne_eqb (w / 268435456) 10 (λ e. omega arith))

above_frame : (w : ℕ) → 2952790016 ≤ w → begins_down w ≡ false
above_frame w h = rw (ne_eqb (w / 268435456) 10 (λ e. omega arith))

pub other_both : {a b : List ℕ} → Other a → Other b → Other (a ++ b)
other_both Other.none k = k
other_both (Other.more e h) k = Other.more e (other_both h k)

pub events_other : {M : Type 0} {n : ℕ} {ws : List ℕ} → Events M n ws → Other ws
events_other Events.none = Other.none
events_other (Events.more {w} l m h e) = Other.more (below_frame w (omega arith)) (events_other e)

other_pack : (l : List ℕ) → Other (pack l)
unfolding pack
other_pack [] = Other.none
other_pack (a ∷ []) = Other.more (above_frame (word12 a 0 0) (omega arith)) Other.none
other_pack (a ∷ b ∷ []) = Other.more (above_frame (word12 a b 0) (omega arith)) Other.none
other_pack (a ∷ b ∷ c ∷ l) = Other.more (above_frame (word12 a b c) (omega arith)) (other_pack l)

-- a control frame
pub other_ctrl : (p : List ℕ) → length p ≤ 255 → Other (ctrl_words p)
other_ctrl p h =
    let w = 0xa0000000 + 0xbf * 256 + length p in
    let e : w / 268435456 ≡ 10 = omega arith in
    let z : w / 16384 % 4 ≡ 2 = omega arith in
    Other.more {w = 0xa0000000 + 0xbf * 256 + length p} (rw (e, z)) (Other.more (above_frame 0xb0000000 (omega arith)) (other_pack p))

module _ (kind size : ℕ) (few : size ≤ 31) where
  other_chunks : (k : ℕ) (l : List ℕ) → Other (chunks_of k kind size l)
  unfolding chunks_of
  other_chunks zero l = Other.none
  other_chunks (suc k) [] = Other.none
  other_chunks (suc k) (b ∷ l) =
      other_both (other_ctrl (kind ∷ take size (b ∷ l)) (omega (arith, length_take_most size (b ∷ l)))) (other_chunks k (drop size (b ∷ l)))

pub other_rows : (kind size : ℕ) (l : List ℕ) → chunk_size size ≤ 31 → Other (chunk_words kind size l)
other_rows kind size l h = other_chunks kind (chunk_size size) h (length l) l

pub other_burst : (code hi extra level : ℕ) (fs : List ℕ) → Other fs → Other (head_words code hi extra level ++ fs)
other_burst code hi extra level fs o =
    Other.more (below_frame (head_word code hi extra) (omega arith)) (Other.more (below_frame (wave_word level) (omega arith)) o)

pub other_tiny : (kind extra level : ℕ) → Other (tiny_words kind extra level)
other_tiny kind extra level = other_burst 62 kind extra level [] Other.none

-- ---- a payload reads back

payload_is : {p : List ℕ} (rest : List ℕ) → Bytes p → payload (pack p ++ rest) (length p) ≡ p
unfolding payload pack unpack
payload_is rest Bytes.none = refl
payload_is rest (Bytes.more {b = a} h Bytes.none) = let x : word12 a 0 0 / 65536 % 256 ≡ a = omega arith in rw x
payload_is rest (Bytes.more {b = a} h (Bytes.more {b = b} i Bytes.none)) =
    let x : word12 a b 0 / 65536 % 256 ≡ a = omega arith in
    let y : word12 a b 0 / 256 % 256 ≡ b = omega arith in
    rw (x, y)
payload_is rest (Bytes.more {b = a} h (Bytes.more {b = b} i (Bytes.more {b = c} {l = l} j t))) =
    let x : word12 a b c / 65536 % 256 ≡ a = omega arith in
    let y : word12 a b c / 256 % 256 ≡ b = omega arith in
    let z : word12 a b c % 256 ≡ c = omega arith in
    rw (x, y, z) (ap (λ (m : List ℕ). a ∷ b ∷ c ∷ m) (payload_is rest t))

drop_bytes : (n : ℕ) {l : List ℕ} → Bytes l → Bytes (drop n l)
drop_bytes zero h = h
drop_bytes (suc n) Bytes.none = Bytes.none
drop_bytes (suc n) (Bytes.more h t) = drop_bytes n t

byte_at_lem : {l : List ℕ} → Bytes l → (i : ℕ) → get_or l i 0 < 256
byte_at_lem Bytes.none i = omega arith
byte_at_lem (Bytes.more h t) zero = h
byte_at_lem (Bytes.more h t) (suc i) = byte_at_lem t i

-- ---- the bytes of a stream, where each stands in the queue

bytes_are : (queue : List ℕ) (slot : ℕ) (bs : List ℕ) (n o : ℕ) → Bytes bs → o + n ≤ length bs → ((j : ℕ) → o ≤ j → j < length bs → get_or queue (place_of slot j) 0 ≡ get_or bs j 0)
    → bytes_from queue slot o n ≡ take n (drop o bs)
unfolding bytes_from
bytes_are queue slot bs zero o b h f = refl
bytes_are queue slot bs (suc n) o b h f =
    let v : get_or bs o 0 % 256 ≡ get_or bs o 0 = omega (arith, byte_at_lem b o) in
    let e : o + 1 ≡ suc o = add-one o in
    let r : bytes_from queue slot (o + 1) n ≡ take n (drop (o + 1) bs) = bytes_are queue slot bs n (o + 1) b (omega arith) (λ j a l. f j (omega arith) l) in
    rw (drop-cons bs o 0 (omega arith), f o (omega arith) (omega arith), v, ← e) (ap (λ (l : List ℕ). get_or bs o 0 ∷ l) r)

-- ---- bursts

module _ (posted : ℕ → List ℕ) (told : ℕ → ℕ) where
  pub down_first : {a : List ℕ} (b : List ℕ) → Other a → DownFrames posted told b → DownFrames posted told (a ++ b)
  unfolding DownFrames
  down_first b Other.none k = k
  down_first b (Other.more {w} e h) k = ((λ t. absurd (never_both (begins_down w) t e)), down_first b h k)

  pub down_none : DownFrames posted told []
  unfolding DownFrames
  down_none = tt

  pub down_other : {a : List ℕ} → Other a → DownFrames posted told a
  unfolding DownFrames
  down_other Other.none = tt
  down_other (Other.more {w} e h) = ((λ t. absurd (never_both (begins_down w) t e)), down_other h)

  module _ (queue : List ℕ) (slot : ℕ) (here : slot < 62) (bs : Bytes (posted slot)) (few : length (posted slot) ≤ 16777215) where
    abbrev last : ℕ
    last = length (posted slot)

    carried : (o n : ℕ) (rest : List ℕ) → o + n ≤ last → n ≤ 255 → told slot ≤ o → ((j : ℕ) → o ≤ j → j < last → get_or queue (place_of slot j) 0 ≡ get_or (posted slot) j 0)
        → Carries posted told (down_frame queue slot o n ++ rest)
    carried o n rest h m t f =
        let p = bytes_from queue slot o n in
        let flags = 64 * t_down + slot % 64 in
        let field = o % 16777216 in
        let len = length_bytes queue slot o n in
        let are : p ≡ take n (drop o (posted slot)) = bytes_are queue slot (posted slot) n o bs h f in
        let ps : Bytes p = subst Bytes (sym are) (take_bytes n (drop_bytes o bs)) in
        let s : flags % 64 ≡ slot = omega arith in
        let g : field ≡ o = omega arith in
        record {
          flags = flags;
          field = field;
          len = length p;
          frame = item_back flags field p rest (omega arith) (omega arith) (omega arith) ps;
          slot = omega arith;
          within = rw (s, g, len) h;
          exact = payload_is rest ps ∙ rw (s, g, len) are;
          new = rw (s, g) t;
        }

    pub down_frames_lem : (k max o : ℕ) → max ≤ 255 → told slot ≤ o → ((j : ℕ) → o ≤ j → j < last → get_or queue (place_of slot j) 0 ≡ get_or (posted slot) j 0)
        → DownFrames posted told (down_frames k queue slot max last o)
    unfolding down_frames DownFrames
    down_frames_lem zero max o m t f = tt
    down_frames_lem (suc k) max o m t f =
        let n = least max (last - o) in
        cond_keeps (DownFrames posted told) (ltb o last) _ []
        (λ q. let l = ltb-true o last q in (
          λ _. carried o n (down_frames k queue slot max last (o + max)) (omega (arith, least_le max (last - o))) (omega (arith, least_fst max (last - o))) t f,
          down_first (down_frames k queue slot max last (o + max))
              (Other.more (above_frame (0xb0000000 + o % 16777216) (omega arith)) (other_pack (bytes_from queue slot o n)))
              (down_frames_lem k max (o + max) m (omega arith) (λ j a b. f j (omega arith) b)),
        ))
        (λ _. tt)

    pub down_burst_lem : (level k max o : ℕ) → max ≤ 255 → told slot ≤ o → ((j : ℕ) → o ≤ j → j < last → get_or queue (place_of slot j) 0 ≡ get_or (posted slot) j 0)
        → DownFrames posted told (head_words level 0 0 level ++ down_frames k queue slot max last o)
    down_burst_lem level k max o m t f = down_first _ (other_burst level 0 0 level [] Other.none) (down_frames_lem k max o m t f)
