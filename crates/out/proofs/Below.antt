-- The words that the definitions give are words: each is below 2 ^ 32.
-- Assumes nothing.
use mathlib.Core.List.{List, ◌∷◌, ◌++◌}
use Prim.Native.Nat.{ℕ, zero, suc, ◌+◌, ◌*◌, ◌≤◌, ◌<◌}
use native.Mathlib.Omega.{arith}
use lib.ListN.{length, take, drop}
use Rattle.words.specs.Words.{Heard, heard, lost, Burst}
use Rattle.words.specs.Fine.{Bytes, Fine, AllFine, FineBurst}
use Rattle.words.proofs.Fine.{take_bytes}
use Rattle.out.specs.Encode.{Words32, event_word, message_word, missed_word, head_word, wave_word, word12, pack, frame_words, heard_words, frames_words, burst_words, chunks_of, chunk_size, chunk_words}
use Rattle.out.proofs.Pack.{size_most, length_take_most}

pub event_32 : (kind slot relay : ℕ) → event_word kind slot relay < 4294967296
event_32 kind slot relay = omega arith

pub message_32 : (slot cell number : ℕ) → message_word slot cell number < 4294967296
message_32 slot cell number = omega arith

pub missed_32 : (slot : ℕ) → missed_word slot < 4294967296
missed_32 slot = omega arith

pub head_32 : (code hi extra : ℕ) → head_word code hi extra < 4294967296
head_32 code hi extra = omega arith

pub wave_32 : (level : ℕ) → wave_word level < 4294967296
wave_32 level = omega arith

word_32 : (a b c : ℕ) → a < 256 → b < 256 → c < 256 → word12 a b c < 4294967296
word_32 a b c p q r = omega arith

pub append_32 : {a b : List ℕ} → Words32 a → Words32 b → Words32 (a ++ b)
append_32 Words32.none t = t
append_32 (Words32.more h s) t = Words32.more h (append_32 s t)

pub pack_32 : {p : List ℕ} → Bytes p → Words32 (pack p)
unfolding pack
pack_32 Bytes.none = Words32.none
pack_32 (Bytes.more {b = a} h Bytes.none) = Words32.more (word_32 a 0 0 h (omega arith) (omega arith)) Words32.none
pack_32 (Bytes.more {b = a} h (Bytes.more {b = b} i Bytes.none)) = Words32.more (word_32 a b 0 h i (omega arith)) Words32.none
pack_32 (Bytes.more {b = a} h (Bytes.more {b = b} i (Bytes.more {b = c} j t))) = Words32.more (word_32 a b c h i j) (pack_32 t)

pub frame_32 : (flags field : ℕ) (p : List ℕ) → flags < 256 → field < 16777216 → length p < 256 → Bytes p → Words32 (frame_words flags field p)
frame_32 flags field p f g n b =
    let x : 0xa0000000 + flags * 256 + length p < 4294967296 = omega arith in
    let y : 0xb0000000 + field < 4294967296 = omega arith in
    Words32.more x (Words32.more y (pack_32 b))

heard_32 : (f : Heard) → Fine f → Words32 (heard_words f)
heard_32 lost u = let x : 0xd0000000 < 4294967296 = omega arith in Words32.more x Words32.none
heard_32 (heard flags field p) u = frame_32 flags field p u.0 u.1 u.2 u.3

pub frames_32 : {fs : List Heard} → AllFine fs → Words32 (frames_words fs)
unfolding frames_words
frames_32 AllFine.none = Words32.none
frames_32 (AllFine.more {f} u t) = append_32 (heard_32 f u) (frames_32 t)

pub burst_32 : (b : Burst) → FineBurst b → Words32 (burst_words b)
burst_32 b f = Words32.more (head_32 b.head.code b.head.hi b.head.extra) (frames_32 f.frames)

drop_bytes : (n : ℕ) {l : List ℕ} → Bytes l → Bytes (drop n l)
drop_bytes zero h = h
drop_bytes (suc n) Bytes.none = Bytes.none
drop_bytes (suc n) (Bytes.more h t) = drop_bytes n t

chunks_of_32 : (k kind size : ℕ) {l : List ℕ} → kind < 256 → size ≤ 31 → Bytes l → Words32 (chunks_of k kind size l)
unfolding chunks_of
chunks_of_32 zero kind size c s b = Words32.none
chunks_of_32 (suc k) kind size c s Bytes.none = Words32.none
chunks_of_32 (suc k) kind size c s (Bytes.more {b = a} {l = l} h t) =
    let bs : Bytes (a ∷ l) = Bytes.more h t in
    append_32 (frame_32 0xbf 0 (kind ∷ take size (a ∷ l)) (omega arith) (omega arith) (omega (arith, length_take_most size (a ∷ l))) (Bytes.more c (take_bytes size bs)))
    (chunks_of_32 k kind size c s (drop_bytes size bs))

pub chunks_32 : (kind size : ℕ) (l : List ℕ) → kind < 256 → Bytes l → Words32 (chunk_words kind size l)
chunks_32 kind size l c b = chunks_of_32 (length l) kind (chunk_size size) c (size_most size) b
