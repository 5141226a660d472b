-- Document 01, section "Words": the words of events, sendings and bursts, and what a writer leaves in the output that it was lent.
use Rattle.std.specs.Prelude.{◌≡◌, cond, List, [], ◌∷◌, ◌++◌, ℕ, zero, suc, ◌+◌, ◌*◌, ◌%◌, ◌<◌, eqb, ltb, length, take, drop}
use Rattle.std.proofs.lemmas.List.Edits.{sets}
use Rattle.words.specs.Words.{Heard, lost, heard, Burst, least}

-- ### The output

-- the place after k words from i on in an output of n words: at its end it stays
unfoldable pub after : ℕ → ℕ → ℕ → ℕ
after n i zero = i
after n i (suc k) = after n (cond (ltb i n) (i + 1) i) k

-- A writer that was lent the output l, was to write from i on, and ended at j with the output m: it stored the words vs as far as they fit, and left all else.
pub record Wrote (l : List ℕ) (i : ℕ) (vs : List ℕ) (m : List ℕ) (j : ℕ) : Type 0 where
  pub out : m ≡ sets l i vs
  pub end : j ≡ after (length l) i (length vs)

-- ### Events

-- 1 checked in, 4 relayed, 5 routed: slot 5-0, relay 11-6
abbrev pub event_word : ℕ → ℕ → ℕ → ℕ
event_word kind slot relay = kind % 16 * 268435456 + relay % 64 * 64 + slot % 64

-- 2: slot 5-0, cell 12-6, number mod 256 in 20-13
abbrev pub message_word : ℕ → ℕ → ℕ → ℕ
message_word slot cell number = 0x20000000 + number % 256 * 8192 + cell % 128 * 64 + slot % 64

-- 3: slot
abbrev pub missed_word : ℕ → ℕ
missed_word slot = 0x30000000 + slot % 64

-- ### A head and its wave

-- 8: code 27-21, high nibble 20-17, extra 15-0
abbrev pub head_word : ℕ → ℕ → ℕ → ℕ
head_word code hi extra = 0x80000000 + code % 128 * 2097152 + hi % 16 * 131072 + extra % 65536

-- 9: level 4-0
abbrev pub wave_word : ℕ → ℕ
wave_word level = 0x90000000 + level % 32

-- ### Frames

-- 12: three payload bytes, the first highest
abbrev pub word12 : ℕ → ℕ → ℕ → ℕ
word12 a b c = 0xc0000000 + a * 65536 + b * 256 + c

-- the words 12 of payload bytes, spare bytes zero
unfoldable pub pack : List ℕ → List ℕ
pack [] = []
pack (a ∷ []) = word12 a 0 0 ∷ []
pack (a ∷ b ∷ []) = word12 a b 0 ∷ []
pack (a ∷ b ∷ c ∷ l) = word12 a b c ∷ pack l

-- 10 (flags 15-8, length 7-0), 11 (field 23-0), then 12
abbrev pub frame_words : ℕ → ℕ → List ℕ → List ℕ
frame_words flags field p = (0xa0000000 + flags * 256 + length p) ∷ (0xb0000000 + field) ∷ pack p

-- a control frame to everyone
abbrev pub ctrl_words : List ℕ → List ℕ
ctrl_words p = frame_words 0xbf 0 p

abbrev pub heard_words : Heard → List ℕ
heard_words lost = 0xd0000000 ∷ []
heard_words (heard flags field p) = frame_words flags field p

unfoldable pub frames_words : List Heard → List ℕ
frames_words [] = []
frames_words (f ∷ fs) = heard_words f ++ frames_words fs

-- the words of a reception
abbrev pub burst_words : Burst → List ℕ
burst_words b = head_word b.head.code b.head.hi b.head.extra ∷ frames_words b.frames

-- ### Rows in control frames

-- at most k control frames, each of the byte kind and the next `size` bytes
unfoldable pub chunks_of : ℕ → ℕ → ℕ → List ℕ → List ℕ
chunks_of zero kind size l = []
chunks_of (suc k) kind size [] = []
chunks_of (suc k) kind size (b ∷ l) = ctrl_words (kind ∷ take size (b ∷ l)) ++ chunks_of k kind size (drop size (b ∷ l))

-- a size is 1 to 31, so that a frame has at most 32 bytes
abbrev pub chunk_size : ℕ → ℕ
chunk_size size = cond (eqb size 0) 1 (least size 31)

-- all the bytes of l
abbrev pub chunk_words : ℕ → ℕ → List ℕ → List ℕ
chunk_words kind size l = chunks_of (length l) kind (chunk_size size) l

-- each is a word
pub data Words32 : List ℕ → Type 0 where
  none : Words32 []
  more : {w : ℕ} {l : List ℕ} → w < 4294967296 → Words32 l → Words32 (w ∷ l)
