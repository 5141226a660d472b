-- Document 01, section "Words": what the words of a burst say. A word is a number below 2 ^ 32, its kind the top four bits.
use Rattle.std.specs.Prelude.{Bool, true, cond, ◌&&◌, ◌||◌, List, [], ◌∷◌, ◌++◌, ℕ, zero, suc, ◌+◌, ◌-◌, ◌/◌, ◌%◌, eqb, ltb, length, take, drop, get_or, replicate, Option, Some, None}
use Rattle.words.specs.declared.Item.{Item}
use Rattle.words.specs.declared.Item.TheVariants.{End, Bad, Lost, Frame}
use Rattle.words.specs.declared.Head.{Head}

-- A frame that was not heard, or its flags, its field and its payload bytes.
pub data Heard : Type 0 where
  lost : Heard
  heard : ℕ → ℕ → List ℕ → Heard

-- A reception: one head and its frames.
pub record Burst : Type 0 where
  pub head : Head
  pub frames : List Heard

pub data Parsed (A : Type 0) : Type 0 where
  malformed : Parsed A
  parsed : A → Parsed A

-- ### Payload: words 12, three bytes each, the first highest

-- the words that n bytes take
abbrev pub words_for : ℕ → ℕ
words_for n = (n + 2) / 3

-- kind 12 with bits 27 to 24 zero; of the last word, which has `left` bytes, the spare ones are zero
unfoldable pub word_ok : ℕ → ℕ → Bool
word_ok w left = eqb (w / 16777216) 192 && cond (eqb left 1) (eqb (w % 65536) 0) (cond (eqb left 2) (eqb (w % 256) 0) true)

-- at the head of the list stand the words of n payload bytes
unfoldable pub payload_ok : List ℕ → ℕ → Bool
payload_ok [] n = eqb n 0
payload_ok (w ∷ ws) n = eqb n 0 || (word_ok w n && payload_ok ws (n - 3))

-- byte k of a word 12
abbrev pub byte_of : ℕ → ℕ → ℕ
byte_of w k = cond (eqb k 0) (w / 65536 % 256) (cond (eqb k 1) (w / 256 % 256) (w % 256))

-- the three bytes of each word, one word after the other
unfoldable pub unpack : List ℕ → List ℕ
unpack [] = []
unpack (w ∷ ws) = byte_of w 0 ∷ byte_of w 1 ∷ byte_of w 2 ∷ unpack ws

-- the n payload bytes at the head of the list
unfoldable pub payload : List ℕ → ℕ → List ℕ
payload ws n = take n (unpack ws)

-- ### Frames

-- the words after a word 10: a word 11, then the payload
unfoldable pub frame_of : ℕ → List ℕ → Item
frame_of w [] = Bad
frame_of w (v ∷ ws) = cond (eqb (v / 16777216) 176 && payload_ok ws (w % 256)) (Frame (w / 256 % 256) (v % 16777216) (w % 256)) Bad

-- what stands at the head of the list
unfoldable pub item_at : List ℕ → Item
item_at [] = End
item_at (w ∷ ws) = cond (eqb w 0xd0000000) Lost (cond (eqb (w / 65536) 0xa000) (frame_of w ws) Bad)

-- how many words it takes
abbrev pub size_of : Item → ℕ
size_of End = 0
size_of Bad = 0
size_of Lost = 1
size_of (Frame flags field len) = 2 + words_for len

-- the frame that an item stands for, at the head of the list
abbrev pub heard_of : Item → List ℕ → Heard
heard_of End ws = lost
heard_of Bad ws = lost
heard_of Lost ws = lost
heard_of (Frame flags field len) ws = heard flags field (payload (drop 2 ws) len)

abbrev pub before : Heard → Parsed (List Heard) → Parsed (List Heard)
before f malformed = malformed
before f (parsed fs) = parsed (f ∷ fs)

-- the frames of a list whose first item is known, given the frames after it
abbrev pub then_frames : Item → List ℕ → Parsed (List Heard) → Parsed (List Heard)
then_frames End ws rest = parsed []
then_frames Bad ws rest = malformed
then_frames Lost ws rest = before lost rest
then_frames (Frame flags field len) ws rest = before (heard_of (Frame flags field len) ws) rest

abbrev pub no_more : Item → Parsed (List Heard)
no_more End = parsed []
no_more Bad = malformed
no_more Lost = malformed
no_more (Frame flags field len) = malformed

-- at most k frames, to the end of the list
unfoldable pub frames_of : ℕ → List ℕ → Parsed (List Heard)
frames_of zero ws = no_more (item_at ws)
frames_of (suc k) ws = then_frames (item_at ws) ws (frames_of k (drop (size_of (item_at ws)) ws))

-- ### The burst

-- kind 8, bit 16 zero
unfoldable pub head_ok : ℕ → Bool
head_ok w = eqb (w / 268435456) 8 && eqb (w / 65536 % 2) 0

-- code 27-21, high nibble 20-17, extra 15-0
abbrev pub head_of : ℕ → Head
head_of w = record { code = w / 2097152 % 128; hi = w / 131072 % 16; extra = w % 65536 }

abbrev pub burst_of : ℕ → Parsed (List Heard) → Parsed Burst
burst_of w malformed = malformed
burst_of w (parsed fs) = parsed (record { head = head_of w; frames = fs })

-- one head, then 0 to 64 frames
unfoldable pub parse : List ℕ → Parsed Burst
parse [] = malformed
parse (w ∷ ws) = cond (head_ok w) (burst_of w (frames_of 64 ws)) malformed

abbrev pub shape_of : Parsed Burst → Option ℕ
shape_of malformed = None
shape_of (parsed b) = Some (length b.frames)

-- the shape of a burst that has n frames before the item i, after which there is none
abbrev pub last_shape : Item → ℕ → Option ℕ
last_shape End n = Some n
last_shape Bad n = None
last_shape Lost n = None
last_shape (Frame flags field len) n = None

-- ### Reading at a place: any words, and what is missing reads as 0

-- what stands at the head of the list, with no look at the payload
unfoldable pub peek_at : List ℕ → Item
peek_at [] = End
peek_at (w ∷ ws) = cond (eqb w 0xd0000000) Lost (Frame (w / 256 % 256) (get_or ws 0 0 % 16777216) (w % 256))

-- byte j of the payload of the frame at the head of the list
unfoldable pub byte_at : List ℕ → ℕ → ℕ
byte_at ws j = get_or (unpack (drop 2 ws)) j 0

-- its five bytes from byte j on
abbrev pub five_at : List ℕ → ℕ → List ℕ
five_at ws j = byte_at ws j ∷ byte_at ws (j + 1) ∷ byte_at ws (j + 2) ∷ byte_at ws (j + 3) ∷ byte_at ws (j + 4) ∷ []

-- its first n bytes
unfoldable pub bytes_at : List ℕ → ℕ → List ℕ
bytes_at ws zero = []
bytes_at ws (suc n) = bytes_at ws n ++ (byte_at ws n ∷ [])

abbrev pub least : ℕ → ℕ → ℕ
least a b = cond (ltb a b) a b

-- its first n bytes, 255 at most, and zeros behind them
abbrev pub payload_at : List ℕ → ℕ → List ℕ
payload_at ws n = bytes_at ws (least n 255) ++ replicate (255 - least n 255) 0
