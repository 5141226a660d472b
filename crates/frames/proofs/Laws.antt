-- What stands at the cursor: a frame's flags and length are bytes. Assumes nothing.
use mathlib.Core.Path.{◌≡◌, refl, sym, ap, ◌∙◌}
use mathlib.Core.Bool.{Bool, true, false, cond}
use mathlib.Core.List.{List, [], ◌∷◌}
use Rattle.std.specs.Prelude.{Some}
use Prim.Native.Nat.{ℕ, ◌+◌, ◌-◌, ◌/◌, ◌%◌, ◌<◌, ◌≤◌}
use native.Mathlib.Omega.{arith}
use lib.Dec.{eqb}
use lib.ListN.{length, get_or, take, drop, replicate}
use lib.Seq.{take_at}
use Rattle.words.specs.Words.{peek_at, item_at, words_for, bytes_at, payload_at, payload}
use Rattle.words.proofs.Read.{least_left, length_bytes, payload_take}
use Rattle.words.specs.declared.Item.TheVariants as item
use Rattle.frames.specs.Code.Frames.{frame_of}

-- ### Frames

peek_by : (w v : ℕ) (t : Bool) (a b n : ℕ) → cond t item.Lost (item.Frame (w / 256 % 256) v (w % 256)) ≡ item.Frame a b n → (a < 256) × (n < 256)
peek_by w v true a b n e = let z : ◌≡◌ {A = ℕ} 0 1 = cc in absurd (omega arith)
peek_by w v false a b n e =
    let f : w / 256 % 256 ≡ a = cc in
    let g : w % 256 ≡ n = cc in
    (omega arith, omega arith)

-- a frame's flags and its length are bytes
pub peek_bytes : (l : List ℕ) (a b n : ℕ) → peek_at l ≡ item.Frame a b n → (a < 256) × (n < 256)
unfolding peek_at
peek_bytes [] a b n e = let z : ◌≡◌ {A = ℕ} 0 1 = cc in absurd (omega arith)
peek_bytes (w ∷ ws) a b n e = peek_by w (get_or ws 0 0 % 16777216) (eqb w 0xd0000000) a b n e

frame_same : (a b n slot len size : ℕ) → slot ≡ a % 64 → len ≡ n → size ≡ words_for n
    → Some (record { ty = a / 64; slot = slot; field = b; len = len; size = 2 + size }) ≡ frame_of (item.Frame a b n)
unfolding frame_of
frame_same a b n slot len size q r s = rw (q, r, s)

-- the frame that is read: the low bytes of its parts are the parts
pub frame_read : (l : List ℕ) (a b n slot len size : ℕ) → peek_at l ≡ item.Frame a b n
    → slot ≡ a % 64 → len ≡ n % 256 → size ≡ words_for n
    → Some (record { ty = a / 64; slot = slot; field = b; len = len; size = 2 + size }) ≡ frame_of (peek_at l)
frame_read l a b n slot len size e q r s =
    let h = peek_bytes l a b n e in
    frame_same a b n slot len size (omega arith) (omega arith) s ∙ ap frame_of (sym e)

-- ### A payload's bytes

-- the first n bytes that are read
pub bytes_read : (l : List ℕ) (n : ℕ) (r : List ℕ) → n ≤ 255 → r ≡ payload_at l n → take n r ≡ bytes_at l n
bytes_read l n r h e = rw (e, least_left n 255 h) (take_at (bytes_at l n) (replicate (255 - n) 0) n (length_bytes l n))

pub read_length : (l : List ℕ) (n : ℕ) (r : List ℕ) → n ≤ 255 → r ≡ payload_at l n → length (take n r) ≡ n
read_length l n r h e = ap length (bytes_read l n r h e) ∙ length_bytes l n

-- where a frame stands they are its payload
pub bytes_payload : (l : List ℕ) (flags field n : ℕ) → item_at l ≡ item.Frame flags field n → n ≤ 255 → bytes_at l n ≡ payload (drop 2 l) n
bytes_payload l flags field n e h = sym (bytes_read l n (payload_at l n) h refl) ∙ payload_take l flags field n e
