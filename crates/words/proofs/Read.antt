-- Reading at a place of a burst: the item, a payload byte, the whole payload.
-- Assumes nothing.
use mathlib.Core.Path.{◌≡◌, refl, sym, ap, ◌∙◌, subst}
use mathlib.Core.Bool.{Bool, true, false, cond, ◌&&◌}
use mathlib.Core.List.{List, [], ◌∷◌, ◌++◌, append_assoc}
use Prim.Native.Nat.{ℕ, zero, suc, ◌+◌, ◌-◌, ◌*◌, ◌/◌, ◌%◌, ◌≤◌, ◌<◌}
use native.Mathlib.Nat.{add-zero}
use native.Mathlib.Numerals.{add-one}
use native.Mathlib.Omega.{arith}
use lib.Dec.{eqb, ltb}
use lib.ListN.{length, take, drop, get_or, set, replicate, length-drop, length-append, drop_of_length-le, get_or-eq_default}
use lib.Seq.{drop-drop, drop-cons, get_or-drop, get_or-take, take-suc, take_at, length-take-le}
use borrow.Author.Tests.{eq-eqb, ne_eqb, ltb-true, ltb-false}
use Rattle.words.specs.declared.Item.{Item}
use Rattle.words.specs.declared.Item.TheVariants.{End, Bad, Lost, Frame}
use Rattle.words.specs.Words.{
  words_for,
  byte_of,
  unpack,
  payload,
  payload_ok,
  frame_of,
  item_at,
  peek_at,
  size_of,
  byte_at,
  five_at,
  bytes_at,
  least,
  payload_at,
}
use Rattle.words.proofs.Laws.{item_room, frame_is}
use Rattle.words.proofs.Fill.{fill}

-- ### The item

module _ (w : ℕ) where
  peek_frame : (ws : List ℕ) → (frame_of w ws ≡ Bad → ⊥) → Frame (w / 256 % 256) (get_or ws 0 0 % 16777216) (w % 256) ≡ frame_of w ws
  unfolding frame_of
  peek_frame [] h = absurd (h refl)
  peek_frame (v ∷ ws) h = by (eqb (v / 16777216) 176 && payload_ok ws (w % 256)) h
    where
      by : (t : Bool) → (cond t (Frame (w / 256 % 256) (v % 16777216) (w % 256)) Bad ≡ Bad → ⊥)
          → Frame (w / 256 % 256) (v % 16777216) (w % 256) ≡ cond t (Frame (w / 256 % 256) (v % 16777216) (w % 256)) Bad
      by true g = refl
      by false g = absurd (g refl)

  peek_by : (ws : List ℕ) (s t : Bool) → (cond s Lost (cond t (frame_of w ws) Bad) ≡ Bad → ⊥)
      → cond s Lost (Frame (w / 256 % 256) (get_or ws 0 0 % 16777216) (w % 256)) ≡ cond s Lost (cond t (frame_of w ws) Bad)
  peek_by ws true t h = refl
  peek_by ws false true h = peek_frame ws h
  peek_by ws false false h = absurd (h refl)

-- where the item is no Bad, `peek` sees what `item_at` sees
pub peek_item : (l : List ℕ) → (item_at l ≡ Bad → ⊥) → peek_at l ≡ item_at l
unfolding item_at peek_at
peek_item [] h = refl
peek_item (w ∷ ws) h = peek_by w ws (eqb w 0xd0000000) (eqb (w / 65536) 0xa000) h

module _ (ws : List ℕ) (at : ℕ) where
  pub peek_end : length ws ≤ at → peek_at (drop at ws) ≡ End
  unfolding peek_at
  peek_end h = rw (drop_of_length-le ws h)

  peek_cons : at < length ws
      → peek_at (drop at ws)
      ≡ cond (eqb (get_or ws at 0) 0xd0000000) Lost (Frame (get_or ws at 0 / 256 % 256) (get_or (drop (at + 1) ws) 0 0 % 16777216) (get_or ws at 0 % 256))
  unfolding peek_at
  peek_cons h = rw (drop-cons ws at 0, add-one)

  pub peek_lost : at < length ws → get_or ws at 0 ≡ 0xd0000000 → peek_at (drop at ws) ≡ Lost
  peek_lost h e = peek_cons h ∙ simp (eq-eqb _ _ e)

  pub peek_other : at < length ws → (get_or ws at 0 ≡ 0xd0000000 → ⊥)
      → peek_at (drop at ws) ≡ Frame (get_or ws at 0 / 256 % 256) (get_or ws (at + 1) 0 % 16777216) (get_or ws at 0 % 256)
  peek_other h e = peek_cons h ∙ simp (ne_eqb _ _ e, get_or-drop, add-zero)

-- ### A payload byte

unpack_at : (ws : List ℕ) (q r : ℕ) → r < 3 → get_or (unpack ws) (q * 3 + r) 0 ≡ byte_of (get_or ws q 0) r
unfolding unpack
unpack_at [] q zero h = refl
unpack_at [] q (suc zero) h = refl
unpack_at [] q (suc (suc zero)) h = refl
unpack_at [] q (suc (suc (suc r))) h = absurd (omega arith)
unpack_at (w ∷ ws) zero zero h = refl
unpack_at (w ∷ ws) zero (suc zero) h = refl
unpack_at (w ∷ ws) zero (suc (suc zero)) h = refl
unpack_at (w ∷ ws) zero (suc (suc (suc r))) h = absurd (omega arith)
unpack_at (w ∷ ws) (suc q) r h =
    let e : suc q * 3 + r ≡ suc (suc (suc (q * 3 + r))) = omega arith in
    rw e (unpack_at ws q r h)

-- byte j of the payload of the frame at `at`
pub byte_at_lem : (ws : List ℕ) (at j : ℕ) → byte_of (get_or ws (at + 2 + j / 3) 0) (j % 3) ≡ byte_at (drop at ws) j
unfolding byte_at
byte_at_lem ws at j =
    let e : j ≡ j / 3 * 3 + j % 3 = omega arith in
    let d : drop 2 (drop at ws) ≡ drop (at + 2) ws = drop-drop 2 at ws in
    sym (rw d (ap (λ (k : ℕ). get_or (unpack (drop (at + 2) ws)) k 0) e ∙ unpack_at (drop (at + 2) ws) (j / 3) (j % 3) (omega arith)
    ∙ ap (λ (w : ℕ). byte_of w (j % 3)) (get_or-drop (at + 2) ws (j / 3) 0)))

byte_zero : (r : ℕ) → byte_of 0 r ≡ 0
byte_zero r = by (eqb r 0) (eqb r 1)
  where
    by : (s t : Bool) → cond s (0 / 65536 % 256) (cond t (0 / 256 % 256) (0 % 256)) ≡ 0
    by true t = refl
    by false true = refl
    by false false = refl

-- past the words' end it is 0
pub byte_none : (ws : List ℕ) (at j : ℕ) → length ws ≤ at + 2 + j / 3 → byte_at (drop at ws) j ≡ 0
byte_none ws at j h = sym (byte_at_lem ws at j) ∙ rw (get_or-eq_default ws 0 h) (byte_zero (j % 3))

pub five_none : (ws : List ℕ) (at j : ℕ) → length ws ≤ j / 3 → five_at (drop at ws) j ≡ 0 ∷ 0 ∷ 0 ∷ 0 ∷ 0 ∷ []
five_none ws at j h =
    rw (
      byte_none ws at j (omega arith),
      byte_none ws at (j + 1) (omega arith),
      byte_none ws at (j + 2) (omega arith),
      byte_none ws at (j + 3) (omega arith),
      byte_none ws at (j + 4) (omega arith),
    )

pub five_done : (l : List ℕ) (j : ℕ) {a b c d e : ℕ} → a ≡ byte_at l j → b ≡ byte_at l (j + 1) → c ≡ byte_at l (j + 2) → d ≡ byte_at l (j + 3) → e ≡ byte_at l (j + 4)
    → a ∷ b ∷ c ∷ d ∷ e ∷ [] ≡ five_at l j
five_done l j p q r s t = cc

-- inside a frame of len bytes it is byte j of the parsed payload
pub byte_in : (l : List ℕ) (len j : ℕ) → j < len → byte_at l j ≡ get_or (payload (drop 2 l) len) j 0
unfolding byte_at payload
byte_in l len j h = sym (get_or-take len (unpack (drop 2 l)) j 0 h)

-- ### A whole payload

pub least_most : (a b : ℕ) → least a b ≤ b
least_most a b = by (ltb a b) refl
  where
    by : (t : Bool) → ltb a b ≡ t → cond t a b ≤ b
    by true e = omega (arith, ltb-true a b e)
    by false e = omega arith

pub least_first : (a b : ℕ) → least a b ≤ a
least_first a b = by (ltb a b) refl
  where
    by : (t : Bool) → ltb a b ≡ t → cond t a b ≤ a
    by true e = omega arith
    by false e = omega (arith, ltb-false a b e)

pub least_left : (a b : ℕ) → a ≤ b → least a b ≡ a
least_left a b h = by (ltb a b) refl
  where
    by : (t : Bool) → ltb a b ≡ t → cond t a b ≡ a
    by true e = refl
    by false e = omega (arith, ltb-false a b e)

pub length_bytes : (l : List ℕ) (n : ℕ) → length (bytes_at l n) ≡ n
unfolding bytes_at
length_bytes l zero = refl
length_bytes l (suc n) = length-append (bytes_at l n) (byte_at l n ∷ []) ∙ omega (arith, length_bytes l n)

-- one byte more
pub payload_more : (l : List ℕ) (j v : ℕ) → j < 255 → v ≡ byte_at l j
    → set (bytes_at l j ++ replicate (255 - j) 0) j v ≡ bytes_at l (j + 1) ++ replicate (255 - (j + 1)) 0
unfolding bytes_at
payload_more l j v h e = fill (bytes_at l j) 255 j v h (length_bytes l j) ∙ rw (e, add-one j)

-- the three bytes of a full word more
pub payload_three : (l : List ℕ) (j u v w : ℕ) → j + 2 < 255 → u ≡ byte_at l j → v ≡ byte_at l (j + 1) → w ≡ byte_at l (j + 2)
    → set (set (set (bytes_at l j ++ replicate (255 - j) 0) j u) (j + 1) v) (j + 2) w ≡ bytes_at l (j + 3) ++ replicate (255 - (j + 3)) 0
payload_three l j u v w h p q r =
    let two : j + 1 + 1 ≡ j + 2 = omega arith in
    let three : j + 2 + 1 ≡ j + 3 = omega arith in
    ap (λ (o : List ℕ). set (set o (j + 1) v) (j + 2) w) (payload_more l j u (omega arith) p)
    ∙ ap (λ (o : List ℕ). set o (j + 2) w) (payload_more l (j + 1) v (omega arith) q ∙ ap (λ (n : ℕ). bytes_at l n ++ replicate (255 - n) 0) two)
    ∙ payload_more l (j + 2) w h r
    ∙ ap (λ (n : ℕ). bytes_at l n ++ replicate (255 - n) 0) three

-- byte r of word k of the payload of the frame at `at`
pub word_byte : (ws : List ℕ) (at k r : ℕ) → r < 3 → byte_of (get_or ws (at + 2 + k) 0) r ≡ byte_at (drop at ws) (3 * k + r)
word_byte ws at k r h =
    let q : (3 * k + r) / 3 ≡ k = omega arith in
    let m : (3 * k + r) % 3 ≡ r = omega arith in
    rw (q, m) at (byte_at_lem ws at (3 * k + r))

bytes_none : (l : List ℕ) (n r : ℕ) → ((j : ℕ) → byte_at l j ≡ 0) → bytes_at l n ++ replicate r 0 ≡ replicate (n + r) 0
unfolding bytes_at
bytes_none l zero r h =
    let e : r ≡ 0 + r = omega arith in
    ap (λ (k : ℕ). replicate k 0) e
bytes_none l (suc n) r h =
    let e : n + suc r ≡ suc n + r = omega arith in
    append_assoc (bytes_at l n) (byte_at l n ∷ []) (replicate r 0)
    ∙ ap (λ (b : ℕ). bytes_at l n ++ (b ∷ replicate r 0)) (h n)
    ∙ bytes_none l n (suc r) h
    ∙ ap (λ (k : ℕ). replicate k 0) e

-- past the words' end all are 0
pub payload_none : (ws : List ℕ) (at n : ℕ) → length ws ≤ at → replicate 255 0 ≡ payload_at (drop at ws) n
payload_none ws at n h =
    let m : least n 255 + (255 - least n 255) ≡ 255 = omega (arith, least_most n 255) in
    sym (bytes_none (drop at ws) (least n 255) (255 - least n 255) (λ j. byte_none ws at j (omega arith)) ∙ ap (λ (k : ℕ). replicate k 0) m)

pub length_unpack : (ws : List ℕ) → length (unpack ws) ≡ 3 * length ws
unfolding unpack
length_unpack [] = refl
length_unpack (w ∷ ws) = omega (arith, length_unpack ws)

bytes_take : (l : List ℕ) (n : ℕ) → n ≤ length (unpack (drop 2 l)) → bytes_at l n ≡ take n (unpack (drop 2 l))
unfolding bytes_at byte_at
bytes_take l zero h = refl
bytes_take l (suc n) h = rw (bytes_take l n (omega arith), take-suc (unpack (drop 2 l)) n 0 (omega arith))

take_five : (p : List ℕ) (j : ℕ) → j + 4 < length p
    → take 5 (drop j p) ≡ get_or p j 0 ∷ get_or p (j + 1) 0 ∷ get_or p (j + 2) 0 ∷ get_or p (j + 3) 0 ∷ get_or p (j + 4) 0 ∷ []
take_five (a ∷ b ∷ c ∷ d ∷ e ∷ p) zero h = refl
take_five (a ∷ p) (suc j) h =
    let one : suc j + 1 ≡ suc (j + 1) = omega arith in
    let two : suc j + 2 ≡ suc (j + 2) = omega arith in
    let three : suc j + 3 ≡ suc (j + 3) = omega arith in
    let four : suc j + 4 ≡ suc (j + 4) = omega arith in
    rw (one, two, three, four) (take_five p j (omega arith))
take_five [] j h = absurd (omega arith)
take_five (a ∷ []) zero h = absurd (omega arith)
take_five (a ∷ b ∷ []) zero h = absurd (omega arith)
take_five (a ∷ b ∷ c ∷ []) zero h = absurd (omega arith)
take_five (a ∷ b ∷ c ∷ d ∷ []) zero h = absurd (omega arith)

module _ (l : List ℕ) (flags field len : ℕ) (e : item_at l ≡ Frame flags field len) where
  payload_fits : len ≤ length (unpack (drop 2 l))
  payload_fits =
      let r : 2 + words_for len ≤ length l = subst (λ (i : Item). size_of i ≤ length l) e (item_room l) in
      omega (arith, length_unpack (drop 2 l), length-drop 2 l)

  -- the parsed payload has as many bytes as the frame says
  pub payload_length : length (payload (drop 2 l) len) ≡ len
  unfolding payload
  payload_length = length-take-le len (unpack (drop 2 l)) payload_fits

  -- the payload that `payload` reads is the parsed one, with zeros behind it
  pub payload_whole : payload_at l len ≡ payload (drop 2 l) len ++ replicate (255 - len) 0
  unfolding payload
  payload_whole =
      let n : len ≤ 255 = omega (arith, (frame_is l flags field len e).len) in
      rw (least_left len 255 n, bytes_take l len payload_fits)

  pub payload_take : take len (payload_at l len) ≡ payload (drop 2 l) len
  payload_take = rw payload_whole (take_at (payload (drop 2 l) len) (replicate (255 - len) 0) len payload_length)

  -- and the five bytes that `five` reads are those of the parsed one
  pub five_in : (j : ℕ) → j + 4 < len → five_at l j ≡ take 5 (drop j (payload (drop 2 l) len))
  five_in j h =
      let p = payload (drop 2 l) len in
      rw (byte_in l len j (omega arith), byte_in l len (j + 1) (omega arith), byte_in l len (j + 2) (omega arith), byte_in l len (j + 3) (omega arith), byte_in l len (j + 4) h)
      (sym (take_five p j (omega (arith, payload_length))))
