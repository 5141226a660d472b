-- Word back to a boat: small frames that the statement must refuse, and one that it takes. By computation; assumes nothing.
use mathlib.Core.Path.{◌≡◌, refl, sym, ap, ◌∙◌, subst}
use mathlib.Core.Bool.{true, false}
use mathlib.Core.List.{List, [], ◌∷◌}
use Prim.Native.Nat.{ℕ, ◌+◌, ◌*◌, ◌%◌, ◌≤◌}
use native.Mathlib.Omega.{arith}
use lib.ListN.{length, take, drop, get_or}
use Rattle.words.specs.Words.{word_ok, payload_ok, unpack, payload, frame_of, item_at}
use Rattle.words.specs.declared.Item.{Item}
use Rattle.words.specs.declared.Item.TheVariants.{End, Bad, Lost, Frame}
use Rattle.out.specs.Encode.{pack, frame_words}
use Rattle.inbox.specs.Messages.{framed}
use Rattle.laws.specs.Directed.{also_posted, emptied_at, begins_down, Carries, DownFrames}

-- ---- frames

-- to the boat in slot 1 the message 7 was posted, to the one in slot 2 the message 9
abbrev posted : ℕ → List ℕ
posted = also_posted 2 (framed (9 ∷ [])) (also_posted 1 (framed (7 ∷ [])) (λ i. []))

abbrev nothing : ℕ → ℕ
nothing i = 0

abbrev flags_in : Item → ℕ
flags_in End = 0
flags_in Bad = 0
flags_in Lost = 0
flags_in (Frame flags field len) = flags

abbrev field_in : Item → ℕ
field_in End = 0
field_in Bad = 0
field_in Lost = 0
field_in (Frame flags field len) = field

abbrev len_in : Item → ℕ
len_in End = 0
len_in Bad = 0
len_in Lost = 0
len_in (Frame flags field len) = len

-- what it says of a frame that is known
record Says (posted : ℕ → List ℕ) (told : ℕ → ℕ) (ws : List ℕ) (slot field len : ℕ) : Type 0 where
  within : field + len ≤ length (posted slot)
  exact : payload (drop 2 ws) len ≡ take len (drop field (posted slot))
  new : told slot ≤ field

said : (posted : ℕ → List ℕ) (told : ℕ → ℕ) (ws : List ℕ) (flags field len : ℕ) → item_at ws ≡ Frame flags field len → Carries posted told ws → Says posted told ws (flags % 64) field len
said posted told ws flags field len e c =
    let z : Frame c.flags c.field c.len ≡ Frame flags field len = sym c.frame ∙ e in
    subst (λ (i : Item). Says posted told ws (flags_in i % 64) (field_in i) (len_in i)) z (record { within = c.within; exact = c.exact; new = c.new })

-- the first word of the frame, and its words
first : (posted : ℕ → List ℕ) (told : ℕ → ℕ) (w : ℕ) (ws : List ℕ) → begins_down w ≡ true → DownFrames posted told (w ∷ ws) → Carries posted told (w ∷ ws)
unfolding DownFrames
first posted told w ws e d = d.0 e

abbrev to_one_lem : ℕ → List ℕ → List ℕ
to_one_lem field p = frame_words 65 field p

module _ (told : ℕ → ℕ) (bytes : ℕ → List ℕ) (field : ℕ) (p : List ℕ) (e : item_at (to_one_lem field p) ≡ Frame 65 field (length p)) (b : begins_down (0xa0000000 + 65 * 256 + length p) ≡ true) where
  says : DownFrames bytes told (to_one_lem field p) → Says bytes told (to_one_lem field p) 1 field (length p)
  says d = said bytes told (to_one_lem field p) 65 field (length p) e (first bytes told (0xa0000000 + 65 * 256 + length p) ((0xb0000000 + field) ∷ pack p) b d)

-- bytes from 1 on under the offset 0
one_off : DownFrames posted nothing (to_one_lem 0 (0 ∷ 7 ∷ [])) → ⊥
unfolding item_at frame_of payload_ok word_ok payload unpack pack
one_off d =
    let s = says nothing posted 0 (0 ∷ 7 ∷ []) refl refl d in
    let z : ◌≡◌ {A = ℕ} 0 1 = ap (λ (l : List ℕ). get_or l 0 9) s.exact in
    omega arith

-- the bytes of the boat in slot 2
others_bytes : DownFrames posted nothing (to_one_lem 0 (framed (9 ∷ []))) → ⊥
unfolding item_at frame_of payload_ok word_ok payload unpack pack
others_bytes d =
    let s = says nothing posted 0 (framed (9 ∷ [])) refl refl d in
    let z : ◌≡◌ {A = ℕ} 9 7 = ap (λ (l : List ℕ). get_or l 2 0) s.exact in
    omega arith

-- past the last byte
past_the_end : DownFrames posted nothing (to_one_lem 2 (7 ∷ 0 ∷ [])) → ⊥
unfolding item_at frame_of payload_ok word_ok payload unpack pack
past_the_end d = let s = says nothing posted 2 (7 ∷ 0 ∷ []) refl refl d in let z : 4 ≤ 3 = s.within in omega arith

-- the first byte was reported
told_before : DownFrames posted (λ i. 1) (to_one_lem 0 (framed (7 ∷ []))) → ⊥
unfolding item_at frame_of payload_ok word_ok payload unpack pack
told_before d = let s = says (λ i. 1) posted 0 (framed (7 ∷ [])) refl refl d in let z : 1 ≤ 0 = s.new in omega arith

-- the boat signed off: its bytes go to no next holder of the slot
former_boat : DownFrames (emptied_at [] 1 posted) nothing (to_one_lem 0 (framed (7 ∷ []))) → ⊥
unfolding item_at frame_of payload_ok word_ok payload unpack pack
former_boat d = let s = says nothing (emptied_at [] 1 posted) 0 (framed (7 ∷ [])) refl refl d in let z : 3 ≤ 0 = s.within in omega arith

-- words that begin a frame and are none
cut_short : DownFrames posted nothing (0xa0004103 ∷ 0xb0000000 ∷ []) → ⊥
unfolding item_at frame_of payload_ok word_ok payload unpack pack
cut_short d =
    let c = first posted nothing 0xa0004103 (0xb0000000 ∷ []) refl d in
    bad_not c.flags c.field c.len c.frame
  where
    is_frame : Item → ℕ
    is_frame End = 0
    is_frame Bad = 0
    is_frame Lost = 0
    is_frame (Frame flags field len) = 1

    bad_not : (a b c : ℕ) → Bad ≡ Frame a b c → ⊥
    bad_not a b c e = let z : ◌≡◌ {A = ℕ} 0 1 = ap is_frame e in omega arith

-- the right frame
right : DownFrames posted nothing (to_one_lem 0 (framed (7 ∷ [])))
unfolding DownFrames item_at frame_of payload_ok word_ok payload unpack pack
right = (
  (λ _. record { flags = 65; field = 0; len = 3; frame = refl; slot = omega arith; within = omega arith; exact = refl; new = omega arith }),
  ((λ e. absurd (no_word e)), ((λ e. absurd (no_word e)), tt)),
)
  where
    no_word : false ≡ true → ⊥
    no_word e = let z : ◌≡◌ {A = ℕ} 0 1 = cc in omega arith

-- all of them
pub record Judged : Type 0 where
  pub one_byte_off : DownFrames posted nothing (to_one_lem 0 (0 ∷ 7 ∷ [])) → ⊥
  pub another_boats : DownFrames posted nothing (to_one_lem 0 (framed (9 ∷ []))) → ⊥
  pub past : DownFrames posted nothing (to_one_lem 2 (7 ∷ 0 ∷ [])) → ⊥
  pub reported : DownFrames posted (λ i. 1) (to_one_lem 0 (framed (7 ∷ []))) → ⊥
  pub former : DownFrames (emptied_at [] 1 posted) nothing (to_one_lem 0 (framed (7 ∷ []))) → ⊥
  pub malformed : DownFrames posted nothing (0xa0004103 ∷ 0xb0000000 ∷ []) → ⊥
  pub taken : DownFrames posted nothing (to_one_lem 0 (framed (7 ∷ [])))

pub judged : Judged
judged =
    record { one_byte_off = one_off; another_boats = others_bytes; past = past_the_end; reported = told_before; former = former_boat; malformed = cut_short; taken = right }
