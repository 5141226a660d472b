-- How the definitions of `specs/Words` go on at an index: each says what the definition at `drop at ws` is, from the word at `at` and the definition at `drop (at + 1) ws`.
-- Assumes nothing.
use Rattle.std.specs.Prelude.{Option, Some, None}
use mathlib.Core.Path.{◌≡◌, refl, sym, ap, ◌∙◌}
use mathlib.Core.Bool.{Bool, true, false, cond, ◌&&◌, ◌||◌}
use mathlib.Core.List.{List, [], ◌∷◌}
use Prim.Native.Nat.{ℕ, zero, suc, ◌+◌, ◌-◌, ◌/◌, ◌%◌, ◌≤◌, ◌<◌}
use native.Mathlib.Nat.{add-zero, zero-add}
use native.Mathlib.Numerals.{add-one}
use native.Mathlib.Omega.{arith}
use lib.Dec.{eqb}
use lib.ListN.{length, take, drop, get_or, drop_of_length-le, length-drop}
use lib.Seq.{drop-cons, drop-drop, take_all}
use borrow.Author.Tests.{eq-eqb, ne_eqb, eqb-true}
use Rattle.words.specs.declared.Item.{Item}
use Rattle.words.specs.declared.Item.TheVariants.{End, Bad, Lost, Frame}
use Rattle.words.specs.Words.{word_ok, payload_ok, words_for, frame_of, item_at, size_of, Heard, Parsed, malformed, parsed, then_frames, before, no_more, frames_of, head_ok, burst_of, parse, shape_of, last_shape}

module _ (ws : List ℕ) (at : ℕ) where
  -- one word more
  pub payload_step : (n : ℕ) → at < length ws → 0 < n
      → payload_ok (drop at ws) n ≡ (word_ok (get_or ws at 0) n && payload_ok (drop (at + 1) ws) (n - 3))
  unfolding payload_ok
  payload_step n h p = rw (drop-cons ws at 0, ne_eqb n 0 (omega arith), add-one)

  pub payload_bad : (n : ℕ) → at < length ws → 0 < n → word_ok (get_or ws at 0) n ≡ false → payload_ok (drop at ws) n ≡ false
  payload_bad n h p w = payload_step n h p ∙ rw w

  pub payload_more : (n m : ℕ) → at < length ws → 0 < n → m ≡ n - 3 → word_ok (get_or ws at 0) n ≡ true
      → payload_ok (drop at ws) n ≡ payload_ok (drop (at + 1) ws) m
  payload_more n m h p e w = payload_step n h p ∙ rw (w, e)

-- where no words are left
pub payload_rest : (ws : List ℕ) (at n : ℕ) → length ws ≤ at → payload_ok (drop at ws) n ≡ eqb n 0
unfolding payload_ok
payload_rest ws at n h = rw (drop_of_length-le ws h)

-- a part of the words, to their end
pub from_all : (ws : List ℕ) (at : ℕ) → take (length ws - at) (drop at ws) ≡ drop at ws
from_all ws at = take_all (length ws - at) (drop at ws) (rw length-drop (omega arith))

pub payload_none : (l : List ℕ) → payload_ok l 0 ≡ true
unfolding payload_ok
payload_none [] = refl
payload_none (w ∷ ws) = refl

pub payload_done : (l : List ℕ) (n : ℕ) → n ≡ 0 → payload_ok l n ≡ true
payload_done l n e = rw e (payload_none l)

-- the words behind the first
abbrev pub behind : List ℕ → List ℕ
behind ws = take (length ws - 1) (drop 1 ws)

pub behind_two : (ws : List ℕ) → behind (behind ws) ≡ drop 2 ws
behind_two ws = from_all (behind ws) 1 ∙ ap (drop 1) (from_all ws 1) ∙ drop-drop 1 1 ws

pub behind_length : (ws : List ℕ) → length (behind ws) ≡ length ws - 1
behind_length ws = ap length (from_all ws 1) ∙ length-drop 1 ws

pub behind_first : (ws : List ℕ) → get_or (behind ws) 0 0 ≡ get_or ws 1 0
behind_first [] = refl
behind_first (w ∷ ws) = ap (λ (l : List ℕ). get_or l 0 0) (from_all (w ∷ ws) 1)

module _ (ws : List ℕ) (at : ℕ) where
  pub item_end : length ws ≤ at → item_at (drop at ws) ≡ End
  unfolding item_at
  item_end h = rw (drop_of_length-le ws h)

  pub item_cons : at < length ws
      → item_at (drop at ws)
      ≡ cond (eqb (get_or ws at 0) 0xd0000000) Lost (cond (eqb (get_or ws at 0 / 65536) 0xa000) (frame_of (get_or ws at 0) (drop (at + 1) ws)) Bad)
  unfolding item_at
  item_cons h = rw (drop-cons ws at 0, add-one)

  pub frame_end : (w : ℕ) → length ws ≤ at → frame_of w (drop at ws) ≡ Bad
  unfolding frame_of
  frame_end w h = rw (drop_of_length-le ws h)

  pub frame_cons : (w : ℕ) → at < length ws
      → frame_of w (drop at ws)
      ≡ cond (eqb (get_or ws at 0 / 16777216) 176 && payload_ok (drop (at + 1) ws) (w % 256))
      (Frame (w / 256 % 256) (get_or ws at 0 % 16777216) (w % 256)) Bad
  unfolding frame_of
  frame_cons w h = rw (drop-cons ws at 0, add-one)

  pub item_lost : at < length ws → get_or ws at 0 ≡ 0xd0000000 → item_at (drop at ws) ≡ Lost
  item_lost h e = item_cons h ∙ simp (eq-eqb _ _ e)

  pub item_other : at < length ws → (get_or ws at 0 ≡ 0xd0000000 → ⊥) → (get_or ws at 0 / 65536 ≡ 0xa000 → ⊥) → item_at (drop at ws) ≡ Bad
  item_other h e f = item_cons h ∙ simp (ne_eqb _ _ e, ne_eqb _ _ f)

  pub item_frame : at < length ws → (get_or ws at 0 ≡ 0xd0000000 → ⊥) → get_or ws at 0 / 65536 ≡ 0xa000
      → item_at (drop at ws) ≡ frame_of (get_or ws at 0) (drop (at + 1) ws)
  item_frame h e f = item_cons h ∙ simp (ne_eqb _ _ e, eq-eqb _ _ f)

  pub frame_other : (w : ℕ) → at < length ws → (get_or ws at 0 / 16777216 ≡ 176 → ⊥) → frame_of w (drop at ws) ≡ Bad
  frame_other w h e = frame_cons w h ∙ simp (ne_eqb _ _ e)

  pub frame_by : (w : ℕ) (r : Bool) → at < length ws → get_or ws at 0 / 16777216 ≡ 176 → r ≡ payload_ok (drop (at + 1) ws) (w % 256)
      → frame_of w (drop at ws) ≡ cond r (Frame (w / 256 % 256) (get_or ws at 0 % 16777216) (w % 256)) Bad
  frame_by w r h e p = frame_cons w h ∙ simp (eq-eqb _ _ e, ← p)

-- ### A whole burst

-- the shape of a burst with n frames before those
abbrev pub shape_from : ℕ → Parsed (List Heard) → Option ℕ
shape_from n malformed = None
shape_from n (parsed fs) = Some (n + length fs)

turn_end : (i : Item) (ws : List ℕ) (rest : Parsed (List Heard)) (n : ℕ) → size_of i ≡ 0 → shape_from n (then_frames i ws rest) ≡ last_shape i n
turn_end End ws rest n z = rw (add-zero n)
turn_end Bad ws rest n z = refl
turn_end Lost ws rest n z = absurd (omega arith)
turn_end (Frame a b k) ws rest n z = absurd (omega arith)

one_more : (f : Heard) (rest : Parsed (List Heard)) (n : ℕ) → shape_from n (before f rest) ≡ shape_from (n + 1) rest
one_more f malformed n = refl
one_more f (parsed fs) n = ap Some (omega arith)

turn_more : (i : Item) (ws : List ℕ) (rest : Parsed (List Heard)) (n : ℕ) → (size_of i ≡ 0 → ⊥) → shape_from n (then_frames i ws rest) ≡ shape_from (n + 1) rest
turn_more End ws rest n z = absurd (z refl)
turn_more Bad ws rest n z = absurd (z refl)
turn_more Lost ws rest n z = one_more _ rest n
turn_more (Frame a b k) ws rest n z = one_more _ rest n

no_more_lem : (i : Item) (n : ℕ) → shape_from n (no_more i) ≡ last_shape i n
no_more_lem End n = rw (add-zero n)
no_more_lem Bad n = refl
no_more_lem Lost n = refl
no_more_lem (Frame a b k) n = refl

-- one turn: frames_of at k frames more, by the item at the head
frames_of_suc : (k : ℕ) (l : List ℕ) → frames_of (suc k) l ≡ then_frames (item_at l) l (frames_of k (drop (size_of (item_at l)) l))
unfolding frames_of
frames_of_suc k l = refl

module _ (ws : List ℕ) (at n : ℕ) (i : Item) (size : ℕ) (here : i ≡ item_at (drop at ws)) (sized : size ≡ size_of i) where
  opens : n < 64
      → shape_from n (frames_of (64 - n) (drop at ws))
      ≡ shape_from n (then_frames i (drop at ws) (frames_of (64 - (n + 1)) (drop (at + size) ws)))
  opens h =
      let e : 64 - n ≡ suc (64 - (n + 1)) = omega arith in
      rw (e, frames_of_suc, ← here, ← sized, drop-drop)

  pub shape_end : n < 64 → size ≡ 0 → shape_from n (frames_of (64 - n) (drop at ws)) ≡ last_shape i n
  shape_end h z = opens h ∙ turn_end i _ _ n (sym sized ∙ z)

  pub shape_more : n < 64 → (size ≡ 0 → ⊥)
      → shape_from n (frames_of (64 - n) (drop at ws)) ≡ shape_from (n + 1) (frames_of (64 - (n + 1)) (drop (at + size) ws))
  shape_more h z = opens h ∙ turn_more i _ _ n (λ e. z (sized ∙ e))

pub shape_full : (ws : List ℕ) (at n : ℕ) (i : Item) → i ≡ item_at (drop at ws) → 64 ≤ n → shape_from n (frames_of (64 - n) (drop at ws)) ≡ last_shape i n
unfolding frames_of
shape_full ws at n i here h =
    let e : 64 - n ≡ zero = omega arith in
    rw (e, ← here) (no_more_lem i n)

-- ### An item lies within the words

and_right : (a b : Bool) → a && b ≡ true → b ≡ true
and_right true b e = e
and_right false b e = let z : ◌≡◌ {A = ℕ} 0 1 = cc in absurd (omega arith)

module _ (w n : ℕ) (ws : List ℕ) (ih : payload_ok ws (n - 3) ≡ true → words_for (n - 3) ≤ length ws) where
  room_step : (b : Bool) → eqb n 0 ≡ b → (b || (word_ok w n && payload_ok ws (n - 3))) ≡ true → words_for n ≤ suc (length ws)
  room_step true e h = let z : n ≡ 0 = eqb-true n 0 e in omega arith
  room_step false e h = let r = ih (and_right (word_ok w n) (payload_ok ws (n - 3)) h) in omega arith

payload_room : (ws : List ℕ) (n : ℕ) → payload_ok ws n ≡ true → words_for n ≤ length ws
unfolding payload_ok
payload_room [] n e = let z : n ≡ 0 = eqb-true n 0 e in omega arith
payload_room (w ∷ ws) n e = room_step w n ws (payload_room ws (n - 3)) (eqb n 0) refl e

frame_fits : (v w : ℕ) (ws : List ℕ) (a b : Bool) → payload_ok ws (w % 256) ≡ b
    → size_of (cond (a && b) (Frame (w / 256 % 256) (v % 16777216) (w % 256)) Bad) ≤ suc (suc (length ws))
frame_fits v w ws true true e = let r = payload_room ws (w % 256) e in omega arith
frame_fits v w ws true false e = omega arith
frame_fits v w ws false b e = omega arith

frame_room : (w : ℕ) (ws : List ℕ) → size_of (frame_of w ws) ≤ suc (length ws)
unfolding frame_of
frame_room w [] = omega arith
frame_room w (v ∷ ws) = frame_fits v w ws (eqb (v / 16777216) 176) (payload_ok ws (w % 256)) refl

item_fits : (w : ℕ) (ws : List ℕ) (a b : Bool) → size_of (cond a Lost (cond b (frame_of w ws) Bad)) ≤ suc (length ws)
item_fits w ws true b = omega arith
item_fits w ws false true = frame_room w ws
item_fits w ws false false = omega arith

pub item_room : (l : List ℕ) → size_of (item_at l) ≤ length l
unfolding item_at
item_room [] = omega arith
item_room (w ∷ ws) = item_fits w ws (eqb w 0xd0000000) (eqb (w / 65536) 0xa000)

pub item_within : (ws : List ℕ) (at : ℕ) (i : Item) (size : ℕ) → at ≤ length ws → i ≡ item_at (drop at ws) → size ≡ size_of i → at + size ≤ length ws
item_within ws at i size h here sized =
    let r : size_of i ≤ length (drop at ws) = rw here (item_room (drop at ws)) in
    omega (arith, length-drop at ws)

-- ### The start of a burst

pub parse_none : (ws : List ℕ) → length ws ≡ 0 → parse ws ≡ malformed
unfolding parse
parse_none [] h = refl
parse_none (w ∷ ws) h = absurd (omega arith)

pub parse_head_bad : (ws : List ℕ) → 0 < length ws → head_ok (get_or ws 0 0) ≡ false → parse ws ≡ malformed
unfolding parse
parse_head_bad [] h e = refl
parse_head_bad (w ∷ ws) h e = rw e

burst_shape : (w : ℕ) (p : Parsed (List Heard)) → shape_of (burst_of w p) ≡ shape_from 0 p
burst_shape w malformed = refl
burst_shape w (parsed fs) = ap Some (sym (zero-add (length fs)))

pub parse_head : (ws : List ℕ) → 0 < length ws → head_ok (get_or ws 0 0) ≡ true → shape_of (parse ws) ≡ shape_from 0 (frames_of 64 (drop 1 ws))
unfolding parse
parse_head [] h e = absurd (omega arith)
parse_head (w ∷ ws) h e = rw e (burst_shape w (frames_of 64 ws))

-- ### What an item tells of its words

-- the words of a frame: w is word 10, v word 11, and the payload's words begin `rest`
pub record IsFrame (l : List ℕ) (a b n : ℕ) : Type 0 where
  pub w : ℕ
  pub v : ℕ
  pub rest : List ℕ
  pub words : l ≡ w ∷ v ∷ rest
  pub kind : w / 65536 ≡ 0xa000
  pub next : v / 16777216 ≡ 176
  pub flags : a ≡ w / 256 % 256
  pub field : b ≡ v % 16777216
  pub len : n ≡ w % 256
  pub payload : payload_ok rest n ≡ true

bad_frame : {a b n : ℕ} → Bad ≡ Frame a b n → ⊥
bad_frame e = let z : ◌≡◌ {A = ℕ} 0 1 = cc in omega arith

end_frame : {a b n : ℕ} → End ≡ Frame a b n → ⊥
end_frame e = let z : ◌≡◌ {A = ℕ} 0 1 = cc in omega arith

lost_frame_lem : {a b n : ℕ} → Lost ≡ Frame a b n → ⊥
lost_frame_lem e = let z : ◌≡◌ {A = ℕ} 0 1 = cc in omega arith

module _ (w v : ℕ) (ws : List ℕ) (a b n : ℕ) (k : w / 65536 ≡ 0xa000) where
  frame_is_by : (s t : Bool) → eqb (v / 16777216) 176 ≡ s → payload_ok ws (w % 256) ≡ t
      → cond (s && t) (Frame (w / 256 % 256) (v % 16777216) (w % 256)) Bad ≡ Frame a b n → IsFrame (w ∷ v ∷ ws) a b n
  frame_is_by true true p q e =
      let z : n ≡ w % 256 = cc in
      record {
        w = w;
        v = v;
        rest = ws;
        words = refl;
        kind = k;
        next = eqb-true _ _ p;
        flags = cc;
        field = cc;
        len = z;
        payload = rw z q;
      }
  frame_is_by true false p q e = absurd (bad_frame e)
  frame_is_by false t p q e = absurd (bad_frame e)

frame_is_rest : (w : ℕ) (ws : List ℕ) (a b n : ℕ) → w / 65536 ≡ 0xa000 → frame_of w ws ≡ Frame a b n → IsFrame (w ∷ ws) a b n
unfolding frame_of
frame_is_rest w [] a b n k e = absurd (bad_frame e)
frame_is_rest w (v ∷ ws) a b n k e = frame_is_by w v ws a b n k (eqb (v / 16777216) 176) (payload_ok ws (w % 256)) refl refl e

item_is_by : (w : ℕ) (ws : List ℕ) (a b n : ℕ) (s t : Bool) → eqb (w / 65536) 0xa000 ≡ t
    → cond s Lost (cond t (frame_of w ws) Bad) ≡ Frame a b n → IsFrame (w ∷ ws) a b n
item_is_by w ws a b n true t p e = absurd (lost_frame_lem e)
item_is_by w ws a b n false true p e = frame_is_rest w ws a b n (eqb-true _ _ p) e
item_is_by w ws a b n false false p e = absurd (bad_frame e)

pub frame_is : (l : List ℕ) (a b n : ℕ) → item_at l ≡ Frame a b n → IsFrame l a b n
unfolding item_at
frame_is [] a b n e = absurd (end_frame e)
frame_is (w ∷ ws) a b n e = item_is_by w ws a b n (eqb w 0xd0000000) (eqb (w / 65536) 0xa000) refl e

-- a frame's item is Bad or a Frame
frame_cases : (P : Item → Type 0) → P Bad → ((a b n : ℕ) → P (Frame a b n)) → (w : ℕ) (ws : List ℕ) → P (frame_of w ws)
unfolding frame_of
frame_cases P bad frame w [] = bad
frame_cases P bad frame w (v ∷ ws) = by (eqb (v / 16777216) 176 && payload_ok ws (w % 256))
  where
    by : (t : Bool) → P (cond t (Frame (w / 256 % 256) (v % 16777216) (w % 256)) Bad)
    by true = frame _ _ _
    by false = bad

lost_by : (w : ℕ) (ws : List ℕ) (s t : Bool) → eqb w 0xd0000000 ≡ s → cond s Lost (cond t (frame_of w ws) Bad) ≡ Lost → w ∷ ws ≡ 0xd0000000 ∷ ws
lost_by w ws true t p e = ap (λ (x : ℕ). x ∷ ws) (eqb-true w 0xd0000000 p)
lost_by w ws false true p e =
    absurd (frame_cases (λ i. i ≡ Lost → ⊥) (λ q. let z : ◌≡◌ {A = ℕ} 0 1 = cc in omega arith) (λ a b n q. let z : ◌≡◌ {A = ℕ} 0 1 = cc in omega arith) w ws e)
lost_by w ws false false p e = let z : ◌≡◌ {A = ℕ} 0 1 = cc in absurd (omega arith)

-- a lost frame is word 13
pub lost_is : (l : List ℕ) → item_at l ≡ Lost → l ≡ 0xd0000000 ∷ drop 1 l
unfolding item_at
lost_is [] e = let z : ◌≡◌ {A = ℕ} 0 1 = cc in absurd (omega arith)
lost_is (w ∷ ws) e = lost_by w ws (eqb w 0xd0000000) (eqb (w / 65536) 0xa000) refl e

end_by : (w : ℕ) (ws : List ℕ) (s t : Bool) → cond s Lost (cond t (frame_of w ws) Bad) ≡ End → ⊥
end_by w ws true t e = let z : ◌≡◌ {A = ℕ} 0 1 = cc in omega arith
end_by w ws false true e =
    frame_cases (λ i. i ≡ End → ⊥) (λ q. let z : ◌≡◌ {A = ℕ} 0 1 = cc in omega arith) (λ a b n q. let z : ◌≡◌ {A = ℕ} 0 1 = cc in omega arith) w ws e
end_by w ws false false e = let z : ◌≡◌ {A = ℕ} 0 1 = cc in omega arith

-- at the end there is no word
pub end_is : (l : List ℕ) → item_at l ≡ End → l ≡ []
unfolding item_at
end_is [] e = refl
end_is (w ∷ ws) e = absurd (end_by w ws (eqb w 0xd0000000) (eqb (w / 65536) 0xa000) e)
