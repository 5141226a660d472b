-- Both directions of the format: the words of a burst parse to that burst, and what parses to a burst is its words.
-- Assumes nothing.
use mathlib.Core.Path.{◌≡◌, refl, sym, ap, ◌∙◌}
use mathlib.Core.Bool.{Bool, true, false, ◌&&◌}
use mathlib.Core.List.{List, [], ◌∷◌, ◌++◌}
use Prim.Native.Nat.{ℕ, zero, suc, ◌+◌, ◌-◌, ◌*◌, ◌/◌, ◌%◌, ◌≤◌, ◌<◌}
use native.Mathlib.Omega.{arith}
use lib.Dec.{eqb}
use lib.ListN.{length, drop, get_or}
use lib.Seq.{drop_at}
use borrow.Author.Tests.{eq-eqb, ne_eqb, eqb-true}
use Rattle.words.specs.declared.Item.{Item}
use Rattle.words.specs.declared.Item.TheVariants.{End, Bad, Lost, Frame}
use Rattle.words.specs.declared.Head.{Head}
use Rattle.words.specs.Words.{words_for, byte_of, word_ok, payload_ok, unpack, payload, frame_of, item_at, size_of, Heard, heard, lost, heard_of, Parsed, malformed, parsed, Burst, then_frames, no_more, frames_of, head_ok, head_of, parse}
use Rattle.words.specs.Fine.{Bytes, Fine, AllFine, FineBurst}
use Rattle.words.proofs.Laws.{payload_done, frame_is, lost_is, end_is}
use Rattle.words.proofs.Read.{payload_length}
use Rattle.words.proofs.Walk.{never, goes_before, opened}
use Rattle.out.specs.Encode.{word12, pack, frame_words, head_word, heard_words, frames_words, burst_words}
use Rattle.out.proofs.Pack.{length_pack}

-- ### There: a payload

word_kind : (a b c : ℕ) → a < 256 → b < 256 → c < 256 → eqb (word12 a b c / 16777216) 192 ≡ true
word_kind a b c p q r = eq-eqb (word12 a b c / 16777216) 192 (omega arith)

payload_ok_lem : {p : List ℕ} (rest : List ℕ) → Bytes p → payload_ok (pack p ++ rest) (length p) ≡ true
unfolding payload_ok pack word_ok
payload_ok_lem rest Bytes.none = payload_done rest 0 refl
payload_ok_lem rest (Bytes.more {b = a} h Bytes.none) =
    rw (word_kind a 0 0 h (omega arith) (omega arith), eq-eqb (word12 a 0 0 % 65536) 0 (omega arith)) (payload_done rest 0 refl)
payload_ok_lem rest (Bytes.more {b = a} h (Bytes.more {b = b} i Bytes.none)) =
    rw (word_kind a b 0 h i (omega arith), eq-eqb (word12 a b 0 % 256) 0 (omega arith)) (payload_done rest 0 refl)
payload_ok_lem rest (Bytes.more {b = a} h (Bytes.more {b = b} i (Bytes.more {b = c} {l = l} j t))) =
    let e : suc (suc (suc (length l))) - 3 ≡ length l = omega arith in
    rw (
      ne_eqb (suc (suc (suc (length l)))) 0 (omega arith),
      word_kind a b c h i j,
      ne_eqb (suc (suc (suc (length l)))) 1 (omega arith),
      ne_eqb (suc (suc (suc (length l)))) 2 (omega arith),
      e,
    ) (payload_ok_lem rest t)

module _ (a b c : ℕ) (h : a < 256) (i : b < 256) (j : c < 256) where
  byte_0 : word12 a b c / 65536 % 256 ≡ a
  byte_0 = omega arith

  byte_1 : word12 a b c / 256 % 256 ≡ b
  byte_1 = omega arith

  byte_2 : word12 a b c % 256 ≡ c
  byte_2 = omega arith

payload_back : {p : List ℕ} (rest : List ℕ) → Bytes p → payload (pack p ++ rest) (length p) ≡ p
unfolding payload pack unpack
payload_back rest Bytes.none = refl
payload_back rest (Bytes.more {b = a} h Bytes.none) = rw (byte_0 a 0 0 h (omega arith) (omega arith))
payload_back rest (Bytes.more {b = a} h (Bytes.more {b = b} i Bytes.none)) = rw (byte_0 a b 0 h i (omega arith), byte_1 a b 0 h i (omega arith))
payload_back rest (Bytes.more {b = a} h (Bytes.more {b = b} i (Bytes.more {b = c} {l = l} j t))) =
    rw (byte_0 a b c h i j, byte_1 a b c h i j, byte_2 a b c h i j) (ap (λ (m : List ℕ). a ∷ b ∷ c ∷ m) (payload_back rest t))

-- ### There: a frame

module _ (flags field : ℕ) (p rest : List ℕ) (f : flags < 256) (g : field < 16777216) (n : length p < 256) (bs : Bytes p) where
  abbrev w : ℕ
  w = 0xa0000000 + flags * 256 + length p

  abbrev v : ℕ
  v = 0xb0000000 + field

  len : w % 256 ≡ length p
  len = omega arith

  flag : w / 256 % 256 ≡ flags
  flag = omega arith

  back : v % 16777216 ≡ field
  back = omega arith

  frame_by : frame_of w (v ∷ pack p ++ rest) ≡ Frame flags field (length p)
  unfolding frame_of
  frame_by = rw (eq-eqb (v / 16777216) 176 (omega arith), len, payload_ok_lem rest bs, flag, back)

  -- it reads back, whatever follows
  pub item_back : item_at (frame_words flags field p ++ rest) ≡ Frame flags field (length p)
  unfolding item_at
  item_back = rw (ne_eqb w 0xd0000000 (omega arith), eq-eqb (w / 65536) 0xa000 (omega arith)) frame_by

  pub rest_back : drop (2 + words_for (length p)) (frame_words flags field p ++ rest) ≡ rest
  rest_back =
      let e : 2 + words_for (length p) ≡ suc (suc (words_for (length p))) = omega arith in
      rw e (drop_at (pack p) rest (words_for (length p)) (length_pack p))

end_back : (k : ℕ) → frames_of k [] ≡ parsed []
unfolding frames_of item_at
end_back zero = refl
end_back (suc k) = refl

one_back : (f : Heard) (fs : List Heard) (k : ℕ) → Fine f → frames_of k (frames_words fs) ≡ parsed fs → frames_of (suc k) (heard_words f ++ frames_words fs) ≡ parsed (f ∷ fs)
unfolding frames_of item_at
one_back lost fs k u e = rw e
one_back (heard flags field p) fs k u e =
    rw (
      item_back flags field p (frames_words fs) u.0 u.1 u.2 u.3,
      rest_back flags field p (frames_words fs) u.0 u.1 u.2 u.3,
      e,
      payload_back (frames_words fs) u.3,
    )

pub frames_back : (k : ℕ) {fs : List Heard} → AllFine fs → length fs ≤ k → frames_of k (frames_words fs) ≡ parsed fs
unfolding frames_words
frames_back k AllFine.none h = end_back k
frames_back zero (AllFine.more u t) h = absurd (omega arith)
frames_back (suc k) (AllFine.more {f} {fs} u t) h = one_back f fs k u (frames_back k t (omega arith))

-- ### There: a burst

module _ (code hi extra : ℕ) (c : code < 128) (h : hi < 16) (x : extra < 65536) where
  abbrev head : ℕ
  head = head_word code hi extra

  head_fine : head_ok head ≡ true
  unfolding head_ok
  head_fine = rw (eq-eqb (head / 268435456) 8 (omega arith), eq-eqb (head / 65536 % 2) 0 (omega arith))

  code_back : head / 2097152 % 128 ≡ code
  code_back = omega arith

  hi_back : head / 131072 % 16 ≡ hi
  hi_back = omega arith

  extra_back : head % 65536 ≡ extra
  extra_back = omega arith

-- the words of a burst in range parse to it
pub parse_back : (b : Burst) → FineBurst b → parse (burst_words b) ≡ parsed b
unfolding parse
parse_back b f =
    let a = b.head in
    rw (
      head_fine a.code a.hi a.extra f.code f.hi f.extra,
      frames_back 64 f.frames f.count,
      code_back a.code a.hi a.extra f.code f.hi f.extra,
      hi_back a.code a.hi a.extra f.code f.hi f.extra,
      extra_back a.code a.hi a.extra f.code f.hi f.extra,
    )

-- ### And back: a payload

and_both : (a b : Bool) → (a && b) ≡ true → (a ≡ true) × (b ≡ true)
and_both true b e = (refl, e)
and_both false b e = let z : ◌≡◌ {A = ℕ} 0 1 = cc in absurd (omega arith)

ok_cons : (w : ℕ) (ws : List ℕ) (n : ℕ) → 0 < n → payload_ok (w ∷ ws) n ≡ true → (word_ok w n ≡ true) × (payload_ok ws (n - 3) ≡ true)
unfolding payload_ok
ok_cons w ws n h e = and_both (word_ok w n) (payload_ok ws (n - 3)) (rw (ne_eqb n 0 (omega arith)) at e)

module _ (w : ℕ) where
  word_is : (n : ℕ) → word_ok w n ≡ true → w / 16777216 ≡ 192
  unfolding word_ok
  word_is n e = eqb-true _ _ (and_both (eqb (w / 16777216) 192) _ e).0

  word_one : word_ok w 1 ≡ true → w % 65536 ≡ 0
  unfolding word_ok
  word_one e = eqb-true _ _ (and_both (eqb (w / 16777216) 192) _ e).1

  word_two : word_ok w 2 ≡ true → w % 256 ≡ 0
  unfolding word_ok
  word_two e = eqb-true _ _ (and_both (eqb (w / 16777216) 192) _ e).1

no_words : (n : ℕ) → payload_ok [] (suc n) ≡ true → ⊥
unfolding payload_ok
no_words n e = let z = eqb-true (suc n) 0 e in omega arith

pack_only : (ws : List ℕ) (n : ℕ) → payload_ok ws n ≡ true → ws ≡ pack (payload ws n) ++ drop (words_for n) ws
unfolding payload pack unpack
pack_only ws zero e = refl
pack_only [] (suc n) e = absurd (no_words n e)
pack_only (w ∷ ws) (suc zero) e =
    let o = (ok_cons w ws 1 (omega arith) e).0 in
    let k : w ≡ word12 (byte_of w 0) 0 0 = omega (arith, word_is w 1 o, word_one w o) in
    ap (λ (x : ℕ). x ∷ ws) k
pack_only (w ∷ ws) (suc (suc zero)) e =
    let o = (ok_cons w ws 2 (omega arith) e).0 in
    let k : w ≡ word12 (byte_of w 0) (byte_of w 1) 0 = omega (arith, word_is w 2 o, word_two w o) in
    ap (λ (x : ℕ). x ∷ ws) k
pack_only (w ∷ ws) (suc (suc (suc m))) e =
    let o = ok_cons w ws (suc (suc (suc m))) (omega arith) e in
    let k : w ≡ word12 (byte_of w 0) (byte_of w 1) (byte_of w 2) = omega (arith, word_is w (suc (suc (suc m))) o.0) in
    let j : suc (suc (suc m)) - 3 ≡ m = omega arith in
    let z : words_for (suc (suc (suc m))) ≡ suc (words_for m) = omega arith in
    let t : ws ≡ pack (payload ws m) ++ drop (words_for m) ws = pack_only ws m (rw j at o.1) in
    rw z (ap (λ (x : ℕ). x ∷ ws) k ∙ ap (λ (l : List ℕ). word12 (byte_of w 0) (byte_of w 1) (byte_of w 2) ∷ l) t)

-- ### And back: a frame

frame_words_lem : (x y : ℕ) (rest : List ℕ) (n : ℕ) → x / 65536 ≡ 0xa000 → y / 16777216 ≡ 176 → n ≡ x % 256 → payload_ok rest n ≡ true → length (payload rest n) ≡ n
    → x ∷ y ∷ rest ≡ frame_words (x / 256 % 256) (y % 16777216) (payload rest n) ++ drop (2 + words_for n) (x ∷ y ∷ rest)
frame_words_lem x y rest n k q e o len =
    let z : 2 + words_for n ≡ suc (suc (words_for n)) = omega arith in
    let a : x ≡ 0xa0000000 + x / 256 % 256 * 256 + length (payload rest n) = omega arith in
    let b : y ≡ 0xb0000000 + y % 16777216 = omega arith in
    rw z (ap (λ (i : ℕ). i ∷ y ∷ rest) a ∙ ap (λ (i : ℕ). (0xa0000000 + x / 256 % 256 * 256 + length (payload rest n)) ∷ i ∷ rest) b
    ∙ ap (λ (l : List ℕ). (0xa0000000 + x / 256 % 256 * 256 + length (payload rest n)) ∷ (0xb0000000 + y % 16777216) ∷ l) (pack_only rest n o))

frame_by_words : (l : List ℕ) (a b n x y : ℕ) (rest : List ℕ) → l ≡ x ∷ y ∷ rest → a ≡ x / 256 % 256 → b ≡ y % 16777216
    → x / 65536 ≡ 0xa000 → y / 16777216 ≡ 176 → n ≡ x % 256 → payload_ok rest n ≡ true → length (payload (drop 2 l) n) ≡ n
    → l ≡ frame_words a b (payload (drop 2 l) n) ++ drop (2 + words_for n) l
frame_by_words l a b n x y rest el ea eb k q e o len = rw (el, ea, eb) (frame_words_lem x y rest n k q e o (rw el at len))

frame_only : (l : List ℕ) (a b n : ℕ) → item_at l ≡ Frame a b n → l ≡ frame_words a b (payload (drop 2 l) n) ++ drop (2 + words_for n) l
frame_only l a b n e =
    let f = frame_is l a b n e in
    frame_by_words l a b n f.w f.v f.rest f.words f.flags f.field f.kind f.next f.len f.payload (payload_length l a b n e)

module _ (l : List ℕ) (rest : Parsed (List Heard)) (fs : List Heard) where
  none_only : parsed [] ≡ parsed fs → l ≡ [] → l ≡ frames_words fs
  unfolding frames_words
  none_only e h = let z : fs ≡ [] = cc in rw z h

  more_only : (i : Item) → item_at l ≡ i → ((tail : List Heard) → rest ≡ parsed tail → drop (size_of i) l ≡ frames_words tail) → then_frames i l rest ≡ parsed fs → l ≡ frames_words fs
  unfolding frames_words
  more_only End q ih e = none_only e (end_is l q)
  more_only Bad q ih e = absurd (never e)
  more_only Lost q ih e =
      let g = goes_before lost rest fs e in
      rw g.1 (lost_is l q ∙ ap (λ (x : List ℕ). 0xd0000000 ∷ x) (ih g.0 g.2))
  more_only (Frame a b n) q ih e =
      let g = goes_before (heard_of (Frame a b n) l) rest fs e in
      rw g.1 (frame_only l a b n q ∙ ap (λ (x : List ℕ). frame_words a b (payload (drop 2 l) n) ++ x) (ih g.0 g.2))

  last_only : (i : Item) → item_at l ≡ i → no_more i ≡ parsed fs → l ≡ frames_words fs
  last_only End q e = none_only e (end_is l q)
  last_only Bad q e = absurd (never e)
  last_only Lost q e = absurd (never e)
  last_only (Frame a b n) q e = absurd (never e)

pub frames_only : (k : ℕ) (l : List ℕ) (fs : List Heard) → frames_of k l ≡ parsed fs → l ≡ frames_words fs
unfolding frames_of
frames_only zero l fs e = last_only l malformed fs (item_at l) refl e
frames_only (suc k) l fs e =
    more_only l (frames_of k (drop (size_of (item_at l)) l)) fs (item_at l) refl (λ tail q. frames_only k (drop (size_of (item_at l)) l) tail q) e

-- ### And back: a burst

head_bits : (x : ℕ) → x / 268435456 ≡ 8 → x / 65536 % 2 ≡ 0 → x ≡ head_word (head_of x).code (head_of x).hi (head_of x).extra
head_bits x k z =
    let a : x / 65536 / 2 ≡ x / 131072 = omega arith in
    let b : x / 131072 / 16 ≡ x / 2097152 = omega arith in
    let c : x / 2097152 / 128 ≡ x / 268435456 = omega arith in
    let p : x / 2097152 % 128 % 128 ≡ x / 2097152 % 128 = omega arith in
    let q : x / 131072 % 16 % 16 ≡ x / 131072 % 16 = omega arith in
    let r : x % 65536 % 65536 ≡ x % 65536 = omega arith in
    rw (p, q, r) (omega arith)

head_only : (x : ℕ) → head_ok x ≡ true → x ≡ head_word (head_of x).code (head_of x).hi (head_of x).extra
unfolding head_ok
head_only x e =
    let o = and_both (eqb (x / 268435456) 8) (eqb (x / 65536 % 2) 0) e in
    head_bits x (eqb-true (x / 268435456) 8 o.0) (eqb-true (x / 65536 % 2) 0 o.1)

split : (ws : List ℕ) → 1 ≤ length ws → ws ≡ get_or ws 0 0 ∷ drop 1 ws
split [] h = absurd (omega arith)
split (w ∷ ws) h = refl

-- only the words of a burst parse to it
pub parse_only : (ws : List ℕ) (b : Burst) → parse ws ≡ parsed b → ws ≡ burst_words b
parse_only ws b e =
    let o = opened ws b e in
    split ws o.room ∙ ap (λ (x : ℕ). x ∷ drop 1 ws) (head_only (get_or ws 0 0) o.ok)
    ∙ ap (λ (h : Head). head_word h.code h.hi h.extra ∷ drop 1 ws) (sym o.head)
    ∙ ap (λ (l : List ℕ). head_word b.head.code b.head.hi b.head.extra ∷ l) (frames_only 64 (drop 1 ws) b.frames o.frames)
