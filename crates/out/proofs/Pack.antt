-- The words of a payload and of chunks, by what stands at an index.
-- Assumes nothing.
use mathlib.Core.Path.{◌≡◌, refl, sym, ap, ◌∙◌}
use mathlib.Core.Bool.{Bool, true, false, cond}
use mathlib.Core.List.{List, [], ◌∷◌, ◌++◌, append-nil}
use Prim.Native.Nat.{ℕ, zero, suc, ◌+◌, ◌-◌, ◌*◌, ◌≤◌, ◌<◌, min, max}
use native.Mathlib.Omega.{arith}
use lib.Dec.{eqb, ltb}
use lib.ListN.{length, length-append, take, drop, get_or, length-drop, drop_of_length-le}
use lib.Seq.{get_or-take, take-append_seam, drop-append_seam, take_all, length-take-le}
use borrow.Author.Tests.{eqb-true, ltb-true, ltb-false, eqb-false}
use Rattle.words.specs.Words.{words_for, least}
use Rattle.words.proofs.Read.{least_most, least_first}
use Rattle.out.specs.declared.Output.{Output}
use Rattle.out.specs.Encode.{word12, pack, frame_words, ctrl_words, chunks_of, chunk_size, chunk_words}
use Rattle.out.specs.Outputs.{Writes}
use Rattle.out.proofs.Laws.{writes_then}

-- ### A payload

pub length_pack : (l : List ℕ) → length (pack l) ≡ words_for (length l)
unfolding pack
length_pack [] = refl
length_pack (a ∷ []) = omega arith
length_pack (a ∷ b ∷ []) = omega arith
length_pack (a ∷ b ∷ c ∷ l) = omega (arith, length_pack l)

pack_step : (l : List ℕ) → 0 < length l → pack l ≡ word12 (get_or l 0 0) (get_or l 1 0) (get_or l 2 0) ∷ pack (drop 3 l)
unfolding pack
pack_step [] h = absurd (omega arith)
pack_step (a ∷ []) h = refl
pack_step (a ∷ b ∷ []) h = refl
pack_step (a ∷ b ∷ c ∷ l) h = refl

-- the next chunk of a list, and what it leaves
pub chunk_cut : (s : ℕ) (r x t : List ℕ) → r ≡ x ++ t → length x ≡ min s (length r) → (take s r ≡ x) × (drop s r ≡ t)
chunk_cut s r x t e n =
    let m : length x + length t ≡ length r = rw e (sym (length-append x t)) in
    cases (ltb (length r) s) refl m
  where
    by : (t : List ℕ) → r ≡ x ++ t → length t ≡ 0 → length r ≤ s → (take s r ≡ x) × (drop s r ≡ t)
    by [] e z l = (take_all s r l ∙ e ∙ append-nil x, drop_of_length-le r l)
    by (a ∷ t) e z l = absurd (omega arith)

    cases : (b : Bool) → ltb (length r) s ≡ b → length x + length t ≡ length r → (take s r ≡ x) × (drop s r ≡ t)
    cases true f m = let h = ltb-true (length r) s f in by t e (omega arith) (omega arith)
    cases false f m =
        let h = ltb-false (length r) s f in
        let k : s ≡ length x = omega arith in
        rw (e, k) (take-append_seam x t, drop-append_seam x t)

-- one word more
pub pack_turn : (r x t : List ℕ) (w : ℕ) → r ≡ x ++ t → length x ≡ min 3 (length r) → 0 < length r → w ≡ word12 (get_or x 0 0) (get_or x 1 0) (get_or x 2 0)
    → pack r ≡ (w ∷ []) ++ pack t
pack_turn r x t w e n h q =
    let c = chunk_cut 3 r x t e n in
    rw (pack_step r h, c.1, q, ← c.0, get_or-take 3 r 0 0 (omega arith), get_or-take 3 r 1 0 (omega arith), get_or-take 3 r 2 0 (omega arith))

pub pack_end : (l : List ℕ) → length l ≡ 0 → pack l ≡ []
unfolding pack
pack_end [] h = refl
pack_end (a ∷ l) h = absurd (omega arith)

-- ### Lists that are cut

-- a list that is short enough is not cut
pub take_short : (n b : ℕ) (l : List ℕ) → length l ≤ b → take (least n b) l ≡ take n l
take_short n b l h = by (ltb n b) refl
  where
    by : (t : Bool) → ltb n b ≡ t → take (cond t n b) l ≡ take n l
    by true e = refl
    by false e = let g = ltb-false n b e in take_all b l h ∙ sym (take_all n l (omega arith))

pub length_take_most : (m : ℕ) (l : List ℕ) → length (take m l) ≤ m
length_take_most zero l = omega arith
length_take_most (suc m) [] = omega arith
length_take_most (suc m) (a ∷ l) = omega (arith, length_take_most m l)

-- ### Chunks, one after the other

module _ (kind size : ℕ) (pos : 0 < size) where
  chunks_step : (k : ℕ) (l : List ℕ) → 0 < length l
      → chunks_of (suc k) kind size l ≡ ctrl_words (kind ∷ take size l) ++ chunks_of k kind size (drop size l)
  unfolding chunks_of
  chunks_step k [] h = absurd (omega arith)
  chunks_step k (b ∷ l) h = refl

  -- more turns than bytes change nothing
  chunks_same : (j k : ℕ) (l : List ℕ) → length l ≤ j → length l ≤ k → chunks_of j kind size l ≡ chunks_of k kind size l
  unfolding chunks_of
  chunks_same zero zero l h g = refl
  chunks_same zero (suc k) [] h g = refl
  chunks_same zero (suc k) (b ∷ l) h g = absurd (omega arith)
  chunks_same (suc j) zero [] h g = refl
  chunks_same (suc j) zero (b ∷ l) h g = absurd (omega arith)
  chunks_same (suc j) (suc k) [] h g = refl
  chunks_same (suc j) (suc k) (b ∷ l) h g =
      let n = length-drop size (b ∷ l) in
      ap (λ (x : List ℕ). ctrl_words (kind ∷ take size (b ∷ l)) ++ x) (chunks_same j k (drop size (b ∷ l)) (omega arith) (omega arith))

pub size_pos : (size : ℕ) → 0 < chunk_size size
size_pos size = by (eqb size 0) (ltb size 31) refl
  where
    by : (s t : Bool) → eqb size 0 ≡ s → 0 < cond s 1 (cond t size 31)
    by true t e = omega arith
    by false true e = let h = eqb-false size 0 e in omega arith
    by false false e = omega arith

pub size_most : (size : ℕ) → chunk_size size ≤ 31
size_most size = by (eqb size 0)
  where
    by : (s : Bool) → cond s 1 (least size 31) ≤ 31
    by true = omega arith
    by false = least_most size 31

-- the first chunk, and then those of the rest
pub chunk_step : (kind size : ℕ) (l : List ℕ) → 0 < length l
    → chunk_words kind size l ≡ ctrl_words (kind ∷ take (chunk_size size) l) ++ chunk_words kind size (drop (chunk_size size) l)
chunk_step kind size l h =
    let s = chunk_size size in
    let e : length l ≡ suc (length l - 1) = omega arith in
    let n = length-drop s l in
    let p = size_pos size in
    ap (λ (k : ℕ). chunks_of k kind s l) e ∙ chunks_step kind s p (length l - 1) l h
    ∙ ap (λ (x : List ℕ). ctrl_words (kind ∷ take s l) ++ x) (chunks_same kind s p (length l - 1) (length (drop s l)) (drop s l) (omega arith) (omega arith))

pub chunk_none : (kind size : ℕ) (l : List ℕ) → length l ≤ 0 → chunk_words kind size l ≡ []
unfolding chunks_of
chunk_none kind size [] h = refl
chunk_none kind size (b ∷ l) h = absurd (omega arith)

pub size_clamp : (size : ℕ) → max 1 (min size 31) ≡ chunk_size size
size_clamp size = by (eqb size 0) (ltb size 31) refl refl
  where
    by : (s t : Bool) → eqb size 0 ≡ s → ltb size 31 ≡ t → max 1 (min size 31) ≡ cond s 1 (cond t size 31)
    by true t e f = let h = eqb-true size 0 e in omega arith
    by false true e f = let h = eqb-false size 0 e in let k = ltb-true size 31 f in omega arith
    by false false e f = let k = ltb-false size 31 f in omega arith

-- a turn of the writer sends the next of the rows
pub chunks_turn : (kind size s : ℕ) (r x t : List ℕ) → s ≡ chunk_size size → r ≡ x ++ t → length x ≡ min s (length r) → 0 < length r
    → chunk_words kind size r ≡ ctrl_words (kind ∷ x) ++ chunk_words kind size t
chunks_turn kind size s r x t z e n h =
    let c = chunk_cut s r x t e n in
    rw (chunk_step kind size r h, ← z, c.0, c.1)

-- ### A frame, of what its three calls wrote

pub cut_room : (k n len : ℕ) (p : List ℕ) → k ≡ least n 255 → len ≡ least k (length p) → (len ≤ length p) × (len < 256)
cut_room k n len p d e = omega (arith, least_most n 255, least_first k (length p), least_most k (length p))

pub frame_done : {o o₁ o₂ o₃ : Output} (flags field n len : ℕ) (p : List ℕ) → len ≡ least (least n 255) (length p)
    → Writes o ((0xa0000000 + flags * 256 + len) ∷ []) o₁ → Writes o₁ ((0xb0000000 + field) ∷ []) o₂ → Writes o₂ (pack (take len p)) o₃
    → Writes o (frame_words flags field (take (least n 255) p)) o₃
frame_done flags field n len p e u v w =
    let t : take (least n 255) p ≡ take len p = sym (take_short (least n 255) (length p) p (omega arith)) ∙ rw e in
    let k : length (take len p) ≡ len = length-take-le len p (omega (arith, least_most (least n 255) (length p))) in
    rw (t, k) (writes_then u (writes_then v w))
