-- The parts of a log at an index of its words, and a walk at an index. Assumes nothing.
use mathlib.Core.Path.{◌≡◌, refl, sym, ◌∙◌, subst}
use mathlib.Core.Bool.{Bool, true, false, cond}
use mathlib.Core.List.{List, [], ◌∷◌}
use Prim.Native.Nat.{ℕ, zero, suc, ◌+◌, ◌-◌, ◌≤◌, ◌<◌}
use native.Mathlib.Numerals.{add-one}
use native.Mathlib.Omega.{arith}
use lib.Dec.{eqb}
use Rattle.std.specs.Prelude.{Option, Some, None}
use lib.ListN.{length, drop, get_or, drop_of_length-le, length-drop}
use lib.Seq.{drop-cons, drop-drop}
use Rattle.words.specs.Words.{size_of, item_at, head_ok}
use Rattle.words.specs.declared.Item.{Item}
use Rattle.words.specs.declared.Item.TheVariants.{End, Bad, Lost, Frame}
use Rattle.words.proofs.Laws.{item_room}
use Rattle.logs.specs.declared.Part.{Part}
use Rattle.logs.specs.Reading.{is_mark, wave_ok, part, head_part, frame_part, part_of, part_and, parts_from}
use Rattle.logs.specs.Steps.{on, walk}

module _ (ws : List ℕ) (at : ℕ) where
  pub part_end : (room : ℕ) → length ws ≤ at → part_of room (drop at ws) ≡ None
  unfolding part_of
  part_end room h = rw (drop_of_length-le ws h)

  pub part_cons : (room : ℕ) → at < length ws
      → part_of room (drop at ws)
      ≡ cond (is_mark (get_or ws at 0)) (Some (part 1 0)) (cond (head_ok (get_or ws at 0)) (head_part (drop (at + 1) ws)) (frame_part room (item_at (drop at ws))))
  unfolding part_of
  part_cons room h = rw (drop-cons ws at 0, add-one)

  pub head_end : length ws ≤ at → head_part (drop at ws) ≡ None
  head_end h = rw (drop_of_length-le ws h)

  pub head_cons : at < length ws → head_part (drop at ws) ≡ cond (wave_ok (get_or ws at 0)) (Some (part 2 64)) None
  head_cons h = rw (drop-cons ws at 0)

-- ---- a part has a word, and lies within the words

abbrev Within : Option Part → ℕ → Type 0
Within None n = Unit {0}
Within (Some p) n = (0 < p.size) × (p.size ≤ n)

frame_fits : (room : ℕ) (i : Item) → Within (frame_part room i) (size_of i)
frame_fits room End = tt
frame_fits room Bad = tt
frame_fits room Lost = tt
frame_fits room (Frame a b n) = by (eqb room 0)
  where
    by : (t : Bool) → Within (cond t None (Some (part (size_of (Frame a b n)) (room - 1)))) (size_of (Frame a b n))
    by true = tt
    by false = (omega arith, omega arith)

head_fits : (ws : List ℕ) → Within (head_part ws) (suc (length ws))
head_fits [] = tt
head_fits (w ∷ ws) = by (wave_ok w)
  where
    by : (t : Bool) → Within (cond t (Some (part 2 64)) None) (suc (suc (length ws)))
    by true = (omega arith, omega arith)
    by false = tt

wider : (x : Option Part) (m n : ℕ) → m ≤ n → Within x m → Within x n
wider None m n h w = tt
wider (Some p) m n h w = (w.0, omega (arith, w.1))

part_fits : (room : ℕ) (l : List ℕ) → Within (part_of room l) (length l)
unfolding part_of
part_fits room [] = tt
part_fits room (w ∷ ws) = by (is_mark w) (head_ok w)
  where
    by : (s t : Bool) → Within (cond s (Some (part 1 0)) (cond t (head_part ws) (frame_part room (item_at (w ∷ ws))))) (suc (length ws))
    by true t = (omega arith, omega arith)
    by false true = head_fits ws
    by false false = wider (frame_part room (item_at (w ∷ ws))) _ _ (item_room (w ∷ ws)) (frame_fits room (item_at (w ∷ ws)))

pub part_within : (ws : List ℕ) (at room : ℕ) (p : Part) → at ≤ length ws → Some p ≡ part_of room (drop at ws) → (0 < p.size) × (at + p.size ≤ length ws)
part_within ws at room p h e =
    let w : Within (Some p) (length (drop at ws)) = subst (λ (x : Option Part). Within x (length (drop at ws))) (sym e) (part_fits room (drop at ws)) in
    (w.0, omega (arith, w.1, length-drop at ws))

-- ---- part after part

-- words that belong to a part already read
parts_skip : (k room : ℕ) (l : List ℕ) → parts_from k room l ≡ parts_from 0 room (drop k l)
unfolding parts_from
parts_skip zero room l = refl
parts_skip (suc k) room [] = refl
parts_skip (suc k) room (w ∷ ws) = parts_skip k room ws

parts_cons : (room w : ℕ) (ws : List ℕ)
    → parts_from 0 room (w ∷ ws) ≡ part_and (part_of room (w ∷ ws)) (λ p. parts_from (p.size - 1) p.room ws)
unfolding parts_from
parts_cons room w ws = refl

pub parts_end : (ws : List ℕ) (at room : ℕ) → length ws ≤ at → parts_from 0 room (drop at ws) ≡ true
unfolding parts_from
parts_end ws at room h = rw (drop_of_length-le ws h)

module _ (ws : List ℕ) (at room : ℕ) (h : at < length ws) where
  parts_at : (x : Option Part) → x ≡ part_of room (drop at ws) → parts_from 0 room (drop at ws) ≡ part_and x (λ p. parts_from (p.size - 1) p.room (drop (suc at) ws))
  parts_at x e = rw (e, drop-cons ws at 0) (parts_cons room (get_or ws at 0) (drop (suc at) ws))

  pub parts_bad : None ≡ part_of room (drop at ws) → parts_from 0 room (drop at ws) ≡ false
  parts_bad e = parts_at None e

  pub parts_more : (p : Part) → Some p ≡ part_of room (drop at ws) → 0 < p.size → parts_from 0 room (drop at ws) ≡ parts_from 0 p.room (drop (at + p.size) ws)
  parts_more p e z =
      let k : suc at + (p.size - 1) ≡ at + p.size = omega arith in
      parts_at (Some p) e ∙ parts_skip (p.size - 1) p.room (drop (suc at) ws) ∙ rw (drop-drop, k)

-- ---- a walk

pub walk_end : {A : Type 0} (f : A → ℕ → Option A) (a : A) (ws : List ℕ) (at : ℕ) → length ws ≤ at → walk f a (drop at ws) ≡ Some a
unfolding walk
walk_end f a ws at h = rw (drop_of_length-le ws h)

pub walk_step : {A : Type 0} (f : A → ℕ → Option A) (a : A) (ws : List ℕ) (at : ℕ) (x : Option A) → at < length ws → x ≡ f a (get_or ws at 0)
    → walk f a (drop at ws) ≡ on x (λ b. walk f b (drop (at + 1) ws))
unfolding walk
walk_step f a ws at x h e = rw (drop-cons ws at 0, add-one, e)
