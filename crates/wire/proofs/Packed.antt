-- Trimming and padding of calls, and the sums of src/ over lists of a known length. Assumes nothing.
use mathlib.Core.Path.{◌≡◌, refl, sym, ap, ◌∙◌}
use mathlib.Core.Bool.{Bool, true, false, cond}
use mathlib.Core.List.{List, [], ◌∷◌, ◌++◌}
use Prim.Native.Nat.{ℕ, zero, suc, ◌+◌, ◌/◌, ◌%◌, ◌≤◌, ◌<◌}
use native.Mathlib.Omega.{arith}
use lib.Dec.{eqb}
use lib.ListN.{length, get_or, take, drop}
use lib.Seq.{ext_get_or}
use borrow.Author.Tests.{eqb-true, eq-eqb, ne_eqb}
use Rattle.wire.specs.Call.{char, chars, trim_start, keep, trim_end, pad, unpacked, shifted}

-- ### Padding after trimming the end is padding

module _ (n c : ℕ) where
  keep_none : (b : Bool) → eqb c 32 ≡ b → pad (suc n) (cond b [] (c ∷ [])) ≡ c ∷ pad n []
  keep_none true e = ap (λ (x : ℕ). x ∷ pad n []) (sym (eqb-true c 32 e))
  keep_none false e = refl

  keep_pad : (t : List ℕ) → pad (suc n) (keep c t) ≡ c ∷ pad n t
  keep_pad [] = keep_none (eqb c 32) refl
  keep_pad (x ∷ t) = refl

pub pad_end : (n : ℕ) (l : List ℕ) → length l ≤ n → pad n (trim_end l) ≡ pad n l
unfolding trim_end
pad_end n [] h = refl
pad_end zero (c ∷ l) h = absurd (omega arith)
pad_end (suc n) (c ∷ l) h = keep_pad n c (trim_end l) ∙ ap (λ (m : List ℕ). c ∷ m) (pad_end n l (omega arith))

-- ### Shifting left is trimming the start and padding

pad_snoc : (n : ℕ) (l : List ℕ) → length l ≤ n → pad n l ++ (32 ∷ []) ≡ pad (suc n) l
pad_snoc zero [] h = refl
pad_snoc zero (c ∷ l) h = absurd (omega arith)
pad_snoc (suc n) [] h = ap (λ (m : List ℕ). 32 ∷ m) (pad_snoc n [] (omega arith))
pad_snoc (suc n) (c ∷ l) h = ap (λ (m : List ℕ). c ∷ m) (pad_snoc n l (omega arith))

-- k shifts
abbrev pub times : ℕ → List ℕ → List ℕ
times zero l = l
times (suc k) l = times k (shifted l)

fixed : (k : ℕ) (l : List ℕ) → shifted l ≡ l → times k l ≡ l
fixed zero l e = refl
fixed (suc k) l e = ap (times k) e ∙ fixed k l e

still : (n : ℕ) → shifted (pad n []) ≡ pad n []
unfolding shifted
still zero = refl
still (suc n) = pad_snoc n [] (omega arith)

module _ (c : ℕ) (l : List ℕ) (k n : ℕ) (h : suc (length l) ≤ suc n) (ih : times k (pad (suc n) l) ≡ pad (suc n) (trim_start l)) where
  shift_by : (b : Bool) → eqb c 32 ≡ b → times (suc k) (c ∷ pad n l) ≡ pad (suc n) (cond b (trim_start l) (c ∷ l))
  unfolding shifted
  shift_by true e = ap (times k) (rw e (pad_snoc n l (omega arith))) ∙ ih
  shift_by false e = fixed (suc k) (c ∷ pad n l) (rw e)

pub shift_all : (l : List ℕ) (k n : ℕ) → length l ≤ k → length l ≤ n → times k (pad n l) ≡ pad n (trim_start l)
unfolding trim_start
shift_all [] k n h m = fixed k (pad n []) (still n)
shift_all (c ∷ l) zero n h m = absurd (omega arith)
shift_all (c ∷ l) (suc k) zero h m = absurd (omega arith)
shift_all (c ∷ l) (suc k) (suc n) h m = shift_by c l k n m (shift_all l k (suc n) (omega arith) (omega arith)) (eqb c 32) refl

pub pad_full : (n : ℕ) (l : List ℕ) → length l ≡ n → pad n l ≡ l
pad_full zero l h = refl
pad_full (suc n) [] h = absurd (omega arith)
pad_full (suc n) (c ∷ l) h = ap (λ (m : List ℕ). c ∷ m) (pad_full n l (omega arith))

pub trim_short : (l : List ℕ) → length (trim_start l) ≤ length l
unfolding trim_start
trim_short [] = omega arith
trim_short (c ∷ l) = by (eqb c 32) (trim_short l)
  where
    by : (b : Bool) → length (trim_start l) ≤ length l → length (cond b (trim_start l) (c ∷ l)) ≤ suc (length l)
    by true ih = omega arith
    by false ih = omega arith

pub length_chars : (n v : ℕ) (l : List ℕ) → length (chars n v l) ≡ n + length l
length_chars zero v l = omega arith
length_chars (suc n) v l = omega (arith, length_chars n (v / 38) (char (v % 38) ∷ l))

-- what `unpack_number` does is what `unpacked` says
pub unpack_done : (v : ℕ) (r : List ℕ) → r ≡ times 7 (chars 7 v []) → r ≡ unpacked v
unfolding unpacked
unpack_done v r e =
    let n : length (chars 7 v []) ≡ 7 = omega (arith, length_chars 7 v []) in
    let t = trim_short (chars 7 v []) in
    e
    ∙ ap (times 7) (sym (pad_full 7 (chars 7 v []) n))
    ∙ shift_all (chars 7 v []) 7 7 (omega arith) (omega arith)
    ∙ sym (pad_end 7 (trim_start (chars 7 v [])) (omega arith))

-- ### An array of seven bytes

module _ (l : List ℕ) where
  abbrev spread : List ℕ
  spread = get_or l 0 0 ∷ get_or l 1 0 ∷ get_or l 2 0 ∷ get_or l 3 0 ∷ get_or l 4 0 ∷ get_or l 5 0 ∷ get_or l 6 0 ∷ []

  each : (i : ℕ) → i < 7 → get_or l i 0 ≡ get_or spread i 0
  each zero h = refl
  each (suc zero) h = refl
  each (suc (suc zero)) h = refl
  each (suc (suc (suc zero))) h = refl
  each (suc (suc (suc (suc zero)))) h = refl
  each (suc (suc (suc (suc (suc zero))))) h = refl
  each (suc (suc (suc (suc (suc (suc zero)))))) h = refl
  each (suc (suc (suc (suc (suc (suc (suc i))))))) h = absurd (omega arith)

  pub seven : length l ≡ 7 → l ≡ spread
  seven h = ext_get_or 0 l spread (omega arith) (λ i m. each i (omega arith))

  pub shifted_not : length l ≡ 7 → (get_or l 0 0 ≡ 32 → ⊥) → l ≡ shifted l
  unfolding shifted
  shifted_not h z = seven h ∙ sym (ap shifted (seven h) ∙ rw (ne_eqb (get_or l 0 0) 32 z))

  pub shifted_space : length l ≡ 7 → get_or l 0 0 ≡ 32 → drop 1 l ++ take 1 l ≡ shifted l
  unfolding shifted
  shifted_space h z = ap (λ (m : List ℕ). drop 1 m ++ take 1 m) (seven h) ∙ rw z (sym (ap shifted (seven h) ∙ rw (eq-eqb (get_or l 0 0) 32 z)))
