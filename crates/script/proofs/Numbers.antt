-- Numbers in a payload's bytes. Assumes nothing.
use mathlib.Core.Path.{◌≡◌, sym, ap, ◌∙◌}
use mathlib.Core.Bool.{Bool, true, false}
use mathlib.Core.List.{List, [], ◌∷◌, ◌++◌}
use Prim.Native.Nat.{ℕ, zero, suc, ◌+◌, ◌*◌, ◌<◌, ◌≤◌}
use native.Mathlib.Numerals.{add-one}
use native.Mathlib.Omega.{arith}
use borrow.Author.Tests.{lt-ltb, le-ltb}
use lib.ListN.{length, get_or, take, set}
use lib.Seq.{take_all, take-suc-set}
use lib.Ieee.{Float, Format, of_bits, nan_bits}
use Rattle.script.specs.Numbers.{u32_at, u64_at, f32_at, float_of}
use Rattle.script.specs.Settings.{f32s_at}

-- ---- whole numbers

pub u32_none : (p : List ℕ) (at : ℕ) → 251 < at → 0 ≡ u32_at p at
unfolding u32_at
u32_none p at h = simp (lt-ltb 251 at h)

pub u32_some : (p : List ℕ) (at : ℕ) → at ≤ 251 → u32_at p at ≡ get_or p at 0 + 256 * get_or p (at + 1) 0 + 65536 * get_or p (at + 2) 0 + 16777216 * get_or p (at + 3) 0
unfolding u32_at
u32_some p at h = simp (le-ltb 251 at h)

pub u64_none : (p : List ℕ) (at : ℕ) → 247 < at → 0 ≡ u64_at p at
unfolding u64_at
u64_none p at h = simp (lt-ltb 247 at h)

pub u64_some : (p : List ℕ) (at : ℕ) → at ≤ 247 → u64_at p at ≡ u32_at p at + 4294967296 * u32_at p (at + 4)
unfolding u64_at
u64_some p at h = simp (le-ltb 247 at h)

-- ---- floats

-- r: whether the pattern b is a NaN's
pub float_none : (f : Format) {b n : ℕ} {r : Bool} → b ≡ n → r ≡ nan_bits f b → r ≡ true → of_bits f 0 ≡ float_of f n
unfolding float_of
float_none f e t h = simp (sym (ap (nan_bits f) e) ∙ sym t ∙ h)

pub float_some : (f : Format) {b n : ℕ} {r : Bool} → b ≡ n → r ≡ nan_bits f b → r ≡ false → of_bits f b ≡ float_of f n
unfolding float_of
float_some f e t h = simp (sym (ap (nan_bits f) e) ∙ sym t ∙ h) (ap (of_bits f) e)

-- ---- a row of f32

pub f32s_next : (p : List ℕ) (n at : ℕ) → f32s_at p (suc n) at ≡ f32s_at p n at ++ (f32_at p (at + 4 * n) ∷ [])
unfolding f32s_at
f32s_next p zero at = let e : at ≡ at + 4 * zero = omega arith in ap (λ (k : ℕ). f32_at p k ∷ []) e
f32s_next p (suc n) at =
    let e : 4 + at + 4 * n ≡ at + 4 * suc n = omega arith in
    ap (λ (l : List Float). f32_at p at ∷ l) (f32s_next p n (4 + at) ∙ ap (λ (k : ℕ). f32s_at p n (4 + at) ++ (f32_at p k ∷ [])) e)

-- one more is read into the array t
pub read_next : (p : List ℕ) (at i : ℕ) (t : List Float) (x : Float) → i < length t → x ≡ f32_at p (at + 4 * i) → take i t ≡ f32s_at p i at → take (i + 1) (set t i x) ≡ f32s_at p (i + 1) at
read_next p at i t x h e r =
    ap (λ (k : ℕ). take k (set t i x)) (add-one i)
    ∙ take-suc-set t i x h
    ∙ ap (λ (l : List Float). l ++ (x ∷ [])) r
    ∙ ap (λ (y : Float). f32s_at p i at ++ (y ∷ [])) e
    ∙ sym (f32s_next p i at)
    ∙ ap (λ (k : ℕ). f32s_at p k at) (sym (add-one i))

-- all n are
pub read_all : (p : List ℕ) (at n i : ℕ) (t : List Float) → i ≤ n → n ≤ i → length t ≡ n → take i t ≡ f32s_at p i at → t ≡ f32s_at p n at
read_all p at n i t h k l r =
    let e : i ≡ n = omega arith in
    sym (take_all i t (omega arith)) ∙ r ∙ ap (λ (m : ℕ). f32s_at p m at) e
