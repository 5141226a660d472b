-- Rows that are all equally long, joined: how long they are together, and what stands where. Assumes nothing.
use mathlib.Core.Path.{◌≡◌, refl, sym, ap, ◌∙◌}
use mathlib.Core.List.{List, [], ◌∷◌, ◌++◌, map, flat_map, flatten}
use Prim.Native.Nat.{ℕ, zero, suc, ◌+◌, ◌*◌, ◌≤◌, ◌<◌}
use native.Mathlib.Omega.{arith}
use lib.ListN.{length, get_or, take, drop, length-append, get_or-append}
use lib.Seq.{get_or-append-add, drop-append-add, length-take-le, take_at, drop_at, take-take, drop-drop, take-add, paste}
use Rattle.sheet.specs.Sheet.{counted}

-- ---- what a list is mapped to

pub length_map : {A B : Type 0} (f : A → B) (l : List A) → length (map f l) ≡ length l
length_map f [] = refl
length_map f (x ∷ l) = ap suc (length_map f l)

pub get_or_map : {A B : Type 0} (f : A → B) (l : List A) (i : ℕ) (d : A) (e : B) → i < length l → get_or (map f l) i e ≡ f (get_or l i d)
get_or_map f [] i d e h = absurd (omega arith)
get_or_map f (x ∷ l) zero d e h = refl
get_or_map f (x ∷ l) (suc i) d e h = get_or_map f l i d e (omega arith)

pub length_counted : (n i : ℕ) → length (counted n i) ≡ n
unfolding counted
length_counted zero i = refl
length_counted (suc n) i = ap suc (length_counted n (suc i))

pub get_or_counted : (n i j : ℕ) → j < n → get_or (counted n i) j 0 ≡ i + j
unfolding counted
get_or_counted zero i j h = absurd (omega arith)
get_or_counted (suc n) i zero h = omega arith
get_or_counted (suc n) i (suc j) h = omega (arith, get_or_counted n (suc i) j (omega arith))

-- ---- rows of m each, made from the elements of a list

module _ {A B : Type 0} (f : A → List B) (m : ℕ) (each : (x : A) → length (f x) ≡ m) where
  pub length_rows : (l : List A) → length (flat_map f l) ≡ m * length l
  unfolding flat_map
  length_rows [] = omega arith
  length_rows (x ∷ l) = length-append (f x) (flat_map f l) ∙ omega (arith, each x, length_rows l)

  pub get_or_rows : (l : List A) (i j : ℕ) (d : A) (e : B) → i < length l → j < m → get_or (flat_map f l) (m * i + j) e ≡ get_or (f (get_or l i d)) j e
  unfolding flat_map
  get_or_rows [] i j d e h k = absurd (omega arith)
  get_or_rows (x ∷ l) zero j d e h k =
      let z : m * 0 + j ≡ j = omega arith in
      ap (λ (n : ℕ). get_or (f x ++ flat_map f l) n e) z ∙ get_or-append (f x) (flat_map f l) e j (omega (arith, each x))
  get_or_rows (x ∷ l) (suc i) j d e h k =
      let z : m * suc i + j ≡ length (f x) + (m * i + j) = omega (arith, each x) in
      ap (λ (n : ℕ). get_or (f x ++ flat_map f l) n e) z
      ∙ get_or-append-add (f x) (flat_map f l) (m * i + j) e
      ∙ get_or_rows l i j d e (omega arith) k

-- ---- rows of m each, one after the other

-- each row has m
abbrev pub Even : {A : Type 0} → ℕ → List (List A) → Type 0
Even m rs = (k : ℕ) → k < length rs → length (get_or rs k []) ≡ m

module _ {A : Type 0} (m : ℕ) where
  pub length_flat : (rs : List (List A)) → Even m rs → length (flatten rs) ≡ m * length rs
  unfolding flatten
  length_flat [] h = omega arith
  length_flat (r ∷ rs) h =
      length-append r (flatten rs) ∙ omega (arith, h 0 (omega arith), length_flat rs (λ k p. h (suc k) (omega arith)))

  -- from row k on: row k, and the rows behind it
  pub drop_flat : (rs : List (List A)) (k : ℕ) → Even m rs → k < length rs → drop (m * k) (flatten rs) ≡ get_or rs k [] ++ drop (m * suc k) (flatten rs)
  unfolding flatten
  drop_flat [] k h p = absurd (omega arith)
  drop_flat (r ∷ rs) zero h p =
      let e : m * 0 ≡ 0 = omega arith in
      let q : m * 1 ≡ length r + 0 = omega (arith, h 0 (omega arith)) in
      ap (λ (n : ℕ). drop n (r ++ flatten rs)) e ∙ ap (λ (t : List A). r ++ t) (sym (ap (λ (n : ℕ). drop n (r ++ flatten rs)) q ∙ drop-append-add r (flatten rs) 0))
  drop_flat (r ∷ rs) (suc k) h p =
      let g = h 0 (omega arith) in
      let e : m * suc k ≡ length r + m * k = omega arith in
      let q : m * suc (suc k) ≡ length r + m * suc k = omega arith in
      ap (λ (n : ℕ). drop n (r ++ flatten rs)) e
      ∙ drop-append-add r (flatten rs) (m * k)
      ∙ drop_flat rs k (λ i z. h (suc i) (omega arith)) (omega arith)
      ∙ ap (λ (t : List A). get_or rs k [] ++ t) (sym (ap (λ (n : ℕ). drop n (r ++ flatten rs)) q ∙ drop-append-add r (flatten rs) (m * suc k)))

-- ---- a copy of the first n of s at the front of d, and then of the next m of s behind them

pub paste_on : (d s r : List ℕ) (n m : ℕ) → n ≤ length s → take m (drop n s) ≡ r → paste (paste d 0 s n) n r m ≡ paste d 0 s (n + m)
paste_on d s r n m h e =
    let z : 0 + n ≡ n = omega arith in
    let y : 0 + (n + m) ≡ n + m = omega arith in
    let l : length (take n s) ≡ n = length-take-le n s h in
    let front : take n (paste d 0 s n) ≡ take n s = take_at (take n s) (drop (0 + n) d) n l in
    let back : drop (n + m) (paste d 0 s n) ≡ drop (n + m) d =
    sym (drop-drop m n (paste d 0 s n)) ∙ ap (drop m) (drop_at (take n s) (drop (0 + n) d) n l ∙ ap (λ (i : ℕ). drop i d) z) ∙ drop-drop m n d in
    let mid : take m r ≡ take m (drop n s) = ap (take m) (sym e) ∙ take-take m m (drop n s) (omega arith) in
    rw (front, back, mid, ← take-add n m s, y)
