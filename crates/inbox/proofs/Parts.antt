-- A cell's bytes as a part of the store. Assumes nothing.
use mathlib.Core.List.{List, [], ◌∷◌, ◌++◌, append-nil}
use mathlib.Core.Path.{◌≡◌, refl, sym, ap, ◌∙◌}
use Prim.Native.Nat.{ℕ, zero, suc, ◌+◌, ◌-◌, ◌*◌, ◌≤◌, ◌<◌}
use native.Mathlib.Omega.{arith}
use lib.ListN.{length, get_or, take, drop, length-drop, drop_of_length-le}
use lib.Seq.{length-take-le, take_all, take-take, drop-drop, get_or-take, get_or-drop}
use borrow.Author.Tests.{le-leb, lt-leb}
use borrow.Rule.Slice.PartMut.{put_mid}
use Rattle.inbox.specs.Messages.{announced}
use Rattle.inbox.specs.Stores.{cell_of, in_cell, body_size, message_of}

-- all that stands from a on
pub part_all : (s : List ℕ) (a : ℕ) → take (length s - a) (drop a s) ≡ drop a s
part_all s a = take_all (length s - a) (drop a s) (omega (arith, length-drop a s))

pub in_cell_lem : (s : List ℕ) (c : ℕ) (bs : List ℕ) → 6400 * c ≤ length s
    → put_mid (6400 * c) (length s - 6400 * c) s (bs ++ drop 6400 (take (length s - 6400 * c) (drop (6400 * c) s))) ≡ in_cell s c bs
in_cell_lem s c bs h =
    ap (λ (x : List ℕ). put_mid (6400 * c) (length s - 6400 * c) s (bs ++ drop 6400 x)) (part_all s (6400 * c))
    ∙ ap (λ (x : List ℕ). take (6400 * c) s ++ ((bs ++ drop 6400 (drop (6400 * c) s)) ++ x))
    (drop_of_length-le (drop (6400 * c) s) {i = length s - 6400 * c} (omega (arith, length-drop (6400 * c) s)))
    ∙ ap (λ (x : List ℕ). take (6400 * c) s ++ x) (append-nil (bs ++ drop 6400 (drop (6400 * c) s)))

-- ---- what is read of a cell
pub cell_length : (s : List ℕ) (c : ℕ) → 6400 * c + 6400 ≤ length s → length (cell_of s c) ≡ 6400
cell_length s c h = let n = length-drop (6400 * c) s in length-take-le 6400 (drop (6400 * c) s) (omega arith)

pub at_cell : (s : List ℕ) (c i : ℕ) → i < 6400 → get_or (cell_of s c) i 0 ≡ get_or s (6400 * c + i) 0
at_cell s c i a = get_or-take 6400 (drop (6400 * c) s) i 0 a ∙ get_or-drop (6400 * c) s i 0

-- the two bytes of the length, x the lower
pub announced_in : (s : List ℕ) (c x y : ℕ) → x ≡ get_or s (6400 * c) 0 → y ≡ get_or s (6400 * c + 1) 0 → x + 256 * y ≡ announced (cell_of s c)
announced_in s c x y p q =
    let z : 6400 * c + 0 ≡ 6400 * c = omega arith in
    let low = at_cell s c 0 (omega arith) ∙ ap (λ (i : ℕ). get_or s i 0) z in
    let high = at_cell s c 1 (omega arith) in
    omega arith

take_none : (m : ℕ) → ◌≡◌ {A = List ℕ} [] (take m [])
take_none zero = refl
take_none (suc m) = refl

drop_two : (m : ℕ) (l : List ℕ) → drop 2 (take (suc (suc m)) l) ≡ take m (drop 2 l)
drop_two m [] = take_none m
drop_two m (x ∷ []) = take_none m
drop_two m (x ∷ y ∷ l) = refl

-- the n bytes after the two of the length, as a part of the cell and of the store
body_in_lem : (s : List ℕ) (c n : ℕ) → n ≤ 2046 → take n (drop (6400 * c + 2) s) ≡ take n (drop 2 (cell_of s c))
body_in_lem s c n a =
    ap (take n) (sym (drop-drop 2 (6400 * c) s))
    ∙ sym (take-take n 6398 (drop 2 (drop (6400 * c) s)) (omega arith))
    ∙ ap (take n) (sym (drop_two 6398 (drop (6400 * c) s)))

module _ (s : List ℕ) (c n : ℕ) (q : n ≡ announced (cell_of s c)) where
  pub message_short : n ≤ 2046 → take n (drop (6400 * c + 2) s) ≡ message_of s c
  message_short a =
      let e : announced (cell_of s c) ≡ body_size (cell_of s c) = simp (le-leb (announced (cell_of s c)) 2046 (omega arith)) in
      body_in_lem s c n a ∙ ap (λ (x : ℕ). take x (drop 2 (cell_of s c))) (q ∙ e)

  pub message_long : 2046 < n → take 2046 (drop (6400 * c + 2) s) ≡ message_of s c
  message_long a =
      let e : 2046 ≡ body_size (cell_of s c) = simp (lt-leb (announced (cell_of s c)) 2046 (omega arith)) in
      body_in_lem s c 2046 (omega arith) ∙ ap (λ (x : ℕ). take x (drop 2 (cell_of s c))) e
