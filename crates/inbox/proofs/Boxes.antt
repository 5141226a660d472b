-- A cell's numbers and bytes do what the definition over lists does: `box_accept`. Assumes nothing.
use mathlib.Core.Bool.{Bool, true, false, cond, ◌&&◌}
use mathlib.Core.List.{List, ◌∷◌, ◌++◌}
use mathlib.Core.Logic.{⊎_elim}
use mathlib.Core.Path.{◌≡◌, refl, sym, ap, ap₂, ◌∙◌, subst}
use Prim.Native.Nat.{ℕ, zero, suc, ◌+◌, ◌-◌, ◌≤◌, ◌<◌}
use native.Mathlib.Omega.{arith}
use lib.Dec.{leb, ltb, eqb}
use lib.ListN.{length, get_or, set, take, drop, length-set, length-drop}
use lib.Seq.{paste, length-paste, take-paste, take_all, length-take-le, get_or-take, get_or-drop, get_or-set_same, get_or-set_other, ext_get_or}
use borrow.Author.Tests.{ltb-true, leb-true, leb-false, le-leb}
use Rattle.bits.proofs.Lists.{le_or_lt, eq_or_not, paste_below, paste_in, paste_above}
use Rattle.inbox.specs.Box.{Box, none, piece, off, len, end, at_off, done, nearer, following, more, put, drain, keep, take_in, piece_of, pieces_of, box_of}
use Rattle.inbox.specs.Cells.{Held, offset, size, end_at, place, better, next, grow, rest, settle, store, await, accept, place_at, free_place, next_place}
use Rattle.inbox.specs.Messages.{Piece}
use Rattle.inbox.proofs.Apart.{Shape, grow_shape, rest_small}
use Rattle.inbox.proofs.Search.{Goes, seek_ext}
use Rattle.inbox.proofs.Steps.{goes_next}

cond_cong : {A : Type 0} (t : Bool) (a a' b b' : A) → (t ≡ true → a ≡ a') → (t ≡ false → b ≡ b') → cond t a b ≡ cond t a' b'
cond_cong true a a' b b' f g = f refl
cond_cong false a a' b b' f g = g refl

box_cond : (t : Bool) (a b : Held) → box_of (cond t a b) ≡ cond t (box_of a) (box_of b)
box_cond true a b = refl
box_cond false a b = refl

with_true : (a b : Bool) → b ≡ true → a && b ≡ a
with_true true b e = e
with_true false b e = refl

-- two parts that agree at each index
part_same : (d d' : List ℕ) (a m : ℕ) → a + m ≤ length d → a + m ≤ length d' → ((j : ℕ) → j < m → get_or d (a + j) 0 ≡ get_or d' (a + j) 0)
    → take m (drop a d) ≡ take m (drop a d')
part_same d d' a m h h' eq =
    let n = length-drop a d in
    let n' = length-drop a d' in
    let l : length (take m (drop a d)) ≡ m = length-take-le m (drop a d) (omega arith) in
    let l' : length (take m (drop a d')) ≡ m = length-take-le m (drop a d') (omega arith) in
    ext_get_or 0 (take m (drop a d)) (take m (drop a d')) (l ∙ sym l')
    (λ i b.
    get_or-take m (drop a d) i 0 (omega arith)
    ∙ get_or-drop a d i 0
    ∙ eq i (omega arith)
    ∙ sym (get_or-take m (drop a d') i 0 (omega arith) ∙ get_or-drop a d' i 0))

-- ---- the places
pieces_length : (h : Held) (n k : ℕ) → length (pieces_of h n k) ≡ n
unfolding pieces_of
pieces_length h zero k = refl
pieces_length h (suc n) k = ap suc (pieces_length h n (k + 1))

pieces_at : (h : Held) (n k i : ℕ) → i < n → get_or (pieces_of h n k) i none ≡ piece_of h (k + i)
unfolding pieces_of
pieces_at h zero k i a = absurd (omega arith)
pieces_at h (suc n) k zero a = let q : k ≡ k + 0 = omega arith in ap (piece_of h) q
pieces_at h (suc n) k (suc i) a =
    let q : k + 1 + i ≡ k + suc i = omega arith in
    pieces_at h n (k + 1) i (omega arith) ∙ ap (piece_of h) q

piece_is : (h : Held) (k : ℕ) → k < 16 → piece (box_of h) k ≡ piece_of h k
piece_is h k a = let q : 0 + k ≡ k = omega arith in pieces_at h 16 0 k a ∙ ap (piece_of h) q

places_cong : (h h' : Held) (n k : ℕ) → k + n ≤ 16 → ((i : ℕ) → i < 16 → piece_of h i ≡ piece_of h' i) → pieces_of h n k ≡ pieces_of h' n k
unfolding pieces_of
places_cong h h' zero k a eq = refl
places_cong h h' (suc n) k a eq = ap₂ (λ (x : Piece) (xs : List Piece). x ∷ xs) (eq k (omega arith)) (places_cong h h' n (k + 1) (omega arith) eq)

abbrev box : List ℕ → List Piece → Box
box j ps = record { joined = j; places = ps }

abbrev a_piece : ℕ → List ℕ → Piece
a_piece o x = record { off = o; bytes = x }

module _ (m : ℕ) (room : 6144 ≤ m) where
  end_is : (h : Held) → Shape m h → end (box_of h) ≡ h.cell.joined
  end_is h f = let a = f.0.joined in let l = f.1 in length-take-le h.cell.joined h.bytes (omega arith)

  off_is : (h : Held) (k : ℕ) → k < 16 → off (box_of h) k ≡ offset h.cell k
  off_is h k a = ap (λ (p : Piece). p.off) (piece_is h k a)

  len_is : (h : Held) → Shape m h → (k : ℕ) → k < 16 → len (box_of h) k ≡ size h.cell k
  len_is h f k a =
      let s = f.0.short k a in
      let l = f.1 in
      let d = length-drop (place k) h.bytes in
      ap (λ (p : Piece). length p.bytes) (piece_is h k a) ∙ length-take-le (size h.cell k) (drop (place k) h.bytes) (omega arith)

  -- ---- the searches find the same
  at_same : (h : Held) → Shape m h → (o : ℕ) → at_off (box_of h) o ≡ place_at h.cell o
  at_same h f o = seek_ext _ _ 16 0 (λ k a. ap (λ (x : ℕ). eqb x o) (off_is h k (omega arith)))

  done_same : (h : Held) → Shape m h → done (box_of h) ≡ free_place h.cell
  done_same h f =
      seek_ext _ _ 16 0
      (λ k a.
      ap (λ (x : ℕ). leb (x + len (box_of h) k) (end (box_of h))) (off_is h k (omega arith))
      ∙ ap (λ (x : ℕ). leb (offset h.cell k + x) (end (box_of h))) (len_is h f k (omega arith))
      ∙ ap (λ (x : ℕ). leb (end_at h.cell k) x) (end_is h f))

  nearer_same : (h : Held) → Shape m h → (k o : ℕ) → k < 16 → nearer (box_of h) k o ≡ better h.cell k o
  nearer_same h f k o a =
      let e = f.0.ends k a in
      ap (λ (x : ℕ). leb x (end (box_of h)) && ltb (end (box_of h)) (x + len (box_of h) k) && leb o x) (off_is h k a)
      ∙ ap (λ (x : ℕ). leb (offset h.cell k) (end (box_of h)) && ltb (end (box_of h)) (offset h.cell k + x) && leb o (offset h.cell k)) (len_is h f k a)
      ∙ ap (λ (x : ℕ). leb (offset h.cell k) x && ltb x (end_at h.cell k) && leb o (offset h.cell k)) (end_is h f)
      ∙ sym (ap (λ (t : Bool). t && leb o (offset h.cell k)) (with_true (leb (offset h.cell k) h.cell.joined && ltb h.cell.joined (end_at h.cell k)) _ (le-leb _ _ e)))

  following_same : (h : Held) → Shape m h → (n k x o : ℕ) → k + n ≤ 16 → following n (box_of h) k x o ≡ next n h.cell k x o
  unfolding following next
  following_same h f zero k x o a = refl
  following_same h f (suc n) k x o a =
      ap (λ (t : Bool). following n (box_of h) (k + 1) (cond t k x) (cond t (off (box_of h) k) o)) (nearer_same h f k o (omega arith))
      ∙ ap (λ (y : ℕ). following n (box_of h) (k + 1) (cond (better h.cell k o) k x) (cond (better h.cell k o) y o)) (off_is h k (omega arith))
      ∙ following_same h f n (k + 1) (cond (better h.cell k o) k x) (cond (better h.cell k o) (offset h.cell k) o) (omega arith)

  -- ---- bytes joined
  more_same : (h : Held) → Shape m h → (s : List ℕ) → h.cell.joined + length s ≤ 2048 → box_of (grow h s) ≡ more (box_of h) s
  unfolding grow
  more_same h f s a =
      let l : length h.bytes ≡ m = f.1 in
      let e : ℕ = h.cell.joined in
      let hd : h.cell.joined ≤ length h.bytes = omega arith in
      let pl : length (paste h.bytes h.cell.joined s (length s)) ≡ length h.bytes = length-paste h.bytes h.cell.joined s (length s) (omega arith) (omega arith) in
      ap₂ box
      (take-paste h.bytes h.cell.joined s (length s) hd (omega arith)
      ∙ ap (λ (x : List ℕ). take h.cell.joined h.bytes ++ x) (take_all (length s) s (omega arith)))
      (places_cong (grow h s) h 16 0 (omega arith)
      (λ k b.
      let sh = f.0.short k b in
      ap (λ (x : List ℕ). a_piece (offset h.cell k) x)
      (part_same (paste h.bytes h.cell.joined s (length s)) h.bytes (place k) (size h.cell k) (omega arith) (omega arith)
      (λ j c. paste_above h.bytes h.cell.joined s (length s) hd (omega arith) (place k + j) (omega arith)))))

  -- ---- a piece put to wait
  here : (h : Held) → Shape m h → (k o : ℕ) (p : List ℕ) → k < 16 → length p ≤ 255 → place k ≤ length h.bytes
      → piece_of (store h k o p) k ≡ a_piece o p
  unfolding store
  here h f k o p a s hd =
      let l : length h.bytes ≡ m = f.1 in
      let eo = f.0.offs in
      let el = f.0.lens in
      let pl : length (paste h.bytes (place k) p (length p)) ≡ length h.bytes = length-paste h.bytes (place k) p (length p) (omega arith) (omega arith) in
      let d = length-drop (place k) (paste h.bytes (place k) p (length p)) in
      let t : length (take (length p) (drop (place k) (paste h.bytes (place k) p (length p)))) ≡ length p = length-take-le _ _ (omega arith) in
      ap (λ (x : ℕ). a_piece x (take (get_or (set h.cell.lengths k (length p)) k 0) (drop (place k) (paste h.bytes (place k) p (length p))))) (get_or-set_same h.cell.offsets k o 0 (omega arith))
      ∙ ap (λ (x : ℕ). a_piece o (take x (drop (place k) (paste h.bytes (place k) p (length p))))) (get_or-set_same h.cell.lengths k (length p) 0 (omega arith))
      ∙ ap (λ (x : List ℕ). a_piece o x)
      (ext_get_or 0 (take (length p) (drop (place k) (paste h.bytes (place k) p (length p)))) p t
      (λ i b.
      get_or-take (length p) (drop (place k) (paste h.bytes (place k) p (length p))) i 0 (omega arith)
      ∙ get_or-drop (place k) (paste h.bytes (place k) p (length p)) i 0
      ∙ paste_in h.bytes (place k) p (length p) hd (omega arith) i (omega arith)))

  there : (h : Held) → Shape m h → (k o : ℕ) (p : List ℕ) → k < 16 → length p ≤ 255 → place k ≤ length h.bytes
      → length (paste h.bytes (place k) p (length p)) ≡ length h.bytes → (i : ℕ) → i < 16 → (i ≡ k → ⊥)
      → piece_of (store h k o p) i ≡ piece_of h i
  unfolding store
  there h f k o p a s hd pl i b z =
      let l : length h.bytes ≡ m = f.1 in
      let sh = f.0.short i b in
      ap (λ (x : ℕ). a_piece x (take (get_or (set h.cell.lengths k (length p)) i 0) (drop (place i) (paste h.bytes (place k) p (length p))))) (get_or-set_other h.cell.offsets k i o 0 z)
      ∙ ap (λ (x : ℕ). a_piece (offset h.cell i) (take x (drop (place i) (paste h.bytes (place k) p (length p))))) (get_or-set_other h.cell.lengths k i (length p) 0 z)
      ∙ ap (λ (x : List ℕ). a_piece (offset h.cell i) x)
      (part_same (paste h.bytes (place k) p (length p)) h.bytes (place i) (size h.cell i) (omega arith) (omega arith)
      (λ j c.
      ⊎_elim (λ d.
      ⊎_elim (λ e. absurd (z (omega arith)))
      (λ e. paste_below h.bytes (place k) p (length p) hd (omega arith) (place i + j) (omega arith)) (le_or_lt k i))
      (λ d. paste_above h.bytes (place k) p (length p) hd (omega arith) (place i + j) (omega arith)) (le_or_lt i k)))

  put_same : (h : Held) → Shape m h → (k o : ℕ) (p : List ℕ) → k < 16 → length p ≤ 255 → box_of (store h k o p) ≡ put (box_of h) k o p
  unfolding store
  put_same h f k o p a s =
      let l : length h.bytes ≡ m = f.1 in
      let j = f.0.joined in
      let hd : place k ≤ length h.bytes = omega arith in
      let pl : length (paste h.bytes (place k) p (length p)) ≡ length h.bytes = length-paste h.bytes (place k) p (length p) (omega arith) (omega arith) in
      ap₂ box
      (part_same (paste h.bytes (place k) p (length p)) h.bytes 0 h.cell.joined (omega arith) (omega arith)
      (λ i b. let q : 0 + i ≡ i = omega arith in subst (λ (x : ℕ). get_or (paste h.bytes (place k) p (length p)) x 0 ≡ get_or h.bytes x 0) (sym q) (paste_below h.bytes (place k) p (length p) hd (omega arith) i (omega arith))))
      (ext_get_or none (pieces_of (store h k o p) 16 0) (set (pieces_of h 16 0) k (a_piece o p))
      (pieces_length (store h k o p) 16 0 ∙ sym (length-set (pieces_of h 16 0) k (a_piece o p) ∙ pieces_length h 16 0))
      (λ i b.
      let n = pieces_length (store h k o p) 16 0 in
      let n' = pieces_length h 16 0 in
      piece_is (store h k o p) i (omega arith)
      ∙ ⊎_elim (λ q.
      ap (piece_of (store h k o p)) q
      ∙ here h f k o p a s hd
      ∙ sym (get_or-set_same (pieces_of h 16 0) k (a_piece o p) none (omega arith))
      ∙ ap (λ (x : ℕ). get_or (set (pieces_of h 16 0) k (a_piece o p)) x none) (sym q))
      (λ z.
      there h f k o p a s hd pl i (omega arith) z
      ∙ sym (piece_is h i (omega arith))
      ∙ sym (get_or-set_other (pieces_of h 16 0) k i (a_piece o p) none z))
      (eq_or_not i k)))

  -- ---- the pieces that come into reach
  rest_same : (h : Held) → Shape m h → (k : ℕ) → k < 16 → Goes h.cell k
      → rest h k ≡ drop (end (box_of h) - off (box_of h) k) (piece (box_of h) k).bytes
  rest_same h f k a g =
      let l : length h.bytes ≡ m = f.1 in
      let sh = f.0.short k a in
      let d₁ = length-drop (place k) h.bytes in
      let d₂ = length-drop (place k + (h.cell.joined - offset h.cell k)) h.bytes in
      let t : length (take (size h.cell k) (drop (place k) h.bytes)) ≡ size h.cell k = length-take-le _ _ (omega arith) in
      let d₃ = length-drop (h.cell.joined - offset h.cell k) (take (size h.cell k) (drop (place k) h.bytes)) in
      let n : length (rest h k) ≡ offset h.cell k + size h.cell k - h.cell.joined = length-take-le _ _ (omega arith) in
      ext_get_or 0 (rest h k) (drop (h.cell.joined - offset h.cell k) (take (size h.cell k) (drop (place k) h.bytes))) (omega arith)
      (λ i b.
      let q : place k + (h.cell.joined - offset h.cell k) + i ≡ place k + (h.cell.joined - offset h.cell k + i) = omega arith in
      get_or-take (offset h.cell k + size h.cell k - h.cell.joined) (drop (place k + (h.cell.joined - offset h.cell k)) h.bytes) i 0 (omega arith)
      ∙ get_or-drop (place k + (h.cell.joined - offset h.cell k)) h.bytes i 0
      ∙ ap (λ (x : ℕ). get_or h.bytes x 0) q
      ∙ sym (get_or-drop (h.cell.joined - offset h.cell k) (take (size h.cell k) (drop (place k) h.bytes)) i 0
      ∙ get_or-take (size h.cell k) (drop (place k) h.bytes) (h.cell.joined - offset h.cell k + i) 0 (omega arith)
      ∙ get_or-drop (place k) h.bytes (h.cell.joined - offset h.cell k + i) 0))
      ∙ ap (λ (p : Piece). drop (h.cell.joined - p.off) p.bytes) (sym (piece_is h k a))
      ∙ ap (λ (x : ℕ). drop (x - off (box_of h) k) (piece (box_of h) k).bytes) (sym (end_is h f))

  drain_same : (n : ℕ) (h : Held) → Shape m h → box_of (settle n h) ≡ drain n (box_of h)
  unfolding settle drain
  drain_same zero h f = refl
  drain_same (suc n) h f =
      box_cond (ltb (next_place h.cell) 16) (settle n (grow h (rest h (next_place h.cell)))) h
      ∙ cond_cong (ltb (next_place h.cell) 16) (box_of (settle n (grow h (rest h (next_place h.cell)))))
      (drain n (more (box_of h) (drop (end (box_of h) - off (box_of h) (next_place h.cell)) (piece (box_of h) (next_place h.cell)).bytes)))
      (box_of h) (box_of h)
      (λ e.
      let a : next_place h.cell < 16 = ltb-true _ _ e in
      let g = goes_next h.cell a in
      let s = rest_small h (next_place h.cell) g in
      drain_same n (grow h (rest h (next_place h.cell))) (grow_shape m room h (rest h (next_place h.cell)) f s)
      ∙ ap (drain n) (more_same h f (rest h (next_place h.cell)) s ∙ ap (more (box_of h)) (rest_same h f (next_place h.cell) a g)))
      (λ e. refl)
      ∙ ap (λ (x : ℕ). cond (ltb x 16) (drain n (more (box_of h) (drop (end (box_of h) - off (box_of h) x) (piece (box_of h) x).bytes))) (box_of h))
      (sym (following_same h f 16 0 16 0 (omega arith)))

  keep_same : (h : Held) → Shape m h → (o : ℕ) (p : List ℕ) → length p ≤ 255 → box_of (await h o p) ≡ keep (box_of h) o p
  unfolding await keep
  keep_same h f o p s =
      box_cond (ltb i 16) (cond (ltb (size h.cell i) (length p)) (store h i o p) h) (cond (ltb j 16) (store h j o p) h)
      ∙ cond_cong (ltb i 16)
      (box_of (cond (ltb (size h.cell i) (length p)) (store h i o p) h))
      (cond (ltb (len (box_of h) i) (length p)) (put (box_of h) i o p) (box_of h))
      (box_of (cond (ltb j 16) (store h j o p) h))
      (cond (ltb j 16) (put (box_of h) j o p) (box_of h))
      (λ e.
      box_cond (ltb (size h.cell i) (length p)) (store h i o p) h
      ∙ ap (λ (x : Box). cond (ltb (size h.cell i) (length p)) x (box_of h)) (put_same h f i o p (ltb-true _ _ e) s)
      ∙ ap (λ (x : ℕ). cond (ltb x (length p)) (put (box_of h) i o p) (box_of h)) (sym (len_is h f i (ltb-true _ _ e))))
      (λ e.
      box_cond (ltb j 16) (store h j o p) h
      ∙ cond_cong (ltb j 16) (box_of (store h j o p)) (put (box_of h) j o p) (box_of h) (box_of h) (λ d. put_same h f j o p (ltb-true _ _ d) s) (λ d. refl))
      ∙ ap (λ (x : ℕ). cond (ltb x 16) (cond (ltb (len (box_of h) x) (length p)) (put (box_of h) x o p) (box_of h)) (cond (ltb j 16) (put (box_of h) j o p) (box_of h)))
      (sym (at_same h f o))
      ∙ ap (λ (x : ℕ). cond (ltb (at_off (box_of h) o) 16) (cond (ltb (len (box_of h) (at_off (box_of h) o)) (length p)) (put (box_of h) (at_off (box_of h) o) o p) (box_of h)) (cond (ltb x 16) (put (box_of h) x o p) (box_of h)))
      (sym (done_same h f))
    where
      i : ℕ
      i = place_at h.cell o

      j : ℕ
      j = free_place h.cell

  -- a cell's numbers and bytes do what the definition over lists does
  pub box_accept : (h : Held) → Shape m h → (o : ℕ) (p : List ℕ) → length p ≤ 255 → o + length p ≤ 2048
      → box_of (accept h o p) ≡ take_in (box_of h) o p
  unfolding accept take_in
  box_accept h f o p s e =
      box_cond (leb (o + length p) j) h (cond (eqb (length p) 0) h (cond (leb o j) (settle 2048 (grow h (drop (j - o) p))) (await h o p)))
      ∙ ap (λ (x : Box). cond (leb (o + length p) j) (box_of h) x)
      (box_cond (eqb (length p) 0) h (cond (leb o j) (settle 2048 (grow h (drop (j - o) p))) (await h o p)))
      ∙ ap (λ (x : Box). cond (leb (o + length p) j) (box_of h) (cond (eqb (length p) 0) (box_of h) x))
      (box_cond (leb o j) (settle 2048 (grow h (drop (j - o) p))) (await h o p))
      ∙ cond_cong (leb (o + length p) j) (box_of h) (box_of h)
      (cond (eqb (length p) 0) (box_of h) (cond (leb o j) (box_of (settle 2048 (grow h (drop (j - o) p)))) (box_of (await h o p))))
      (cond (eqb (length p) 0) (box_of h) (cond (leb o j) (drain 2048 (more (box_of h) (drop (j - o) p))) (keep (box_of h) o p)))
      (λ t. refl)
      (λ t.
      let a : j < o + length p = leb-false _ _ t in
      ap (λ (x : Box). cond (eqb (length p) 0) (box_of h) x)
      (cond_cong (leb o j) (box_of (settle 2048 (grow h (drop (j - o) p)))) (drain 2048 (more (box_of h) (drop (j - o) p)))
      (box_of (await h o p)) (keep (box_of h) o p)
      (λ u.
      let b : o ≤ j = leb-true _ _ u in
      let n = length-drop (j - o) p in
      let small : h.cell.joined + length (drop (j - o) p) ≤ 2048 = omega arith in
      drain_same 2048 (grow h (drop (j - o) p)) (grow_shape m room h (drop (j - o) p) f small)
      ∙ ap (drain 2048) (more_same h f (drop (j - o) p) small))
      (λ u. keep_same h f o p s)))
      ∙ ap (λ (x : ℕ). cond (leb (o + length p) x) (box_of h) (cond (eqb (length p) 0) (box_of h) (cond (leb o x) (drain 2048 (more (box_of h) (drop (x - o) p))) (keep (box_of h) o p))))
      (sym (end_is h f))
    where
      j : ℕ
      j = h.cell.joined
