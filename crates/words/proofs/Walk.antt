-- One step of a walk over the frames of a burst: with a frame left at a place, the item there is that frame, and the rest parses behind it.
-- Assumes nothing.
use Rattle.std.specs.Prelude.{Some, None}
use mathlib.Core.Path.{◌≡◌, refl, sym, ap, ◌∙◌, subst}
use mathlib.Core.Bool.{Bool, true, false, cond}
use mathlib.Core.List.{List, [], ◌∷◌}
use Prim.Native.Nat.{ℕ, zero, suc, ◌+◌, ◌-◌, ◌≤◌, ◌<◌}
use native.Mathlib.Omega.{arith}
use lib.ListN.{length, drop, get_or}
use lib.Seq.{drop-drop}
use Rattle.words.specs.declared.Item.{Item}
use Rattle.words.specs.declared.Item.TheVariants.{End, Bad, Lost, Frame}
use Rattle.words.specs.Words.{
  item_at,
  peek_at,
  size_of,
  Heard,
  lost,
  Parsed,
  malformed,
  parsed,
  Burst,
  then_frames,
  before,
  frames_of,
  burst_of,
  parse,
  shape_of,
  no_more,
  heard_of,
  head_ok,
  head_of,
}
use Rattle.words.proofs.Laws.{item_within}
use Rattle.words.proofs.Read.{peek_item}

parsed_same : (a b : List Heard) → parsed a ≡ parsed b → a ≡ b
parsed_same a b e = cc

pub never : {A : Type 0} {a : A} → malformed ≡ parsed a → ⊥
never e = let z : ◌≡◌ {A = ℕ} 0 1 = cc in omega arith

-- the frames fs begin with f, and go on with the rest
abbrev pub Goes : Heard → Parsed (List Heard) → List Heard → Type 0
Goes f rest fs = (tail : List Heard) × (fs ≡ f ∷ tail) × (rest ≡ parsed tail)

pub goes_before : (f : Heard) (rest : Parsed (List Heard)) (fs : List Heard) → before f rest ≡ parsed fs → Goes f rest fs
goes_before f malformed fs e = absurd (never e)
goes_before f (parsed tail) fs e = (tail, sym (parsed_same (f ∷ tail) fs e), refl)

none_left : (fs : List Heard) → parsed [] ≡ parsed fs → 0 < length fs → ⊥
none_left fs e h = let l : 0 ≡ length fs = ap length (parsed_same [] fs e) in omega arith

goes : (i : Item) (l : List ℕ) (rest : Parsed (List Heard)) (fs : List Heard) → then_frames i l rest ≡ parsed fs → 0 < length fs → Goes (heard_of i l) rest fs
goes End l rest fs e h = absurd (none_left fs e h)
goes Bad l rest fs e h = absurd (never e)
goes Lost l rest fs e h = goes_before lost rest fs e
goes (Frame a b n) l rest fs e h = goes_before _ rest fs e

bad_none : (i : Item) (l : List ℕ) (rest : Parsed (List Heard)) (fs : List Heard) → then_frames i l rest ≡ parsed fs → i ≡ Bad → ⊥
bad_none i l rest fs e b = never (sym (ap (λ (j : Item). then_frames j l rest) b) ∙ e)

-- what parses has no Bad at its head
pub not_bad : (k : ℕ) (l : List ℕ) (fs : List Heard) → frames_of k l ≡ parsed fs → item_at l ≡ Bad → ⊥
unfolding frames_of
not_bad zero l fs e b = never (sym (ap no_more b) ∙ e)
not_bad (suc k) l fs e b = bad_none (item_at l) l _ fs e b

count_none : (i : Item) (fs : List Heard) → no_more i ≡ parsed fs → length fs ≤ 0
count_none End fs q = let z : 0 ≡ length fs = ap length (parsed_same [] fs q) in omega arith
count_none Bad fs q = absurd (never q)
count_none Lost fs q = absurd (never q)
count_none (Frame a b n) fs q = absurd (never q)

-- at most k frames
pub frames_count : (k : ℕ) (l : List ℕ) (fs : List Heard) → frames_of k l ≡ parsed fs → length fs ≤ k
unfolding frames_of
frames_count zero l fs e = count_none (item_at l) fs e
frames_count (suc k) l [] e = omega arith
frames_count (suc k) l (f ∷ fs) e =
    let g = goes (item_at l) l (frames_of k (drop (size_of (item_at l)) l)) (f ∷ fs) e (omega arith) in
    let n : suc (length fs) ≡ suc (length g.0) = ap length g.1 in
    let r = frames_count k (drop (size_of (item_at l)) l) g.0 g.2 in
    omega arith

-- ### Where a walk begins

-- the burst's head is that of its first word, and its frames are what stands behind it
pub record Opened (ws : List ℕ) (b : Burst) : Type 0 where
  pub head : b.head ≡ head_of (get_or ws 0 0)
  pub ok : head_ok (get_or ws 0 0) ≡ true
  pub frames : frames_of 64 (drop 1 ws) ≡ parsed b.frames
  pub room : 1 ≤ length ws

opened_by : (w : ℕ) (ws : List ℕ) (b : Burst) (p : Parsed (List Heard)) → frames_of 64 ws ≡ p → (t : Bool) → head_ok w ≡ t
    → cond t (burst_of w p) malformed ≡ parsed b → Opened (w ∷ ws) b
opened_by w ws b p q false o e = absurd (never e)
opened_by w ws b malformed q true o e = absurd (never e)
opened_by w ws b (parsed fs) q true o e =
    let s : record { head = head_of w; frames = fs } ≡ b = cc in
    record { head = ap (λ (x : Burst). x.head) (sym s); ok = o; frames = q ∙ ap (λ (x : Burst). parsed x.frames) s; room = omega arith }

pub opened : (ws : List ℕ) (b : Burst) → parse ws ≡ parsed b → Opened ws b
unfolding parse
opened [] b e = absurd (never e)
opened (w ∷ ws) b e = opened_by w ws b (frames_of 64 ws) refl (head_ok w) refl e

frames_same : (a b : ℕ) → Some a ≡ Some b → a ≡ b
frames_same a b e = cc

no_frames : (b : ℕ) → None ≡ Some b → ⊥
no_frames b e = let z : ◌≡◌ {A = ℕ} 0 1 = cc in omega arith

-- what `shape_of` found to be n frames is a burst of n frames
pub shaped : (p : Parsed Burst) (n : ℕ) → shape_of p ≡ Some n → (b : Burst) × (p ≡ parsed b) × (length b.frames ≡ n)
shaped malformed n e = absurd (no_frames n e)
shaped (parsed b) n e = (b, refl, frames_same (length b.frames) n e)

-- ### A walk

-- the frames fs are left, from the word at `at` on, k of the burst's n frames having been passed
pub record Left (ws : List ℕ) (n at k : ℕ) (fs : List Heard) : Type 0 where
  pub rest : frames_of (64 - k) (drop at ws) ≡ parsed fs
  pub count : k + length fs ≡ n
  pub most : n ≤ 64
  pub within : at ≤ length ws

pub left_start : (ws : List ℕ) (b : Burst) → parse ws ≡ parsed b → Left ws (length b.frames) 1 0 b.frames
left_start ws b e =
    let o = opened ws b e in
    record { rest = o.frames; count = omega arith; most = frames_count 64 (drop 1 ws) b.frames o.frames; within = o.room }

-- the same from what `shape_of` found
pub left_shape : (ws : List ℕ) (n : ℕ) → shape_of (parse ws) ≡ Some n → (b : Burst) × (parse ws ≡ parsed b) × Left ws n 1 0 b.frames
left_shape ws n e = by (shaped (parse ws) n e)
  where
    by : (b : Burst) × (parse ws ≡ parsed b) × (length b.frames ≡ n) → (b : Burst) × (parse ws ≡ parsed b) × Left ws n 1 0 b.frames
    by (b, p, h) = (b, p, subst (λ (m : ℕ). Left ws m 1 0 b.frames) h (left_start ws b p))

module _ {ws : List ℕ} {n at k : ℕ} {fs : List Heard} (l : Left ws n at k fs) where
  -- `peek` sees what `item_at` sees
  pub left_peek : peek_at (drop at ws) ≡ item_at (drop at ws)
  left_peek = peek_item (drop at ws) (not_bad (64 - k) (drop at ws) fs l.rest)

  turn : (i : Item) (size : ℕ) → i ≡ item_at (drop at ws) → size ≡ size_of i → k < n
      → Goes (heard_of i (drop at ws)) (frames_of (64 - (k + 1)) (drop (at + size) ws)) fs
  unfolding frames_of
  turn i size here sized h =
      let s : 64 - k ≡ suc (64 - (k + 1)) = omega arith in
      goes i (drop at ws) (frames_of (64 - (k + 1)) (drop (at + size) ws)) fs (rw (here, ← drop-drop, sized, here) (rw s at l.rest)) (omega arith)

  on_by : {i : Item} {size : ℕ} → i ≡ item_at (drop at ws) → size ≡ size_of i → Goes (heard_of i (drop at ws)) (frames_of (64 - (k + 1)) (drop (at + size) ws)) fs
      → (tail : List Heard) × (fs ≡ heard_of i (drop at ws) ∷ tail) × Left ws n (at + size) (k + 1) tail
  on_by {i} {size} here sized (tail, e, r) =
      let m : length fs ≡ suc (length tail) = ap length e in
      (tail, e, record { rest = r; count = omega arith; most = l.most; within = item_within ws at i size l.within here sized })

  -- with a frame left, it is that of the item i at the place, and the others are left behind it
  pub left_on : (i : Item) (size : ℕ) → i ≡ item_at (drop at ws) → size ≡ size_of i → k < n
      → (tail : List Heard) × (fs ≡ heard_of i (drop at ws) ∷ tail) × Left ws n (at + size) (k + 1) tail
  left_on i size here sized h = on_by here sized (turn i size here sized h)

  -- with a frame left, the words do not end
  pub left_some : k < n → item_at (drop at ws) ≡ End → ⊥
  unfolding frames_of
  left_some h e =
      let s : 64 - k ≡ suc (64 - (k + 1)) = omega arith in
      none_left fs (sym (ap (λ (i : Item). then_frames i (drop at ws) (frames_of (64 - (k + 1)) (drop (size_of (item_at (drop at ws))) (drop at ws)))) e) ∙ (rw s at l.rest))
      (omega arith)

  pub left_none : n ≤ k → fs ≡ []
  left_none h = empty fs (omega arith)
    where
      empty : (gs : List Heard) → length gs ≤ 0 → gs ≡ []
      empty [] z = refl
      empty (f ∷ gs) z = absurd (omega arith)
