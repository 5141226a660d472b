-- What the statement says of a burst as a reader has it: where the words behind its head and wave read as frames, each of the type T_DOWN carries what was posted.
-- Assumes nothing.
use mathlib.Core.Path.{◌≡◌, refl, sym, ap, ◌∙◌, subst}
use Prim.Native.Nat.{ℕ, zero, suc, ◌+◌, ◌/◌, ◌%◌, ◌≤◌, ◌<◌}
use native.Mathlib.Omega.{arith}
use mathlib.Core.Bool.{Bool, true, false, cond, ◌&&◌}
use mathlib.Core.List.{List, [], ◌∷◌}
use lib.Dec.{eqb}
use lib.ListN.{length, take, drop, length-drop}
use lib.Seq.{length-take-le}
use borrow.Author.Tests.{eqb-true}
use Rattle.wire.specs.Kinds.{t_down}
use Rattle.words.specs.declared.Item.{Item}
use Rattle.words.specs.declared.Item.TheVariants.{End, Bad, Lost, Frame}
use Rattle.words.specs.Words.{Heard, lost, heard, Parsed, malformed, parsed, payload_ok, payload, frame_of, item_at, size_of, then_frames, no_more, frames_of}
use Rattle.laws.specs.Directed.{Carries, DownFrames}

-- p are the bytes posted to the boat in slot `flags % 64` from byte `field` on, as many as p has, none of them reported before
pub record Exactly (posted : ℕ → List ℕ) (told : ℕ → ℕ) (flags field : ℕ) (p : List ℕ) : Type 0 where
  pub slot : flags % 64 < 62
  pub within : field + length p ≤ length (posted (flags % 64))
  pub exact : p ≡ take (length p) (drop field (posted (flags % 64)))
  pub new : told (flags % 64) ≤ field

pub data AllExact (posted : ℕ → List ℕ) (told : ℕ → ℕ) : List Heard → Type 0 where
  none : AllExact posted told []
  lost_one : {fs : List Heard} → AllExact posted told fs → AllExact posted told (lost ∷ fs)
  more : {flags field : ℕ} {p : List ℕ} {fs : List Heard} → (flags / 64 ≡ t_down → Exactly posted told flags field p) → AllExact posted told fs
      → AllExact posted told (heard flags field p ∷ fs)

-- ---- what a frame's first word is

is_frame : Item → ℕ
is_frame End = 0
is_frame Bad = 0
is_frame Lost = 0
is_frame (Frame flags field len) = 1

flags_in : Item → ℕ
flags_in End = 0
flags_in Bad = 0
flags_in Lost = 0
flags_in (Frame flags field len) = flags

frame_flags : (w : ℕ) (ws : List ℕ) (flags field len : ℕ) → frame_of w ws ≡ Frame flags field len → w / 256 % 256 ≡ flags
unfolding frame_of is_frame flags_in
frame_flags w [] flags field len e = let z : ◌≡◌ {A = ℕ} 0 1 = ap is_frame e in absurd (omega arith)
frame_flags w (v ∷ ws) flags field len e = by (eqb (v / 16777216) 176 && payload_ok ws (w % 256)) e
  where
    by : (t : Bool) → cond t (Frame (w / 256 % 256) (v % 16777216) (w % 256)) Bad ≡ Frame flags field len → w / 256 % 256 ≡ flags
    by true e = ap flags_in e
    by false e = let z : ◌≡◌ {A = ℕ} 0 1 = ap is_frame e in absurd (omega arith)

first_word : (w : ℕ) (ws : List ℕ) (flags field len : ℕ) → item_at (w ∷ ws) ≡ Frame flags field len → (w / 65536 ≡ 0xa000) × (w / 256 % 256 ≡ flags)
unfolding item_at is_frame
first_word w ws flags field len e = by (eqb w 0xd0000000) (eqb (w / 65536) 0xa000) refl e
  where
    by : (a b : Bool) → eqb (w / 65536) 0xa000 ≡ b → cond a Lost (cond b (frame_of w ws) Bad) ≡ Frame flags field len → (w / 65536 ≡ 0xa000) × (w / 256 % 256 ≡ flags)
    by true b q e = let z : ◌≡◌ {A = ℕ} 0 1 = ap is_frame e in absurd (omega arith)
    by false true q e = (eqb-true (w / 65536) 0xa000 q, frame_flags w ws flags field len e)
    by false false q e = let z : ◌≡◌ {A = ℕ} 0 1 = ap is_frame e in absurd (omega arith)

module _ (posted : ℕ → List ℕ) (told : ℕ → ℕ) where
  -- of the words from any place on
  down_drop : (n : ℕ) (ws : List ℕ) → DownFrames posted told ws → DownFrames posted told (drop n ws)
  unfolding DownFrames
  down_drop zero ws d = d
  down_drop (suc n) [] d = d
  down_drop (suc n) (w ∷ ws) d = down_drop n ws d.1

  abbrev To : List ℕ → Item → Type 0
  To ws End = Unit {0}
  To ws Bad = Unit {0}
  To ws Lost = Unit {0}
  To ws (Frame flags field len) = Exactly posted told flags field (payload (drop 2 ws) len)

  carries_to : (ws : List ℕ) (f o n : ℕ) → f % 64 < 62 → o + n ≤ length (posted (f % 64)) → payload (drop 2 ws) n ≡ take n (drop o (posted (f % 64))) → told (f % 64) ≤ o
      → Exactly posted told f o (payload (drop 2 ws) n)
  carries_to ws f o n s w x t =
      let m : length (take n (drop o (posted (f % 64)))) ≡ n = length-take-le n (drop o (posted (f % 64))) (omega (arith, length-drop o (posted (f % 64)))) in
      let k : length (payload (drop 2 ws) n) ≡ n = ap (λ (l : List ℕ). length l) x ∙ m in
      record { slot = s; within = omega arith; exact = x ∙ ap (λ (j : ℕ). take j (drop o (posted (f % 64)))) (sym k); new = t }

  exactly : (ws : List ℕ) (flags field len : ℕ) → item_at ws ≡ Frame flags field len → Carries posted told ws → Exactly posted told flags field (payload (drop 2 ws) len)
  exactly ws flags field len e c = subst (To ws) (sym c.frame ∙ e) (carries_to ws c.flags c.field c.len c.slot c.within c.exact c.new)

  down_here : (ws : List ℕ) (flags field len : ℕ) → item_at ws ≡ Frame flags field len → DownFrames posted told ws → flags / 64 ≡ t_down
      → Exactly posted told flags field (payload (drop 2 ws) len)
  unfolding DownFrames item_at is_frame
  down_here [] flags field len e d t = let z : ◌≡◌ {A = ℕ} 0 1 = ap is_frame e in absurd (omega arith)
  down_here (w ∷ ws) flags field len e d t =
      let f = first_word w ws flags field len e in
      let a : w / 268435456 ≡ 10 = omega (arith, f.0) in
      let b : w / 16384 % 4 ≡ 1 = omega (arith, f.1) in
      exactly (w ∷ ws) flags field len e (d.0 (rw (a, b)))

  nothing_malformed : {fs : List Heard} → malformed ≡ parsed fs → ⊥
  nothing_malformed e = let z : ◌≡◌ {A = ℕ} 0 1 = cc in omega arith

  frames_by_lem : (i : Item) (ws : List ℕ) (rest : Parsed (List Heard)) (fs : List Heard) → item_at ws ≡ i → DownFrames posted told ws → ((gs : List Heard) → rest ≡ parsed gs → AllExact posted told gs)
      → then_frames i ws rest ≡ parsed fs → AllExact posted told fs
  frames_by_lem End ws rest fs q d f e = subst (AllExact posted told) (let z : [] ≡ fs = cc in z) AllExact.none
  frames_by_lem Bad ws rest fs q d f e = absurd (nothing_malformed e)
  frames_by_lem Lost ws malformed fs q d f e = absurd (nothing_malformed e)
  frames_by_lem Lost ws (parsed gs) fs q d f e = subst (AllExact posted told) (let z : lost ∷ gs ≡ fs = cc in z) (AllExact.lost_one (f gs refl))
  frames_by_lem (Frame flags field len) ws malformed fs q d f e = absurd (nothing_malformed e)
  frames_by_lem (Frame flags field len) ws (parsed gs) fs q d f e =
      subst (AllExact posted told) (let z : heard flags field (payload (drop 2 ws) len) ∷ gs ≡ fs = cc in z) (AllExact.more (down_here ws flags field len q d) (f gs refl))

  last_by : (i : Item) (fs : List Heard) → no_more i ≡ parsed fs → AllExact posted told fs
  last_by End fs e = subst (AllExact posted told) (let z : [] ≡ fs = cc in z) AllExact.none
  last_by Bad fs e = absurd (nothing_malformed e)
  last_by Lost fs e = absurd (nothing_malformed e)
  last_by (Frame flags field len) fs e = absurd (nothing_malformed e)

  -- every frame that is read
  pub all_exact : (k : ℕ) (ws : List ℕ) (fs : List Heard) → DownFrames posted told ws → frames_of k ws ≡ parsed fs → AllExact posted told fs
  unfolding frames_of
  all_exact zero ws fs d e = last_by (item_at ws) fs e
  all_exact (suc k) ws fs d e =
      frames_by_lem (item_at ws) ws (frames_of k (drop (size_of (item_at ws)) ws)) fs refl d
      (λ gs q. all_exact k (drop (size_of (item_at ws)) ws) gs (down_drop (size_of (item_at ws)) ws d) q) e

  -- from any place on among the words of a call, as behind the head and the wave of its burst
  pub exact_from : (n : ℕ) (ws : List ℕ) (fs : List Heard) → DownFrames posted told ws → frames_of 64 (drop n ws) ≡ parsed fs → AllExact posted told fs
  exact_from n ws fs d e = all_exact 64 (drop n ws) fs (down_drop n ws d) e
