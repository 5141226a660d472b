-- The walk over the words of marks is check 27. Assumes nothing.
use mathlib.Core.Path.{◌≡◌, refl, ap, ◌∙◌}
use mathlib.Core.Bool.{Bool, true, false, not, cond, ◌&&◌}
use mathlib.Core.List.{List, [], ◌∷◌}
use Prim.Native.Nat.{ℕ, zero, suc, ◌-◌, ◌%◌, ◌≤◌, ◌<◌}
use native.Mathlib.Omega.{arith}
use lib.Dec.{eqb}
use borrow.Author.Tests.{ne_eqb, lt-ltb, le-ltb}
use Rattle.bits.specs.Mask.{has_bit, with_bit}
use Rattle.bits.proofs.Lists.{cond_false}
use Rattle.logs.specs.declared.Marks.{Marks}
use Rattle.logs.specs.Reading.{is_mark, mark_ok, slot_ok, list_ok, marks_from, marks_ok}
use Rattle.std.specs.Prelude.{Option, Some, None}
use Rattle.logs.specs.Steps.{on, walk, marks, count_step, slot_fits, slot_step, mark_step, marks_end}
use Rattle.logs.proofs.Sets.{Same, same_none, same_with}

-- the walk goes on behind a word
abbrev ends : Option Marks → List ℕ → Bool
ends x ws = marks_end (on x (λ m. walk mark_step m ws))

abbrev Ends : List ℕ → ℕ → ℕ → List ℕ → Type 0
Ends ws left m l = ends (Some (marks left m)) ws ≡ list_ok l left ws && marks_from left ws

counted : (w m : ℕ) (ws : List ℕ) (a b : Bool) → Ends ws (w % 64) 0 [] → ends (Some (marks 0 m)) ws ≡ marks_from 0 ws
    → ends (cond a (cond b (Some (marks (w % 64) 0)) None) (Some (marks 0 m))) ws
    ≡ cond a (b && (list_ok [] (w % 64) ws && marks_from (w % 64) ws)) (marks_from 0 ws)
counted w m ws true true f g = f
counted w m ws true false f g = refl
counted w m ws false b f g = g

read : (x n m : ℕ) (l ws : List ℕ) (b : Bool) → Ends ws n (with_bit m x) (x ∷ l)
    → ends (cond b (Some (marks n (with_bit m x))) None) ws ≡ (b && list_ok (x ∷ l) n ws) && marks_from n ws
read x n m l ws true f = f
read x n m l ws false f = refl

step_is : (n m w : ℕ) (b : Bool) → slot_fits m w ≡ b → mark_step (marks (suc n) m) w ≡ cond b (Some (marks n (with_bit m (w % 64)))) None
unfolding mark_step slot_step
step_is n m w b e = let k : suc n - 1 ≡ n = omega arith in cond_false (eqb (suc n) 0) _ _ (ne_eqb (suc n) 0 (λ q. omega arith)) ∙ rw (e, k)

pub walked : (ws : List ℕ) (left m : ℕ) (l : List ℕ) → Same m l → Ends ws left m l
unfolding walk mark_step count_step slot_step list_ok marks_from
walked [] zero m l s = refl
walked [] (suc n) m l s = ne_eqb (suc n) 0 (λ e. omega arith)
walked (w ∷ ws) zero m l s = counted w m ws (is_mark w) (mark_ok w) (walked ws (w % 64) 0 [] same_none) (walked ws zero m l s)
walked (w ∷ ws) (suc n) m l s =
    let f : slot_fits m w ≡ slot_ok l w = rw (s.bits (w % 64) (omega arith)) in
    ap (λ (t : Option Marks). ends t ws) (step_is n m w (slot_ok l w) f)
    ∙ (read (w % 64) n m l ws (slot_ok l w) (walked ws n (with_bit m (w % 64)) (w % 64 ∷ l) (same_with m l (w % 64) s (omega arith))))

pub marks_walk : (ws : List ℕ) → marks_end (walk mark_step (marks 0 0) ws) ≡ marks_ok ws
unfolding list_ok
marks_walk ws = walked ws 0 0 [] same_none

-- ---- a slot's word, test by test

module _ (before w : ℕ) where
  pub fits_bad : mark_ok w ≡ false → false ≡ slot_fits before w
  fits_bad e = rw e

  pub fits_high : mark_ok w ≡ true → 62 ≤ w % 64 → false ≡ slot_fits before w
  fits_high e h = rw (e, le-ltb (w % 64) 62 h)

  pub fits_by : (r : Bool) → mark_ok w ≡ true → w % 64 < 62 → r ≡ has_bit before (w % 64) → not r ≡ slot_fits before w
  fits_by r e h q = rw (e, lt-ltb (w % 64) 62 h, q)
