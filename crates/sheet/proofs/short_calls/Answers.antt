use mathlib.Core.Path.{◌≡◌, refl, ap, ◌∙◌}
use mathlib.Core.List.{List, [], ◌++◌}
use Prim.Native.Nat.{ℕ, ◌+◌, ◌*◌, ◌<◌}
use native.Mathlib.Omega.{arith}
use lib.ListN.{length, get_or, drop}
use lib.Seq.{paste, take_all}
use borrow.Author.Tests.{le-ltb}
use Rattle.sheet.specs.Sheet.{short_calls, sheet}
use Rattle.sheet.proofs.Rows.{paste_on}
use Rattle.sheet.proofs.Theorems.{bytes, on_sheet}
use Rattle.sheet.proofs.short_calls.Goals as goal

-- the first k calls are there, and one more
turn : (d : List ℕ) (k : ℕ) → k < 1407 → paste (paste d 0 sheet (7 * k)) (7 * k) (get_or short_calls k []) 7 ≡ paste d 0 sheet (7 * (k + 1))
turn d k p =
    let e : 7 * k + 7 ≡ 7 * (k + 1) = omega arith in
    paste_on d sheet (get_or short_calls k []) (7 * k) 7 (omega (arith, bytes)) (on_sheet k p) ∙ ap (λ (n : ℕ). paste d 0 sheet n) e

-- all of them are there
whole : (d : List ℕ) (k : ℕ) → k ≡ 1407 → paste d 0 sheet (7 * k) ≡ sheet ++ drop 9849 d
whole d k e =
    let n : 7 * k ≡ 9849 = omega arith in
    ap (λ (i : ℕ). paste d 0 sheet i) n ∙ ap (λ (s : List ℕ). s ++ drop 9849 d) (take_all 9849 sheet (omega (arith, bytes)))

pub loop-k-preserved : goal.loop-k-preserved
loop-k-preserved c =
    let a = c.args in
    let p = c.put_call in (
      omega arith,
      p.ensures ∙ ap (λ (d : List ℕ). paste d (7 * c.loop-k.k) (get_or short_calls c.loop-k.k []) 7) c.loop-k.invariant.1 ∙ turn a.out.now c.loop-k.k (omega arith),
    )

pub returns : goal.returns
returns c =
    let l = c.loop-k in
    let a = c.args in
    rw (le-ltb (length a.out.now) 9849 (omega arith)) (refl, l.invariant.1 ∙ whole a.out.now l.k (omega arith))
