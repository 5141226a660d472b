-- Assumes nothing.
use mathlib.Core.Path.{◌≡◌, sym, ap, ◌∙◌}
use Prim.Native.Nat.{ℕ}
use native.Mathlib.Omega.{arith}
use lib.Dec.{leb}
use lib.ListN.{length, get_or}
use Rattle.std.specs.List.{list_all}
use Rattle.bits.specs.Loop.{every}
use borrow.Author.Tests.{eq-eqb, ne_eqb}
use Rattle.dues.specs.Dues.{figures_ok}
use Rattle.dues.proofs.Lines.{every_one}
use Rattle.dues.proofs.figures_ok.Goals as goal

pub returns-then-figures-ne62 : goal.returns-then-figures-ne62
unfolding figures_ok
returns-then-figures-ne62 c = rw (ne_eqb _ _ c.if-figures-ne62.true)

pub returns : goal.returns
unfolding figures_ok
returns c =
    let f = c.args.figures.now in
    let n : length f ≡ 62 = omega arith in
    let z : every (λ i. leb (get_or f i 0) 1000000000) 62 0 ≡ list_all (λ x. leb x 1000000000) f =
    ap (λ (k : ℕ). every (λ i. leb (get_or f i 0) 1000000000) k 0) (sym n) ∙ every_one (λ x. leb x 1000000000) f in
    c.all_fit.ensures ∙ sym (rw (eq-eqb _ _ n) z)
