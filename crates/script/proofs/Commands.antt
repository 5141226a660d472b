-- The commands of the panel's own. Assumes nothing.
use Rattle.std.proofs.Common.{◌≡◌, ℕ, ◌/◌, ◌%◌, Bool, true, false, not, cond, refl, arith}
use Rattle.std.specs.Prelude.{eqb}
use Rattle.script.specs.declared.action.Action.TheVariants.{Open, Ask, Fill}
use Rattle.script.specs.declared.action.Command.TheVariants.{Dues}
use Rattle.script.specs.Actions.{rest_of, asked_of, by_number}

either_first : (f d : Bool) → cond f Fill (cond d (Open Dues) Ask) ≡ cond f Fill (cond (not d) Ask (Open Dues))
either_first true d = refl
either_first false true = refl
either_first false false = refl

pub by_asked : (w : ℕ) → w % 16 ≡ 15 → asked_of (rest_of w) ≡ by_number w
unfolding by_number
by_asked w e =
    let k : rest_of w % 16 ≡ w / 16 % 16 = omega arith in
    simp (e, k) (either_first (eqb (w / 16 % 16) 5) (eqb (rest_of w) 3))
