-- The total of silent boats, by what the boat was and is. Assumes nothing.
use Prim.Native.Nat.{ℕ, ◌+◌, ◌-◌}
use mathlib.Core.Path.{◌≡◌, refl}
use mathlib.Core.Bool.{Bool, true, false}
use Rattle.bits.specs.Stop.{stop}
use Rattle.roster.specs.Members.{tally}

pub tally_same : (n : ℕ) (b : Bool) → tally n b b ≡ n
unfolding tally
tally_same n true = refl
tally_same n false = refl

pub tally_less : (n : ℕ) → tally n true false ≡ n - 1
unfolding tally
tally_less n = refl

pub tally_more : (n : ℕ) → tally n false true ≡ stop (n + 1)
unfolding tally
tally_more n = refl
