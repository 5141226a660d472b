-- What a verdict says: the number that sends the log back, and whether the log is accepted. Assumes nothing.
use mathlib.Core.Path.{◌≡◌, refl}
use mathlib.Core.Bool.{Bool, true, false, cond, ◌&&◌}
use mathlib.Core.List.{List}
use Prim.Native.Nat.{ℕ}
use Rattle.std.specs.Prelude.{Result, Ok, Err}
use Rattle.refusal.specs.declared.Refusal.{Refusal}
use Rattle.refusal.specs.declared.Refusal.TheVariants.{Words, Marks}
use Rattle.refusal.specs.Numbers.{number_in}
use Rattle.logs.specs.Reading.{sendings_ok, marks_ok, entries_of}
use Rattle.logs.specs.Turns.{accepted, is_accepted, refusal_of, verdict_of}

abbrev by : Bool → Bool → Bool → Result Bool Refusal
by a b c = cond a (cond b (Ok c) (Err Marks)) (Err Words)

says : (a b c : Bool) → (number_in (by a b c) ≡ cond a (cond b 0 27) 3) × (is_accepted (by a b c) ≡ a && b && c)
says true true true = (refl, refl)
says true true false = (refl, refl)
says true false c = (refl, refl)
says false b c = (refl, refl)

pub verdict_says : (ws : List ℕ) → (number_in (verdict_of ws) ≡ refusal_of ws) × (is_accepted (verdict_of ws) ≡ sendings_ok ws && marks_ok ws && accepted (entries_of ws))
unfolding verdict_of
verdict_says ws = says (sendings_ok ws) (marks_ok ws) (accepted (entries_of ws))
