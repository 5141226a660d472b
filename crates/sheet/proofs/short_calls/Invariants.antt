-- `sheet::short_calls` meets its contract. The invariant: the first k calls of the sheet are pasted. Assumes nothing.
use mathlib.Core.Path.{◌≡◌}
use Prim.Native.Nat.{◌*◌}
use lib.ListN.{length}
use lib.Seq.{paste}
use Rattle.sheet.specs.Sheet.{sheet}
use Rattle.sheet.proofs.short_calls.Given as goal

abbrev pub invariant-loop-k : goal.invariant-loop-k
invariant-loop-k l = (length l.out ≡ length l.initial.out) × (l.out ≡ paste l.initial.out 0 sheet (7 * l.k))
