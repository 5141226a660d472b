-- `sheet::number_at` meets its contract. Assumes nothing.
use mathlib.Core.Path.{sym, ap, ◌∙◌}
use mathlib.Core.List.{[]}
use Prim.Native.Nat.{ℕ}
use lib.ListN.{get_or}
use Rattle.wire.specs.Call.{packed}
use Rattle.sheet.specs.Sheet.{short_calls}
use Rattle.sheet.proofs.Places.{number_first, number_at}
use Rattle.sheet.proofs.number_at.Goals as goal

pub returns-then-k-eq0 : goal.returns-then-k-eq0
returns-then-k-eq0 c = sym (ap (λ (k : ℕ). packed (get_or short_calls k [])) c.if-k-eq0.true ∙ number_first)

pub returns : goal.returns
returns c = number_at c.args.k c.if-k-eq0.false c.requires
