-- What is asked of the whole is what is asked of the words and bytes that are left. Assumes nothing.
use mathlib.Core.Path.{◌≡◌}
use lib.ListN.{drop}
use Rattle.words.specs.Words.{payload_ok}
use Rattle.words.proofs.payload_ok.Given as goal

abbrev pub invariant-loop-w : goal.invariant-loop-w
invariant-loop-w l = payload_ok l.words l.len ≡ payload_ok (drop l.w-index l.words) l.left
