-- `edges::short::filled` meets its contract. The invariant: what is filled is i and what is filled from there on.

use Rattle.std.proofs.Common.{◌≡◌, ◌+◌, drop}
use Rattle.edges.specs.Filled.{filled}
use Rattle.edges.proofs.short.filled.Given as goal

abbrev pub invariant-loop-i : goal.invariant-loop-i
invariant-loop-i l = l.i + filled (drop l.i l.out) ≡ filled l.out
