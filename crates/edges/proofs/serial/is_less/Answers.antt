-- `edges::serial::is_less` meets its contract: each return rewrites with the tests that led there.

use mathlib.Core.Path.{◌≡◌, refl}
use mathlib.Core.Bool.{Bool, true, false, ◌||◌}
use native.Mathlib.Omega.{arith}
use borrow.Author.Tests.{lt-ltb, le-ltb}
use Rattle.edges.proofs.serial.is_less.Goals as goal

or_none : (x : Bool) → x ≡ (x || false)
or_none true = refl
or_none false = refl

pub returns-then-a-b : goal.returns-then-a-b
returns-then-a-b c =
    let s = c.args in
    rw (lt-ltb s.a s.b (omega arith), le-ltb s.b s.a (omega arith)) (or_none _)

pub returns-then-b-a : goal.returns-then-b-a
returns-then-b-a c =
    let s = c.args in
    rw (lt-ltb s.b s.a (omega arith), le-ltb s.a s.b (omega arith))

pub returns : goal.returns
returns c =
    let s = c.args in
    rw (le-ltb s.b s.a (omega arith), le-ltb s.a s.b (omega arith))
