-- None before i is.
use Rattle.std.proofs.Common.{◌≡◌, ◌+◌, ◌-◌, ◌*◌}
use Rattle.bits.specs.Loop.{any}
use Rattle.script.proofs.number.any_nan.Given as goal

abbrev pub invariant-loop-i : goal.invariant-loop-i
invariant-loop-i g l =
    any (λ k. g.F.Pattern.nan (g.F.Pattern.pattern_at l.p (l.at + g.F.Pattern.SIZE * k))) (l.n - l.i) l.i
    ≡ any (λ k. g.F.Pattern.nan (g.F.Pattern.pattern_at l.p (l.at + g.F.Pattern.SIZE * k))) l.n 0
