-- What was read so far is what the reader lost, within the bound, and has no line feed; each turn leaves less room.
use Rattle.std.proofs.Common.{◌≢◌, ◌-◌, ◌≤◌, All, vec_len, vec_items}
use Rattle.std.specs.Io.KnownBytes.{Consumes}
use Rattle.text.proofs.input.read_part.Given as goal

abbrev pub invariant-loop-from : goal.invariant-loop-from
invariant-loop-from g l = record {
  within : vec_len l.line ≤ l.most;
  taken : Consumes (g.R.Read.remaining l.initial.from) (g.R.Read.remaining l.from) (vec_items l.line);
  unended : All (λ x. x ≢ 10) (vec_items l.line);
}

abbrev pub decreases-loop-from : goal.decreases-loop-from
decreases-loop-from g l = l.most - vec_len l.line
