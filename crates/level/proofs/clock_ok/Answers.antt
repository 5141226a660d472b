-- `level::clock_ok` meets its contract, by the law of spans at 1000000000. Assumes nothing.
use mathlib.Core.Path.{refl}
use lib.Ieee.{binary64, of_bits}
use Rattle.level.proofs.Spans.{span_law}
use Rattle.level.proofs.clock_ok.Goals as goal

pub returns : goal.returns
unfolding of_bits
returns c = span_law 1000000000 (of_bits binary64 0x41cd_cd65_0000_0000) c.args.t (refl, refl)
