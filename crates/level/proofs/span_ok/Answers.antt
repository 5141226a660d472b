-- `level::span_ok` meets its contract, by the law of spans at 1000000. Assumes nothing.
use mathlib.Core.Path.{refl}
use lib.Ieee.{binary64, of_bits}
use Rattle.level.proofs.Spans.{span_law}
use Rattle.level.proofs.span_ok.Goals as goal

pub returns : goal.returns
unfolding of_bits
returns c = span_law 1000000 (of_bits binary64 0x412e_8480_0000_0000) c.args.t (refl, refl)
