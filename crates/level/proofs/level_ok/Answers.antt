-- `level::level_ok` meets its contract, by the law of spans at 200. Assumes nothing.
use mathlib.Core.Path.{refl}
use lib.Ieee.{binary32, of_bits}
use Rattle.level.proofs.Spans.{within_law}
use Rattle.level.proofs.level_ok.Goals as goal

pub returns : goal.returns
unfolding of_bits
returns c = within_law 200 (of_bits binary32 0x4348_0000) c.args.x (refl, refl)
