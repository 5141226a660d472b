-- `out::Output::payload` meets its contract. The invariant: the words of the bytes that are left are still to be written. Assumes nothing.
use mathlib.Core.Path.{◌≡◌}
use Rattle.std.specs.Slice.Iter.{chunks_rest, chunks_size}
use Rattle.out.specs.Encode.{pack}
use Rattle.out.proofs.Laws.{StillWrites}
use Rattle.out.proofs.Output.payload.Given as goal

abbrev pub invariant-loop-three : goal.invariant-loop-three
invariant-loop-three l = record {
  size : chunks_size l.three-iterator ≡ 3;
  still : StillWrites l.initial.self (pack l.p) l.self (pack (chunks_rest l.three-iterator));
}
