-- `out::Output::chunks` meets its contract. The invariant: the words of the bytes that are left are still to be written. Assumes nothing.
use mathlib.Core.Path.{◌≡◌}
use Rattle.std.specs.Slice.Iter.{chunks_rest, chunks_size}
use Rattle.out.specs.Encode.{chunk_words, chunk_size}
use Rattle.out.proofs.Laws.{StillWrites}
use Rattle.out.proofs.Output.chunks.Given as goal

abbrev pub invariant-loop-chunk : goal.invariant-loop-chunk
invariant-loop-chunk l = record {
  size : chunks_size l.chunk-iterator ≡ chunk_size l.size;
  still : StillWrites l.initial.self (chunk_words l.kind l.size l.rows) l.self (chunk_words l.kind l.size (chunks_rest l.chunk-iterator));
}
