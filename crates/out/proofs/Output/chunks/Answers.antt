use mathlib.Core.Path.{◌∙◌}
use native.Mathlib.Omega.{arith}
use Rattle.out.specs.Encode.{chunk_words}
use Rattle.out.proofs.Laws.{writes_start, writes_on, writes_end}
use Rattle.out.proofs.Pack.{size_clamp, chunks_turn, chunk_none}
use Rattle.out.proofs.Output.chunks.Goals as goal

pub loop-chunk-init : goal.loop-chunk-init
loop-chunk-init c =
    let a = c.args in
    let i = c.into_iter-chunk-iterator.ensures.into_iter_gives in
    let k = c.chunks-chunk-items.ensures in
    record {
      size = rw i (k.size ∙ c.clamp.ensures ∙ size_clamp a.size);
      still = rw (i, k.rest) (writes_start a.self.now (chunk_words a.kind a.size a.rows.now));
    }

pub loop-chunk-preserved : goal.loop-chunk-preserved
loop-chunk-preserved c =
    let a = c.args in
    let l = c.loop-chunk.invariant in
    let h = c.in-Some.ensures.steps in
    record {
      size = h.0 ∙ l.size;
      still = writes_on l.still (chunks_turn a.kind a.size _ _ c.in-Some.chunk.now _ l.size h.1.0 h.1.1 h.1.2) c.chunk.ensures;
    }

pub returns : goal.returns
returns c = writes_end c.loop-chunk.invariant.still (chunk_none c.args.kind c.args.size _ (let h = c.in-None.ensures.steps.1.0 in omega arith))
