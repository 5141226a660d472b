use mathlib.Core.Path.{◌∙◌}
use Rattle.out.specs.Encode.{pack}
use Rattle.out.proofs.Laws.{writes_start, writes_on, writes_end}
use Rattle.out.proofs.Pack.{pack_turn, pack_end}
use Rattle.out.proofs.Output.payload.Goals as goal

pub loop-three-init : goal.loop-three-init
loop-three-init c =
    let i = c.into_iter-three-iterator.ensures.into_iter_gives in
    let k = c.chunks-three-items.ensures in
    record { size = rw i k.size; still = rw (i, k.rest) (writes_start c.args.self.now (pack c.args.p.now)) }

pub loop-three-preserved : goal.loop-three-preserved
loop-three-preserved c =
    let l = c.loop-three.invariant in
    let h = c.in-Some.ensures.steps in
    record {
      size = h.0 ∙ l.size;
      still = writes_on l.still (pack_turn _ c.in-Some.three.now _ c.payload_word.result h.1.0 (rw l.size at h.1.1) h.1.2 c.payload_word.ensures) c.word.ensures;
    }

pub returns : goal.returns
returns c = writes_end c.loop-three.invariant.still (pack_end _ c.in-None.ensures.steps.1.0)
