-- Assumes nothing.
use Rattle.out.proofs.Laws.{writes_then, writes_as}
use mathlib.Core.Path.{◌≡◌, ap, ◌∙◌}
use Rattle.bits.specs.Mask.{both_of}
use Rattle.bursts.specs.Bursts.{acked, beyond, beacon_of}
use Rattle.bursts.proofs.Waiting.{payload_front}
use Rattle.bursts.proofs.beacon_round.Goals as goal

pub returns : goal.returns
unfolding beacon_of
returns c =
    let s = c.args.s in
    let w : c.beyond_nine.result ≡ beyond 9 (acked s) =
    c.beyond_nine.ensures ∙ ap (beyond 9) (c.both.ensures ∙ ap (both_of s.round.toack) c.members.ensures) in (
      rw (c.window_end.ensures, c.len.ensures.value, c.beacon_rows-acks.ensures, w),
      writes_as (writes_then c.head.ensures (writes_then c.ctrl.ensures c.chunks.ensures))
          (rw (c.from.ensures, c.beacon_payload-p.ensures, c.beacon_size.ensures, payload_front s.settings _, c.as_slice.ensures.value, c.len.ensures.value, c.beacon_rows-acks.ensures)),
    )
