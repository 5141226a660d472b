-- Assumes nothing.
use mathlib.Core.Path.{◌≡◌}
use native.Mathlib.Omega.{arith}
use Rattle.out.proofs.Laws.{writes_as}
use Rattle.net.specs.State.{index_of}
use Rattle.net.proofs.Laws.{index_is}
use Rattle.bursts.specs.Direct.{direct_burst}
use Rattle.bursts.proofs.direct.direct_burst.Goals as goal

pub returns : goal.returns
unfolding direct_burst
returns c =
    let a = c.args in
    let e : index_of a.slot ≡ a.slot = index_is a.slot (omega arith) in
    record {
      station = rw (c.sent_in-k.ensures, c.sending-v.ensures, c.from-i.ensures, e);
      wrote = writes_as c.down_burst.ensures (rw (c.reach_level-level.ensures, c.member_at-p.ensures, c.from-i.ensures, e));
    }
