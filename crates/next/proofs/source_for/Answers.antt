-- Assumes nothing.
use Rattle.std.proofs.Common.{ap, ◌∙◌}
use Rattle.roster.specs.Relays.{relay_src_for}
use Rattle.bursts.specs.declared.reroute.Surveyed.{Surveyed}
use Rattle.bursts.specs.Reroute.{source_for}
use Rattle.next.proofs.source_for.Goals as goal

pub returns : goal.returns
unfolding source_for
returns c =
    let a = c.args in
    c.relay_src_for.ensures
    ∙ ap (λ (x : Surveyed). relay_src_for a.s.hears x.needs x.able x.tried a.slot a.s.settings.relaysnr) c.survey-v.ensures
