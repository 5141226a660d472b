-- Assumes nothing.
use mathlib.Core.Path.{ap, ◌∙◌}
use Rattle.std.proofs.lemmas.Result.{err_from_is_err_and}
use Rattle.refusal.specs.Numbers.{number_of}
use Rattle.station.specs.SignOff.{sign_off_refusal}
use Rattle.station.specs.Worst.{worst_of}
use Rattle.station.proofs.Laws.{refused_by}
use Rattle.station.proofs.worst.Goals as goal

pub returns-in_err-sign_refusal : goal.returns-in_err-sign_refusal
unfolding worst_of
returns-in_err-sign_refusal c =
    let p = err_from_is_err_and c.from_residual.result c.from_residual.ensures.1 in
    rw p.1 (refused_by (sign_off_refusal c.args.s.used c.args.slot) p.0 _ (ap number_of p.2 ∙ c.in_err-sign_refusal.ensures))

pub returns : goal.returns
unfolding worst_of
returns c = rw (c.worst.ensures, c.index-i.ensures, ← c.in_ok-sign_refusal.ensures)
