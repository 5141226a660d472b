-- Assumes nothing.
use Rattle.signoff.specs.SignOff.{sign_off}
use Rattle.signoff.proofs.sign_off.Goals as goal

pub returns : goal.returns
unfolding sign_off
returns c =
    rw (
      c.bereave_all.ensures,
      c.empty-q.ensures,
      c.without.ensures,
      c.tally-silent.ensures,
      c.empty-none.ensures,
      c.vacant-k.ensures,
      c.unhear_all-s.ensures,
      c.clear_all-s.ensures,
      c.strike_round-q.ensures,
      c.strike_wait-v.ensures,
      c.from-i.ensures,
    )
