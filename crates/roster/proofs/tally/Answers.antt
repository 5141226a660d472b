-- Assumes nothing.
use mathlib.Core.Path.{sym, ◌∙◌}
use native.Mathlib.Omega.{arith}
use Rattle.roster.proofs.Silent.{tally_same, tally_less, tally_more}
use Rattle.roster.proofs.tally.Goals as goal

pub returns-then-after : goal.returns-then-after
returns-then-after c = rw (c.if-before.true, c.if-after.true) (sym (tally_same c.args.n _))

pub returns-then-n-eq0 : goal.returns-then-n-eq0
returns-then-n-eq0 c =
    rw (c.if-before.true, c.if-after.false) (omega (arith, tally_less c.args.n))

pub returns-then-before : goal.returns-then-before
returns-then-before c =
    rw (c.if-before.true, c.if-after.false) (sym (tally_less c.args.n))

pub returns-then-after-2 : goal.returns-then-after-2
returns-then-after-2 c =
    rw (c.if-before.false, c.if-after-2.true) (c.one_more.ensures ∙ sym (tally_more c.args.n))

pub returns : goal.returns
returns c = rw (c.if-before.false, c.if-after-2.false) (sym (tally_same c.args.n _))
