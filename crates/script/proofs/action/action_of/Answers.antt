use Rattle.std.proofs.Common.{◌≡◌, ℕ, ◌/◌, ne_eqb, arith}
use Rattle.script.specs.Actions.{action_of}
use Rattle.script.proofs.action.action_of.Goals as goal

pub returns-in-7 : goal.returns-in-7
unfolding action_of
returns-in-7 c = simp c.in-7.is c.command_of.ensures

pub returns-in-14 : goal.returns-in-14
unfolding action_of
returns-in-14 c = simp c.in-14.is

pub returns-in-15 : goal.returns-in-15
unfolding action_of
returns-in-15 c = simp c.in-15.is c.level_word.ensures

pub returns-in_default : goal.returns-in_default
unfolding action_of
returns-in_default c =
    let k : ℕ = c.args.w / 268435456 in
    let seven : ¬ (k ≡ 7) = omega arith in
    let fourteen : ¬ (k ≡ 14) = omega arith in
    let fifteen : ¬ (k ≡ 15) = omega arith in
    simp (ne_eqb _ _ seven, ne_eqb _ _ fourteen, ne_eqb _ _ fifteen) c.other_word.ensures
