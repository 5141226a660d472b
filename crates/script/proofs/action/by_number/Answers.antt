use Rattle.std.proofs.Common.{◌≡◌, ◌%◌, ap, arith, ◌∙◌}
use Rattle.script.specs.Actions.{asked_of, by_number}
use Rattle.script.proofs.Commands.{by_asked}
use Rattle.script.proofs.action.by_number.Goals as goal

pub returns-in-0 : goal.returns-in-0
unfolding by_number
returns-in-0 c = simp c.in-0.is

pub returns-in-1 : goal.returns-in-1
unfolding by_number
returns-in-1 c = simp c.in-1.is

pub returns-in-2 : goal.returns-in-2
unfolding by_number
returns-in-2 c = simp c.in-2.is

pub returns-in-3 : goal.returns-in-3
unfolding by_number
returns-in-3 c = simp c.in-3.is

pub returns-in-4 : goal.returns-in-4
unfolding by_number
returns-in-4 c = simp c.in-4.is

pub returns-in-5 : goal.returns-in-5
unfolding by_number
returns-in-5 c = simp c.in-5.is

pub returns-in-6 : goal.returns-in-6
unfolding by_number
returns-in-6 c = simp c.in-6.is

pub returns-in-7 : goal.returns-in-7
unfolding by_number
returns-in-7 c = simp c.in-7.is

pub returns-in-8 : goal.returns-in-8
unfolding by_number
returns-in-8 c = simp c.in-8.is

pub returns-in-9 : goal.returns-in-9
unfolding by_number
returns-in-9 c = simp c.in-9.is

pub returns-in-10 : goal.returns-in-10
unfolding by_number
returns-in-10 c = simp c.in-10.is

pub returns-in-11 : goal.returns-in-11
unfolding by_number
returns-in-11 c = simp c.in-11.is

pub returns-in-12 : goal.returns-in-12
unfolding by_number
returns-in-12 c = simp c.in-12.is

pub returns-in-13 : goal.returns-in-13
unfolding by_number
returns-in-13 c = simp c.in-13.is

pub returns-in-14 : goal.returns-in-14
unfolding by_number
returns-in-14 c = simp c.in-14.is

pub returns-in_default : goal.returns-in_default
returns-in_default c = let e : c.args.w % 16 ≡ 15 = omega arith in c.asked_of.ensures ∙ ap asked_of c.rest_of.ensures ∙ by_asked c.args.w e
