-- Assumes nothing.
use Rattle.std.proofs.Common.{◌≡◌, ◌-◌, ◌&&◌, ◌||◌, eqb, ltb, get_or}
use Rattle.bits.specs.Loop.{fold}
use Rattle.bits.specs.Mask.{has_bit}
use Rattle.roster.specs.Members.{no_member}
use Rattle.bursts.specs.Rows.{mark_if}
use Rattle.next.specs.Code.Decision.{list_in}
use Rattle.next.proofs.draw.Given as goal

abbrev pub invariant-loop-i : goal.invariant-loop-i
invariant-loop-i l = fold (mark_if (λ k. has_bit l.used k && eqb (get_or l.ms k no_member).via 63 && (l.fourth || ltb (get_or l.ms k no_member).missed l.limit))) (62 - l.i) l.i l.list ≡ list_in l.ms l.used l.limit l.number
