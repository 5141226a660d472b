use mathlib.Core.Path.{◌≡◌, refl, sym, ap, ◌∙◌}
use Prim.Native.Nat.{ℕ, ◌+◌, ◌-◌}
use Rattle.bits.specs.Loop.{fold}
use Rattle.bits.proofs.Loops.{fold_turn, fold_end}
use mathlib.Core.Bool.{Bool, true, false, cond, ◌&&◌}
use lib.Dec.{leb, eqb}
use lib.ListN.{set}
use lib.Seq.{set-get_or}
use Rattle.bits.specs.Mask.{has_bit}
use Rattle.recent.specs.Readings.{no_recent, empty}
use Rattle.roster.specs.declared.Member.{Member}
use Rattle.roster.specs.Members.{no_member, tally}
use Rattle.net.specs.declared.Station.{Station}
use Rattle.net.specs.State.{with_members, with_totals, with_silent, with_recent, recent_at}
use Rattle.bursts.specs.Rows.{member_in}
use Rattle.bursts.specs.Reroute.{with_member_in}
use Rattle.signoff.specs.SignOff.{bereft, bereft_of, bereave_at, bereave_all}
use Rattle.signoff.proofs.bereave_all.Goals as goal

-- a boat written where there is one, and the total with it
abbrev left : Station → ℕ → ℕ → Bool → Member
left s slot i b = cond b (bereft slot s.settings.misslimit (member_in s i)) (member_in s i)

seat_step : (s : Station) (slot i : ℕ) (b : Bool)
    → with_totals
    (with_recent (with_members s (set s.members i (left s slot i b))) (set s.recent i (cond (b && eqb (member_in s i).via slot) empty (recent_at s i))))
    (with_silent s.totals (cond b (tally s.totals.silent (leb s.settings.misslimit (member_in s i).missed) (leb s.settings.misslimit (left s slot i b).missed)) s.totals.silent))
    ≡ cond b (with_recent (with_member_in s i (bereft slot s.settings.misslimit (member_in s i))) (set s.recent i (bereft_of slot (member_in s i) (recent_at s i)))) s
seat_step s slot i true = refl
seat_step s slot i false = rw (set-get_or s.recent i no_recent) (ap (with_members s) (set-get_or s.members i no_member))

pub loop-i-init : goal.loop-i-init
unfolding bereave_all
loop-i-init c = refl

pub loop-i-preserved : goal.loop-i-preserved
unfolding bereave_at
loop-i-preserved c =
    let l = c.loop-i in
    let slot = c.args.slot in
    let h = c.loop-i-test.true in rw (c.tally_if-silent.ensures, c.recent_if-q.ensures, c.bereft_if-k.ensures, c.has-here.ensures)
    (ap (fold (bereave_at slot) (62 - (l.i + 1)) (l.i + 1)) (seat_step l.s slot l.i (has_bit l.s.used l.i))
    ∙ sym (fold_turn (bereave_at slot) 62 l.i l.s h) ∙ l.invariant)

pub returns : goal.returns
returns c = sym (fold_end _ _ _ _ c.loop-i-test.false) ∙ c.loop-i.invariant
