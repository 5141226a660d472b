-- Every change keeps the total of silent boats, so it is the count over the roster after any list of calls. Assumes nothing.
use mathlib.Core.Path.{◌≡◌, refl, ap, ◌∙◌}
use Prim.Native.Nat.{ℕ, ◌≤◌, ◌<◌}
use mathlib.Core.Bool.{Bool, true, false, cond, ◌&&◌}
use mathlib.Core.List.{List}
use lib.Dec.{ltb, leb}
use lib.ListN.{length, set}
use lib.Seq.{get_or-set_same}
use native.Mathlib.Omega.{arith}
use borrow.Author.Tests.{leb-true}
use Rattle.bits.specs.Mask.{has_bit}
use Rattle.bits.proofs.Loops.{fold_keeps_below}
use Rattle.bits.proofs.Lists.{cond_keeps, and_true}
use Rattle.wire.specs.Call.{number_of}
use Rattle.roster.specs.declared.Member.{Member}
use Rattle.roster.specs.Members.{no_member, new_member, promoted_at, rerouted_to}
use Rattle.level.specs.Consts.{zero_time}
use Rattle.net.specs.declared.Station.{Station}
use Rattle.net.specs.State.{with_recent, recent_at}
use Rattle.net.specs.declared.Settings.{Settings}
use Rattle.net.specs.Net.{is_member, blank_call, new_station}
use Rattle.net.proofs.Laws.{member_lt, member_is}
use Rattle.bursts.specs.Rows.{member_in}
use Rattle.bursts.specs.Reroute.{with_member_in}
use Rattle.config.specs.declared.Given.{Given}
use Rattle.config.specs.Checks.{seconds_ok, durations_ok, decibels_ok, numbers_ok, settings_ok, settings_of, data_ok, payloads_ok}
use Rattle.station.specs.Entries.{start_refusal}
use Rattle.signoff.specs.SignOff.{vacant, leave, bereft, bereft_of, bereave_at, bereave_all, struck_off, sign_off}
use Rattle.promise.specs.Promise.{after, started}
use Rattle.laws.specs.Silent.{SilentCounted}
use Rattle.promise.proofs.Walk.{Change}
use Rattle.promise.proofs.WalkRoster.{Roster, same, written, counted, promoted, moved, entered, signs_off, roster}
use Rattle.promise.proofs.WalkCalls.{all, always}
use Rattle.laws.proofs.SilentCount.{Kept, Keeps, kept_none, kept_counts, kept_same, kept_tally, kept_new, kept_drop}

-- ---- each change

-- a boat signs off: it is silent no more, and those it relayed for are
leave_kept : (slot : ℕ) (s : Station) → is_member s.used slot ≡ true → Keeps s → Keeps (leave slot s)
leave_kept slot s h k =
    let low = member_lt s.used slot h in
    let n = k.size in
    kept_drop _ s.settings.misslimit s.used (set s.members slot vacant) slot low
    (ap (λ (m : Member). m.missed) (get_or-set_same s.members slot vacant no_member (omega arith)))
    (kept_tally _ _ s.used s.members slot vacant low h k)

bereave_kept : (slot j : ℕ) (s : Station) → j < 62 → Keeps s → Keeps (bereave_at slot j s)
unfolding bereave_at
bereave_kept slot j s l k =
    cond_keeps Keeps (has_bit s.used j)
    (with_recent (with_member_in s j (bereft slot s.settings.misslimit (member_in s j))) (set s.recent j (bereft_of slot (member_in s j) (recent_at s j)))) s
    (λ h. kept_tally _ _ s.used s.members j (bereft slot s.settings.misslimit (member_in s j)) l (member_is s.used j l ∙ h) k) (λ _. k)

sign_kept : (s : Station) (slot : ℕ) → is_member s.used slot ≡ true → Keeps s → Keeps (sign_off s slot)
unfolding sign_off bereave_all
sign_kept s slot h k =
    fold_keeps_below Keeps (bereave_at slot) 62 0 (λ j x _ l q. bereave_kept slot j x (omega arith) q) (leave slot (struck_off slot s)) (leave_kept slot (struck_off slot s) h k)

roster_kept : {s : Station} {g : Settings} {used n : ℕ} {ms : List Member} → Roster s g used ms n → Keeps s → Kept n g.misslimit used ms
roster_kept same k = k
roster_kept {s} (written i m l here f) k = kept_same _ _ s.used s.members i m f.missed k
roster_kept {s} (counted i m l here c v) k = kept_tally _ _ s.used s.members i m l here k
roster_kept {s} (promoted i snr l here) k = kept_tally _ _ s.used s.members i (promoted_at (member_in s i) snr) l here k
roster_kept {s} (moved c r l here there able n) k = kept_tally _ _ s.used s.members c (rerouted_to (member_in s c) r) l here k
roster_kept {s} (entered i call v now l free r) k = kept_new _ _ s.used s.members i (new_member call v now) l free refl k
roster_kept {s} (signs_off slot here) k = sign_kept s slot here k

change_kept : (s t : Station) → Change all s t → Keeps s → Keeps t
change_kept s t c k = roster_kept (roster c) k

-- ---- the start

new_kept : (g : Settings) (count : ℕ) → 1 ≤ g.misslimit → Keeps (new_station g count)
unfolding new_station
new_kept g count h = kept_none g.misslimit (new_member blank_call 63 zero_time) h

-- a start that is not refused has a miss limit of 1 or more
limit_by : (short ok : Bool) → ◌≡◌ {A = ℕ} (cond short 7 (cond ok 0 5)) 0 → ok ≡ true
limit_by true ok e = absurd (omega arith)
limit_by false true e = refl
limit_by false false e = absurd (omega arith)

limit_ok : (g : Given) → settings_ok g ≡ true → 1 ≤ g.settings.misslimit
unfolding settings_ok
limit_ok g e =
    let x = g.settings in
    let first = seconds_ok x && durations_ok x.durations && decibels_ok x in
    let call = ltb (number_of g.call) 114415582592 in
    let numbers = (and_true first (numbers_ok x) (and_true (first && numbers_ok x) call (and_true (first && numbers_ok x && call) (data_ok g.times) (and_true (first && numbers_ok x && call && data_ok g.times) (payloads_ok g.payloads) e).0).0).0).1 in
    leb-true 1 x.misslimit
    (and_true (leb 1 x.misslimit) (leb x.misslimit 1000) (and_true (leb 1 x.misslimit && leb x.misslimit 1000) (leb x.beaconlevel 16) numbers).0).0

limit_least : (g : Given) (size : ℕ) → start_refusal g size ≡ 0 → 1 ≤ g.settings.misslimit
unfolding start_refusal
limit_least g size e = limit_ok g (limit_by (ltb size 6400) (settings_ok g) e)

pub silent_counted : SilentCounted
silent_counted s g store e cs =
    kept_counts (after cs (started s g store)).station (always Keeps change_kept s g store e (new_kept (settings_of g) _ (limit_least g (length store) e)) cs)
