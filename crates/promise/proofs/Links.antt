-- Item 3 of document 01, the relay links: every change keeps the roster's links, so they hold after any list of calls. Assumes nothing.
use mathlib.Core.Path.{◌≡◌, refl, sym, ap, ◌∙◌}
use mathlib.Core.Logic.{◌⊎◌, inl, inr}
use Prim.Native.Nat.{ℕ, ◌<◌}
use native.Mathlib.Omega.{arith}
use mathlib.Core.Bool.{Bool, true, false}
use mathlib.Core.List.{List}
use lib.Dec.{eqb}
use lib.ListN.{length, get_or}
use borrow.Author.Tests.{eqb-true, eq-eqb}
use Rattle.bits.specs.Mask.{has_bit}
use Rattle.bits.proofs.Laws.{without_same, without_other}
use Rattle.bits.proofs.Lists.{and_true}
use Rattle.level.specs.Consts.{zero_time}
use Rattle.roster.specs.declared.Member.{Member}
use Rattle.roster.specs.Members.{no_member, new_member, promoted_at, rerouted_to}
use Rattle.roster.specs.Relays.{could_relay}
use Rattle.net.specs.declared.Station.{Station}
use Rattle.net.specs.declared.Settings.{Settings}
use Rattle.net.specs.Net.{is_member, blank_call, new_station}
use Rattle.net.proofs.Laws.{index_is, member_lt, member_is}
use Rattle.bursts.specs.Rows.{member_in}
use Rattle.config.specs.declared.Given.{Given}
use Rattle.station.specs.Entries.{start_refusal}
use Rattle.signoff.specs.SignOff.{bereft, sign_off}
use Rattle.promise.specs.Promise.{Call, after, started, LinksHold}
use Rattle.promise.proofs.Trees.{absent, root, via, tree_gone}
use Rattle.promise.proofs.Rosters.{link_via, link_in, Kept, Keeps, kept_none, kept_same, kept_cut, kept_hang, kept_new, kept_holds}
use Rattle.promise.proofs.Signs.{Signed, signed}
use Rattle.promise.proofs.Walk.{Change}
use Rattle.promise.proofs.WalkRoster.{Roster, same, written, counted, promoted, moved, entered, signs_off, roster}
use Rattle.promise.proofs.WalkCalls.{all, always}

able_via : (m : Member) → could_relay m ≡ true → m.via ≡ 63
able_via m h = eqb-true m.via 63 (and_true _ _ (and_true _ _ (and_true _ _ h).0).0).0

-- ---- a boat signs off

-- the relay that is left to a boat: its own, which is not the slot struck, or none
left_link : (slot limit : ℕ) (m : Member) → ((link_via (bereft slot limit m).via ≡ link_via m.via) × (link_via m.via ≡ via slot → ⊥)) ⊎ (link_via (bereft slot limit m).via ≡ root)
left_link slot limit m = go (eqb m.via slot) refl (eqb m.via 63) refl
  where
    go : (b : Bool) → eqb m.via slot ≡ b → (c : Bool) → eqb m.via 63 ≡ c
        → ((link_via (bereft slot limit m).via ≡ link_via m.via) × (link_via m.via ≡ via slot → ⊥)) ⊎ (link_via (bereft slot limit m).via ≡ root)
    go true e c f = inr (rw e)
    go false e true f = inr (rw (e, f))
    go false e false f = inl (rw e, rw f (λ q. let z : m.via ≡ slot = cc in let w : ◌≡◌ {A = ℕ} 0 1 = cc (eq-eqb m.via slot z) in omega arith))

module _ (s : Station) (slot : ℕ) (h : is_member s.used slot ≡ true) (k : Keeps s) where
  abbrev after_it : Station
  after_it = sign_off s slot

  low : slot < 62
  low = member_lt s.used slot h

  signs : Signed slot s after_it
  signs = signed slot s low k.size

  still : (i : ℕ) → (i ≡ slot → ⊥) → is_member after_it.used i ≡ is_member s.used i
  unfolding is_member
  still i z = rw (signs.used, without_other s.used slot i (λ e. z (sym e)))

  here_gone : link_in after_it.used after_it.members slot ≡ absent
  here_gone = rw (member_is after_it.used slot low ∙ ap (λ (u : ℕ). has_bit u slot) signs.used ∙ without_same s.used slot)

  others : (i : ℕ) → (i ≡ slot → ⊥)
      → ((link_in after_it.used after_it.members i ≡ link_in s.used s.members i) × (link_in s.used s.members i ≡ via slot → ⊥)) ⊎ (link_in after_it.used after_it.members i ≡ root)
  others i z = go (is_member s.used i) refl
    where
      go : (b : Bool) → is_member s.used i ≡ b
          → ((link_in after_it.used after_it.members i ≡ link_in s.used s.members i) × (link_in s.used s.members i ≡ via slot → ⊥)) ⊎ (link_in after_it.used after_it.members i ≡ root)
      go false e = inl (rw (still i z, e), rw e (λ q. let w : ◌≡◌ {A = ℕ} 0 1 = cc in omega arith))
      go true e = rw (still i z, e, index_is i (member_lt s.used i e), signs.boat i e z) (left_link slot s.settings.misslimit (get_or s.members i no_member))

  sign_kept : Keeps after_it
  sign_kept = record { tree = tree_gone (link_in s.used s.members) (link_in after_it.used after_it.members) slot here_gone others k.tree; size = signs.long }

-- ---- each change

roster_kept : {s : Station} {g : Settings} {used n : ℕ} {ms : List Member} → Roster s g used ms n → Keeps s → Kept used ms
roster_kept same k = k
roster_kept {s} (written i m l here f) k = kept_same s.used s.members i m f.via k
roster_kept {s} (counted i m l here c v) k = kept_same s.used s.members i m v k
roster_kept {s} (promoted i snr l here) k = kept_cut s.used s.members i (promoted_at (member_in s i) snr) refl k
roster_kept {s} (moved c r l here there able z) k =
    kept_hang s.used s.members c r (rerouted_to (member_in s c) r) refl z there (able_via (member_in s r) able) k
roster_kept {s} (entered i call v now l free r) k = kept_new s.used s.members i (new_member call v now) l free r k
roster_kept {s} (signs_off slot here) k = sign_kept s slot here k

change_kept : (s t : Station) → Change all s t → Keeps s → Keeps t
change_kept s t c k = roster_kept (roster c) k

new_kept : (g : Settings) (count : ℕ) → Keeps (new_station g count)
unfolding new_station
new_kept g count = kept_none (new_member blank_call 63 zero_time)

-- after any calls from a start that is not refused, relay slots lead from any member to one without a relay in at most 61 steps
pub links : (s : Station) (g : Given) (store : List ℕ) → start_refusal g (length store) ≡ 0 → (cs : List Call) → LinksHold (after cs (started s g store)).station
links s g store e cs = kept_holds (after cs (started s g store)).station (always Keeps change_kept s g store e (new_kept _ _) cs)
