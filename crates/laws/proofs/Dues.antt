-- The dues add up after any calls from a start: relay links lead from a boat to a boat, so each credit stands on a line. Assumes nothing.
use mathlib.Core.Path.{◌≡◌}
use mathlib.Core.Bool.{true, ◌||◌}
use mathlib.Core.List.{List}
use mathlib.Core.Logic.{◌⊎◌, inl, inr}
use Prim.Native.Nat.{ℕ}
use lib.Dec.{eqb}
use borrow.Author.Tests.{eqb-true}
use Rattle.bits.proofs.Lists.{and_true, or_elim}
use Rattle.net.specs.declared.Station.{Station}
use Rattle.net.specs.State.{member_at}
use Rattle.net.specs.Net.{is_member}
use Rattle.std.specs.Prelude.{IsOkAnd}
use Rattle.dues.specs.Dues.{dues_refusal, bill_of, dues_of}
use Rattle.dues.proofs.Balance.{balanced}
use Rattle.promise.specs.Promise.{after, started, leads, LinksHold}
use Rattle.laws.specs.Balance.{Balanced, Balance}
use Rattle.promise.proofs.Links.{links}

-- the relay of a boat is none or a boat
pub relay_is : (s : Station) → LinksHold s → (i : ℕ) → is_member s.used i ≡ true
    → ((member_at s i).via ≡ 63) ⊎ (is_member s.used (member_at s i).via ≡ true)
unfolding leads
relay_is s h i m =
    or_elim (eqb (member_at s i).via 63) (leads s 60 (member_at s i).via)
    (and_true (is_member s.used i) (eqb (member_at s i).via 63 || leads s 60 (member_at s i).via) (h i m)).1
    (λ e. inl (eqb-true (member_at s i).via 63 e))
    (λ e. inr (and_true (is_member s.used (member_at s i).via) (eqb (member_at s (member_at s i).via).via 63 || leads s 59 (member_at s (member_at s i).via).via) e).0)

dues_balance : (s : Station) → LinksHold s → (figures : List ℕ) → dues_refusal figures ≡ 0 → IsOkAnd (dues_of s figures) Balanced
unfolding dues_of bill_of
dues_balance s h figures e = rw e (balanced s figures (relay_is s h))

pub balance : Balance
balance s g store e cs figures ok = dues_balance (after cs (started s g store)).station (links s g store e cs) figures ok
