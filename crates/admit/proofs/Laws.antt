-- Seats: a seat's slot is below 62, a known boat's is in use and a newcomer's is free. Relays: one step of the way.
-- Assumes nothing.
use Rattle.std.specs.Prelude.{Option, Some, None}
use mathlib.Core.Path.{◌≡◌}
use mathlib.Core.Bool.{true, false}
use mathlib.Core.List.{List}
use Prim.Native.Nat.{ℕ, suc, ◌<◌, ◌≤◌, ◌-◌, ◌+◌, ◌%◌}
use native.Mathlib.Omega.{arith}
use lib.Dec.{eqb}
use lib.ListN.{get_or}
use borrow.Author.Tests.{eq-eqb, ne_eqb}
use Rattle.bits.specs.Mask.{has_bit, lowest_free}
use Rattle.bits.proofs.Laws.{free_lt, free_is}
use Rattle.bits.proofs.Lists.{and_true}
use Rattle.bits.proofs.Loops.{first_found, first_lt}
use Rattle.wire.specs.Call.{key_of}
use Rattle.roster.specs.Members.{no_member}
use Rattle.net.specs.declared.Station.{Station}
use Rattle.net.specs.State.{member_at}
use Rattle.net.specs.Net.{is_member}
use Rattle.admit.specs.declared.Seat.TheVariants.{Known, Free, Full}
use Rattle.admit.specs.Admission.{has_call, find_call, seat_by, seat_of, leads_to}

-- ### Seats

module _ (s : Station) (key i : ℕ) (e : find_call s key ≡ Some i) where
  pub find_lt : i < 62
  unfolding find_call
  find_lt = first_lt (has_call s key) 62 i e

  pub find_has : has_call s key i ≡ true
  unfolding find_call
  find_has = (first_found (has_call s key) 62 0 i e).1

known_by : (f g : Option ℕ) (i : ℕ) → seat_by f g ≡ Known i → f ≡ Some i
known_by (Some j) g i e = cc
known_by None (Some j) i e = cc
known_by None None i e = cc

free_by : (f g : Option ℕ) (i : ℕ) → seat_by f g ≡ Free i → g ≡ Some i
free_by (Some j) g i e = cc
free_by None (Some j) i e = cc
free_by None None i e = cc

module _ (s : Station) (call : List ℕ) (i : ℕ) where
  known_found : seat_of s call ≡ Known i → find_call s (key_of call) ≡ Some i
  unfolding seat_of
  known_found e = known_by (find_call s (key_of call)) (lowest_free s.used 62) i e

  free_found : seat_of s call ≡ Free i → lowest_free s.used 62 ≡ Some i
  unfolding seat_of
  free_found e = free_by (find_call s (key_of call)) (lowest_free s.used 62) i e

  pub known_lt : seat_of s call ≡ Known i → i < 62
  known_lt e = find_lt s (key_of call) i (known_found e)

  pub known_used : seat_of s call ≡ Known i → has_bit s.used i ≡ true
  known_used e = (and_true (has_bit s.used i) (eqb (key_of (get_or s.members i no_member).call) (key_of call)) (find_has s (key_of call) i (known_found e))).0

  pub known_call : seat_of s call ≡ Known i → eqb (key_of (get_or s.members i no_member).call) (key_of call) ≡ true
  known_call e = (and_true (has_bit s.used i) (eqb (key_of (get_or s.members i no_member).call) (key_of call)) (find_has s (key_of call) i (known_found e))).1

  pub seat_lt : seat_of s call ≡ Free i → i < 62
  seat_lt e = free_lt s.used 62 i (free_found e)

  pub seat_free : seat_of s call ≡ Free i → has_bit s.used i ≡ false
  seat_free e = free_is s.used 62 i (free_found e)

-- a slot found is below 256, so that a byte holds it
module _ (s : Station) (call : List ℕ) (key : ℕ) (k : key ≡ key_of call) where
  pub seat_known : (i : ℕ) → find_call s key ≡ Some i → Known (i % 256) ≡ seat_of s call
  unfolding seat_of
  seat_known i e =
      let m : i % 256 ≡ i = omega (arith, find_lt s key i e) in
      rw (m, ← k, e)

  pub seat_newcomer : (i : ℕ) → find_call s key ≡ None → lowest_free s.used 62 ≡ Some i → Free (i % 256) ≡ seat_of s call
  unfolding seat_of
  seat_newcomer i e f =
      let m : i % 256 ≡ i = omega (arith, free_lt s.used 62 i f) in
      rw (m, ← k, e, f)

  pub seat_none : find_call s key ≡ None → lowest_free s.used 62 ≡ None → Full ≡ seat_of s call
  unfolding seat_of
  seat_none e f = rw (← k, e, f)

-- ### Relays

left : (n : ℕ) → n < 62 → 62 - n ≡ suc (62 - (n + 1))
left n h = omega arith

module _ (n : ℕ) (s : Station) (at to : ℕ) where
  pub leads_there : n < 62 → at ≡ to → leads_to (62 - n) s at to ≡ true
  unfolding leads_to
  leads_there h e = rw (left n h, eq-eqb at to e)

  pub leads_off : n < 62 → (at ≡ to → ⊥) → is_member s.used at ≡ false → leads_to (62 - n) s at to ≡ false
  unfolding leads_to
  leads_off h e g = rw (left n h, ne_eqb at to e, g)

  pub leads_on : n < 62 → (at ≡ to → ⊥) → is_member s.used at ≡ true → leads_to (62 - n) s at to ≡ leads_to (62 - (n + 1)) s (member_at s at).via to
  unfolding leads_to
  leads_on h e g = rw (left n h, ne_eqb at to e, g)

  pub leads_end : 62 ≤ n → leads_to (62 - n) s at to ≡ false
  unfolding leads_to
  leads_end h =
      let e : 62 - n ≡ 0 = omega arith in
      rw e
