-- Where each boat's relay is a boat, all charges are the credits and the takings together. Knows nothing of the calls. Assumes nothing.
use mathlib.Core.Path.{◌≡◌, refl, sym, ap, ◌∙◌}
use mathlib.Core.Bool.{Bool, true, false, cond}
use mathlib.Core.List.{List}
use mathlib.Core.Logic.{◌⊎◌, ⊎_elim}
use Prim.Native.Nat.{ℕ, ◌+◌}
use native.Mathlib.Omega.{arith}
use lib.Dec.{eqb}
use lib.ListN.{get_or}
use borrow.Author.Tests.{ne_eqb}
use Rattle.net.specs.declared.Station.{Station}
use Rattle.net.specs.Net.{is_member}
use Rattle.net.proofs.Laws.{member_lt, member_none}
use Rattle.dues.specs.Dues.{slots_from, per_slot, total, charge_of, tenth_of, charge_at, relay_of, credit_from, credit_of, tenth_to, taking_by, taking_of, takings_of}
use Rattle.dues.proofs.Cents.{whole}
use Rattle.dues.proofs.Sums.{sum_ext, sum_none, sum_both, sum_swap, sum_given}

-- ---- one charge: what its relay is credited, and what the port takes

charge_parts : (used relay cents : ℕ) → (relay ≡ 63) ⊎ (is_member used relay ≡ true) → cents ≡ tenth_to used relay cents + taking_by relay cents
charge_parts used relay cents h =
    ⊎_elim
    (λ e. rw (e, member_none used 63 (omega arith)) (omega arith))
    (λ m. let l = member_lt used relay m in rw (m, ne_eqb relay 63 (λ z. omega arith)) (whole cents))
    h

no_parts : (used relay : ℕ) → 0 ≡ tenth_to used relay 0 + taking_by relay 0
no_parts used relay = go (is_member used relay) (eqb relay 63)
  where
    go : (a b : Bool) → ◌≡◌ {A = ℕ} 0 (cond a 0 0 + cond b 0 0)
    go true true = refl
    go true false = refl
    go false true = refl
    go false false = refl

sum_if : (b : Bool) (f : ℕ → ℕ) (n i : ℕ) → cond b (total (slots_from f n i)) 0 ≡ total (slots_from (λ j. cond b (f j) 0) n i)
sum_if true f n i = refl
sum_if false f n i = sym (sum_none (λ j. 0) n i (λ j l q. refl))

module _ (s : Station) (figures : List ℕ) where
  -- the credits on all lines are the tenths of all charges whose relay is a boat
  credits_are : total (per_slot (credit_of s figures)) ≡ total (per_slot (λ i. tenth_to s.used (relay_of s i) (charge_at s figures i)))
  unfolding credit_of
  credits_are =
      sum_ext (credit_of s figures) (λ r. total (per_slot (λ i. cond (is_member s.used r) (credit_from s figures r i) 0))) 62 0
      (λ r l q. sum_if (is_member s.used r) (credit_from s figures r) 62 0)
      ∙ sum_swap (λ r i. cond (is_member s.used r) (credit_from s figures r i) 0) 62 0 62 0
      ∙ sum_ext _ (λ i. tenth_to s.used (relay_of s i) (charge_at s figures i)) 62 0
      (λ i l q. sum_given (is_member s.used) (relay_of s i) (tenth_of (charge_at s figures i)) (member_lt s.used (relay_of s i)))

  module _ (relays : (i : ℕ) → is_member s.used i ≡ true → (relay_of s i ≡ 63) ⊎ (is_member s.used (relay_of s i) ≡ true)) where
    line_parts : (i : ℕ) → charge_at s figures i ≡ tenth_to s.used (relay_of s i) (charge_at s figures i) + taking_of s figures i
    line_parts i = go (is_member s.used i) refl
      where
        go : (b : Bool) → is_member s.used i ≡ b
            → cond b (charge_of (get_or figures i 0)) 0
            ≡ tenth_to s.used (relay_of s i) (cond b (charge_of (get_or figures i 0)) 0) + taking_by (relay_of s i) (cond b (charge_of (get_or figures i 0)) 0)
        go true e = charge_parts s.used (relay_of s i) (charge_of (get_or figures i 0)) (relays i e)
        go false e = no_parts s.used (relay_of s i)

    pub balanced : total (per_slot (charge_at s figures)) ≡ total (per_slot (credit_of s figures)) + takings_of s figures
    unfolding takings_of
    balanced =
        sum_ext (charge_at s figures) _ 62 0 (λ i l q. line_parts i)
        ∙ sum_both (λ i. tenth_to s.used (relay_of s i) (charge_at s figures i)) (taking_of s figures) 62 0
        ∙ ap (λ (x : ℕ). x + total (per_slot (taking_of s figures))) (sym credits_are)
