-- Each choice of a relay is a slot below 62 of the mask that it was made from, or 63 for nobody.
-- Assumes nothing.
use Prim.Native.Nat.{ℕ, ◌-◌, ◌^◌, ◌<◌, ◌≤◌}
use mathlib.Core.Path.{◌≡◌, refl, sym, ap, ◌∙◌, subst}
use mathlib.Core.Bool.{Bool, true, false, cond, ◌&&◌}
use mathlib.Core.List.{List}
use mathlib.Core.Logic.{◌⊎◌, ◌≢◌, ⊎_elim, inl, inr}
use native.Mathlib.Omega.{arith}
use lib.Dec.{eqb, ltb}
use lib.ListN.{get_or}
use Rattle.std.specs.Prelude.{Option, Some, None}
use lib.Ieee.{Float}
use borrow.Author.Tests.{eqb-true, lt-ltb, le-ltb}
use Rattle.bits.specs.Loop.{first}
use Rattle.bits.specs.Mask.{has_bit, without_bit, both_of, minus_of}
use Rattle.bits.proofs.Lists.{cond_keeps, and_true, never_both, eq_or_not}
use Rattle.bits.proofs.Laws.{has_none, has_both, without_same, without_other}
use Rattle.bits.proofs.Loops.{fold_keeps_below, first_none, first_found}
use Rattle.roster.specs.declared.relay.Pick.{Pick}
use Rattle.roster.specs.Relays.{heard_at, loud_enough, pick_of, picked_slot, wins, best_step, best_of, best_low, best_high, is_source, slot_or63, relayer_for, relay_src_for}

-- a slot of the mask, or 63
abbrev pub SlotOf : ℕ → ℕ → Type 0
SlotOf mask r = ((r < 62) × (has_bit mask r ≡ true)) ⊎ (r ≡ 63)

pub slot_or_63 : (mask : ℕ) {r : ℕ} → SlotOf mask r → (r < 62) ⊎ (r ≡ 63)
slot_or_63 mask s = ⊎_elim (λ h. inl h.0) (λ e. inr e) s

pub slot_in : (mask : ℕ) {r : ℕ} → SlotOf mask r → r < 62 → has_bit mask r ≡ true
slot_in mask s l = ⊎_elim (λ h. h.1) (λ e. absurd (omega arith)) s

slot_more : (m n : ℕ) {r : ℕ} → ((i : ℕ) → has_bit m i ≡ true → has_bit n i ≡ true) → SlotOf m r → SlotOf n r
slot_more m n f s = ⊎_elim (λ h. inl (h.0, f _ h.1)) (λ e. inr e) s

-- ---- what is in a mask without a slot, or without another mask's slots

pub without_in : (m i j : ℕ) → has_bit (without_bit m i) j ≡ true → (has_bit m j ≡ true) × (j ≢ i)
without_in m i j h =
    ⊎_elim
    (λ e. absurd (never_both (has_bit (without_bit m j) j) (subst (λ k. has_bit (without_bit m k) j ≡ true) e h) (without_same m j)))
    (λ n. (sym (without_other m i j n) ∙ h, λ e. n (sym e)))
    (eq_or_not i j)

pub minus_in : (a b i : ℕ) → has_bit (minus_of a b) i ≡ true → has_bit a i ≡ true
unfolding minus_of both_of
minus_in a b i h = (and_true _ _ (sym (has_both a (2 ^ 64 - 1 - b) i) ∙ h)).0

-- ---- the best of several

pick_keeps : (able i q : ℕ) (loud better : Bool) (p : Option Pick) → i < 62 → SlotOf able (picked_slot p) → SlotOf able (picked_slot (cond (has_bit able i && loud && better) (Some (pick_of i q)) p))
pick_keeps able i q loud better p h g =
    cond_keeps
    (λ (x : Option Pick). SlotOf able (picked_slot x))
    (has_bit able i && loud && better)
    (Some (pick_of i q))
    p
    (λ e. inl (h, (and_true (has_bit able i) loud (and_true (has_bit able i && loud) better e).0).0))
    (λ e. g)

module _ (hears : List ℕ) (able a : ℕ) (floor : Float) where
  best_slot : (last : Bool) → SlotOf able (best_of last hears able a floor)
  best_slot last =
      fold_keeps_below
      (λ (x : Option Pick). SlotOf able (picked_slot x))
      (best_step last hears able a floor)
      62
      0
      (λ i p l h g. pick_keeps able i (heard_at hears i a) (loud_enough (heard_at hears i a) floor) (wins last p (heard_at hears i a)) p h g)
      None
      (inr refl)

  pub best_low_of : SlotOf able (best_low hears able a floor)
  unfolding best_low
  best_low_of = best_slot false

  pub best_high_of : SlotOf able (best_high hears able a floor)
  unfolding best_high
  best_high_of = best_slot true

  pub best_low_slot : (best_low hears able a floor < 62) ⊎ (best_low hears able a floor ≡ 63)
  best_low_slot = slot_or_63 able best_low_of

  pub best_high_slot : (best_high hears able a floor < 62) ⊎ (best_high hears able a floor ≡ 63)
  best_high_slot = slot_or_63 able best_high_of

  pub best_low_able : (r : ℕ) → best_low hears able a floor ≡ r → r < 62 → has_bit able r ≡ true
  best_low_able r e = slot_in able (subst (SlotOf able) e best_low_of)

  pub best_high_able : (r : ℕ) → best_high hears able a floor ≡ r → r < 62 → has_bit able r ≡ true
  best_high_able r e = slot_in able (subst (SlotOf able) e best_high_of)

-- ---- the relayer of a station, and the station that a member is to relay

module _ (hears : List ℕ) (able tried a : ℕ) (floor : Float) where
  pub relayer_of : SlotOf (without_bit able a) (relayer_for hears able tried a floor)
  unfolding relayer_for
  relayer_of =
      cond_keeps
      (SlotOf (without_bit able a))
      (eqb (best_low hears (minus_of (without_bit able a) tried) a floor) 63)
      (best_low hears (without_bit able a) a floor)
      (best_low hears (minus_of (without_bit able a) tried) a floor)
      (λ e. best_low_of hears (without_bit able a) a floor)
      (λ e. slot_more (minus_of (without_bit able a) tried) (without_bit able a) (minus_in (without_bit able a) tried) (best_low_of hears (minus_of (without_bit able a) tried) a floor))

  pub relayer_slot : (relayer_for hears able tried a floor < 62) ⊎ (relayer_for hears able tried a floor ≡ 63)
  relayer_slot = slot_or_63 (without_bit able a) relayer_of

  -- it is able, and not the station itself
  pub relayer_able : (r : ℕ) → relayer_for hears able tried a floor ≡ r → r < 62 → (has_bit able r ≡ true) × (r ≢ a)
  relayer_able r e l = without_in able a r (slot_in (without_bit able a) (subst (SlotOf (without_bit able a)) e relayer_of) l)

module _ (hears : List ℕ) (needs able : ℕ) (tried : List ℕ) (slot : ℕ) (floor : Float) where
  source_by : (f : Option ℕ) → first (is_source hears (without_bit needs slot) able tried slot floor) 62 0 ≡ f → SlotOf (without_bit needs slot) (slot_or63 f)
  source_by (Some s) e =
      let h = first_found (is_source hears (without_bit needs slot) able tried slot floor) 62 0 s e in
      inl (h.0, (and_true (has_bit (without_bit needs slot) s) (eqb (relayer_for hears able (get_or tried s 0) s floor) slot) h.1).0)
  source_by None e = inr refl

  pub source_of : SlotOf (without_bit needs slot) (relay_src_for hears needs able tried slot floor)
  unfolding relay_src_for
  source_of = cond_keeps (SlotOf (without_bit needs slot)) (ltb slot 62) _ 63 (λ _. source_by _ refl) (λ _. inr refl)

  pub source_slot : (relay_src_for hears needs able tried slot floor < 62) ⊎ (relay_src_for hears needs able tried slot floor ≡ 63)
  source_slot = slot_or_63 (without_bit needs slot) source_of

  -- it needs a relay, and is not the member itself
  pub source_needs : (r : ℕ) → relay_src_for hears needs able tried slot floor ≡ r → r < 62 → (has_bit needs r ≡ true) × (r ≢ slot)
  source_needs r e l = without_in needs slot r (slot_in (without_bit needs slot) (subst (SlotOf (without_bit needs slot)) e source_of) l)

  relayed_by_lem : (r : ℕ) (f : Option ℕ) → first (is_source hears (without_bit needs slot) able tried slot floor) 62 0 ≡ f → slot_or63 f ≡ r → r < 62 → relayer_for hears able (get_or tried r 0) r floor ≡ slot
  relayed_by_lem r (Some s) e q l =
      let h = first_found (is_source hears (without_bit needs slot) able tried slot floor) 62 0 s e in
      subst (λ k. relayer_for hears able (get_or tried k 0) k floor ≡ slot) q (eqb-true _ _ (and_true (has_bit (without_bit needs slot) s) (eqb (relayer_for hears able (get_or tried s 0) s floor) slot) h.1).1)
  relayed_by_lem r None e q l = absurd (omega arith)

  relayed_at : (b : Bool) (r : ℕ) → cond b (slot_or63 (first (is_source hears (without_bit needs slot) able tried slot floor) 62 0)) 63 ≡ r → r < 62 → relayer_for hears able (get_or tried r 0) r floor ≡ slot
  relayed_at true r e l = relayed_by_lem r _ refl e l
  relayed_at false r e l = absurd (omega arith)

  -- its relayer is that member
  pub source_relayer : (r : ℕ) → relay_src_for hears needs able tried slot floor ≡ r → r < 62 → relayer_for hears able (get_or tried r 0) r floor ≡ slot
  unfolding relay_src_for
  source_relayer r e l = relayed_at (ltb slot 62) r e l

  -- where none is left, none is chosen
  pub none_left : without_bit needs slot ≡ 0 → relay_src_for hears needs able tried slot floor ≡ 63
  unfolding relay_src_for
  none_left e = none_by (ltb slot 62) (rw e (ap slot_or63 (first_none (is_source hears 0 able tried slot floor) 62 (λ j h. rw (has_none j)))))
    where
      none_by : (b : Bool) {x : ℕ} → x ≡ 63 → cond b x 63 ≡ 63
      none_by true e = e
      none_by false e = refl

  -- nor where there is no such slot
  pub no_slot : 62 ≤ slot → relay_src_for hears needs able tried slot floor ≡ 63
  unfolding relay_src_for
  no_slot h = rw (le-ltb slot 62 h)

  pub at_slot : slot < 62 → slot_or63 (first (is_source hears (without_bit needs slot) able tried slot floor) 62 0) ≡ relay_src_for hears needs able tried slot floor
  unfolding relay_src_for
  at_slot h = rw (lt-ltb slot 62 h)
