-- Updates of windows, run over the rings: the rings hold the last 32 readings of each slot. Assumes nothing.
use mathlib.Core.Path.{◌≡◌, refl, sym, ap, ◌∙◌}
use mathlib.Core.Logic.{⊎_elim}
use mathlib.Core.Bool.{Bool, true, false, cond}
use mathlib.Core.List.{List, [], ◌∷◌, ◌++◌}
use Prim.Native.Nat.{ℕ, zero, suc, ◌<◌}
use native.Mathlib.Omega.{arith}
use lib.Dec.{eqb}
use lib.Ieee.{Float, binary32, of_bits}
use lib.ListN.{length, get_or, set, take, length-set, length-replicate, get_or-replicate}
use lib.Seq.{get_or-set_same, get_or-set_other}
use borrow.Author.Tests.{eq-eqb, ne_eqb}
use Rattle.bits.specs.Loop.{fold}
use Rattle.bits.proofs.Lists.{eq_or_not}
use Rattle.recent.specs.declared.Recent.{Recent}
use Rattle.recent.specs.Readings.{no_recent, empty, noted, readings}
use Rattle.recent.proofs.Rings.{noted_length, empty_last, noted_last}
use Rattle.net.specs.declared.Station.{Station}
use Rattle.net.specs.declared.Settings.{Settings}
use Rattle.net.specs.Net.{new_station}
use Rattle.laws.specs.Worst.{Update, measured, emptied, also_read, readings_of, of_slots}

-- ---- the rings after some updates

abbrev pub applied : List Update → List Recent → List Recent
applied [] rs = rs
applied (measured j x ∷ us) rs = applied us (set rs j (noted (get_or rs j no_recent) x))
applied (emptied j ∷ us) rs = applied us (set rs j empty)

pub applied_both : (us vs : List Update) (rs : List Recent) → applied (us ++ vs) rs ≡ applied vs (applied us rs)
applied_both [] vs rs = refl
applied_both (measured j x ∷ us) vs rs = applied_both us vs (set rs j (noted (get_or rs j no_recent) x))
applied_both (emptied j ∷ us) vs rs = applied_both us vs (set rs j empty)

-- the rings of t are those of s after the updates
abbrev pub Follows : Station → Station → List Update → Type 0
Follows s t us = t.recent ≡ applied us s.recent

pub follow : {ss ts : List Recent} (rs : List Recent) (us vs : List Update) → ss ≡ applied us rs → ts ≡ applied vs ss → ts ≡ applied (us ++ vs) rs
follow rs us vs p q = q ∙ ap (applied vs) p ∙ sym (applied_both us vs rs)

-- by a test; st is the station of what is chosen
pub follow_cond : {A : Type 0} (st : A → Station) (s : Station) (b : Bool) (x y : A) (us vs : List Update)
    → (b ≡ true → Follows s (st x) us) → (b ≡ false → Follows s (st y) vs) → Follows s (st (cond b x y)) (cond b us vs)
follow_cond st s true x y us vs p q = p refl
follow_cond st s false x y us vs p q = q refl

-- slot by slot, where P is known before each
pub follow_slots : {A : Type 0} (st : A → Station) (f : ℕ → A → A) (g : ℕ → List Update) (P : ℕ → A → Type 0)
    → ((i : ℕ) (x : A) → P i x → Follows (st x) (st (f i x)) (g i) × P (suc i) (f i x)) → (n i : ℕ) (x : A) → P i x
    → Follows (st x) (st (fold f n i x)) (of_slots g n i)
unfolding fold of_slots
follow_slots st f g P h zero i x p = refl
follow_slots st f g P h (suc n) i x p =
    let q = h i x p in
    follow (st x).recent (g i) (of_slots g n (suc i)) q.0 (follow_slots st f g P h n (suc i) (f i x) q.1)

-- ---- they hold the last 32 readings of each slot

pub record Holds (rs : List Recent) (R : ℕ → List Float) : Type 0 where
  pub long : length rs ≡ 62
  pub wide : (i : ℕ) → i < 62 → length (get_or rs i no_recent).levels ≡ 32
  pub last : (i : ℕ) → i < 62 → readings (get_or rs i no_recent) ≡ take 32 (R i)

-- a ring is written at slot j
module _ (rs : List Recent) (j : ℕ) (r : Recent) (long : length rs ≡ 62) where
  at_slot : (P : Recent → Type 0) (i : ℕ) → i < 62 → (i ≡ j → P r) → ((i ≡ j → ⊥) → P (get_or rs i no_recent)) → P (get_or (set rs j r) i no_recent)
  at_slot P i l p q =
      ⊎_elim
      (λ e. rw (e, get_or-set_same rs j r no_recent (omega arith)) (p e))
      (λ z. rw (get_or-set_other rs j i r no_recent z) (q z)) (eq_or_not i j)

update_holds : (u : Update) (rs : List Recent) (R : ℕ → List Float) → Holds rs R → Holds (applied (u ∷ []) rs) (λ i. also_read i u (R i))
update_holds (measured j x) rs R h =
    let r = noted (get_or rs j no_recent) x in
    record {
      long = length-set rs j r ∙ h.long;
      wide = λ i l. at_slot rs j r h.long (λ (y : Recent). length y.levels ≡ 32) i l
          (λ e. noted_length (get_or rs j no_recent) x (ap (λ (k : ℕ). length (get_or rs k no_recent).levels) (sym e) ∙ h.wide i l)) (λ _. h.wide i l);
      last = λ i l. at_slot rs j r h.long (λ (y : Recent). readings y ≡ take 32 (cond (eqb j i) (x ∷ R i) (R i))) i l
          (λ e. rw (eq-eqb j i (sym e))
          (noted_last (get_or rs j no_recent) x (R i) (ap (λ (k : ℕ). length (get_or rs k no_recent).levels) (sym e) ∙ h.wide i l)
          (ap (λ (k : ℕ). readings (get_or rs k no_recent)) (sym e) ∙ h.last i l)))
          (λ z. rw (ne_eqb j i (λ e. z (sym e))) (h.last i l));
    }
update_holds (emptied j) rs R h =
    record {
      long = length-set rs j empty ∙ h.long;
      wide = λ i l. at_slot rs j empty h.long (λ (y : Recent). length y.levels ≡ 32) i l (λ e. length-replicate {A = Float} 32 (of_bits binary32 0)) (λ _. h.wide i l);
      last = λ i l. at_slot rs j empty h.long (λ (y : Recent). readings y ≡ take 32 (cond (eqb j i) [] (R i))) i l
          (λ e. rw (eq-eqb j i (sym e)) empty_last) (λ z. rw (ne_eqb j i (λ e. z (sym e))) (h.last i l));
    }

pub updates_hold : (us : List Update) (rs : List Recent) (R : ℕ → List Float) → Holds rs R → Holds (applied us rs) (λ i. readings_of i us (R i))
unfolding readings_of
updates_hold [] rs R h = h
updates_hold (measured j x ∷ us) rs R h = updates_hold us _ (λ i. also_read i (measured j x) (R i)) (update_holds (measured j x) rs R h)
updates_hold (emptied j ∷ us) rs R h = updates_hold us _ (λ i. also_read i (emptied j) (R i)) (update_holds (emptied j) rs R h)

pub new_holds : (g : Settings) (count : ℕ) → Holds (new_station g count).recent (λ i. [])
unfolding new_station
new_holds g count =
    record {
      long = length-replicate {A = Recent} 62 empty;
      wide = λ i l. ap (λ (r : Recent). length r.levels) (get_or-replicate 62 i empty no_recent l) ∙ length-replicate {A = Float} 32 (of_bits binary32 0);
      last = λ i l. ap readings (get_or-replicate 62 i empty no_recent l) ∙ empty_last;
    }
