-- What `least_of` gives is one of the readings, and none of them is below it. Assumes nothing.
use mathlib.Core.Path.{◌≡◌, refl, sym, subst}
use mathlib.Core.Logic.{◌⊎◌, inl, inr}
use mathlib.Core.Bool.{Bool, true, false}
use mathlib.Core.List.{List, [], ◌∷◌, Memᴰ}
use lib.Dec.{T}
use lib.Ieee.{Float}
use lib.Ieee.Scale.{finite}
use Rattle.bits.proofs.Lists.{cond_keeps}
use Rattle.level.specs.declared.Level.{Level}
use Rattle.level.specs.declared.Level.TheVariants.{Unheard, Decibels}
use Rattle.level.specs.Order.{total_lt}
use Rattle.level.proofs.Total.{total_trans, total_irrefl}
use Rattle.recent.specs.Readings.{lower, least_from, least_of, OneOf, Finite, NotBelow, Lowest}

-- ---- one of them

abbrev From : Level → Level → List Float → Type 0
From low l xs = (l ≡ low) ⊎ ((y : Float) × (l ≡ Decibels y) × Memᴰ y xs)

later : (low l : Level) (x : Float) (xs : List Float) → From (lower low x) l xs → From low l (x ∷ xs)
later Unheard l x xs (inl e) = inr (x, e, Memᴰ.head refl)
later (Decibels y) l x xs (inl e) =
    cond_keeps (λ (z : Level). l ≡ z → From (Decibels y) l (x ∷ xs)) (total_lt x y) (Decibels x) (Decibels y) (λ _ q. inr (x, q, Memᴰ.head refl)) (λ _ q. inl q) e
later low l x xs (inr (y, e, m)) = inr (y, e, Memᴰ.tail m)

from : (low : Level) (xs : List Float) → From low (least_from low xs) xs
unfolding least_from
from low [] = inl refl
from low (x ∷ xs) = later low (least_from (lower low x) xs) x xs (from (lower low x) xs)

never_unheard : (y : Float) (xs : List Float) → least_from (Decibels y) xs ≡ Unheard → ⊥
unfolding least_from
never_unheard y [] e = heard_not y e
  where
    heard_not : (y : Float) → Decibels y ≡ Unheard → ⊥
    heard_not y e = subst (λ (l : Level). is l) e tt
      where
        is : Level → Type 0
        is Unheard = ⊥
        is (Decibels y) = Unit {0}
never_unheard y (x ∷ xs) e =
    cond_keeps (λ (l : Level). least_from l xs ≡ Unheard → ⊥) (total_lt x y) (Decibels x) (Decibels y) (λ _. never_unheard x xs) (λ _. never_unheard y xs) e

one_of : (xs : List Float) (l : Level) → least_of xs ≡ l → From Unheard l xs → OneOf l xs
unfolding least_from
one_of [] Unheard e f = refl
one_of (x ∷ xs) Unheard e f = absurd (never_unheard x xs e)
one_of xs (Decibels y) e (inl q) = absurd (never_unheard y [] q)
one_of xs (Decibels y) e (inr (z, q, m)) = subst (λ (l : Level). OneOf l xs) (sym q) m

-- ---- none below it

abbrev FiniteLevel : Level → Type 0
FiniteLevel Unheard = Unit {0}
FiniteLevel (Decibels y) = T (finite y)

lower_finite : (low : Level) (x : Float) → FiniteLevel low → T (finite x) → FiniteLevel (lower low x)
lower_finite Unheard x f h = h
lower_finite (Decibels y) x f h = cond_keeps FiniteLevel (total_lt x y) (Decibels x) (Decibels y) (λ _. h) (λ _. f)

no : (b : Bool) → (T b → ⊥) → b ≡ false
no true f = absurd (f tt)
no false f = refl

yes : (b : Bool) → b ≡ true → T b
yes b e = subst T (sym e) tt

not : (b : Bool) → b ≡ false → T b → ⊥
not b e t = subst T e t

lower_new : (low : Level) (x : Float) → T (finite x) → NotBelow (lower low x) x
lower_new Unheard x h = no (total_lt x x) (total_irrefl x h)
lower_new (Decibels y) x h =
    cond_keeps (λ (l : Level). NotBelow l x) (total_lt x y) (Decibels x) (Decibels y) (λ _. no (total_lt x x) (total_irrefl x h)) (λ e. e)

lower_keeps : (low : Level) (x z : Float) → FiniteLevel low → T (finite x) → T (finite z) → NotBelow low z → NotBelow (lower low x) z
lower_keeps Unheard x z f h k b = absurd b
lower_keeps (Decibels y) x z f h k b =
    cond_keeps (λ (l : Level). NotBelow l z) (total_lt x y) (Decibels x) (Decibels y)
    (λ e. no (total_lt z x) (λ t. not (total_lt z y) b (total_trans z x y k h f t (yes (total_lt x y) e)))) (λ _. b)

least_keeps : (low : Level) (xs : List Float) (z : Float) → FiniteLevel low → Finite xs → T (finite z) → NotBelow low z → NotBelow (least_from low xs) z
unfolding least_from
least_keeps low [] z f h k b = b
least_keeps low (x ∷ xs) z f h k b = least_keeps (lower low x) xs z (lower_finite low x f h.0) h.1 k (lower_keeps low x z f h.0 k b)

least_all : (low : Level) (xs : List Float) → FiniteLevel low → Finite xs → (z : Float) → Memᴰ z xs → NotBelow (least_from low xs) z
unfolding least_from
least_all low [] f h z m = elim m [ ]
least_all low (x ∷ xs) f h z (Memᴰ.head e) =
    subst (λ (w : Float). NotBelow (least_from (lower low x) xs) w) (sym e)
    (least_keeps (lower low x) xs x (lower_finite low x f h.0) h.1 h.0 (lower_new low x h.0))
least_all low (x ∷ xs) f h z (Memᴰ.tail m) = least_all (lower low x) xs (lower_finite low x f h.0) h.1 z m

pub lowest : (xs : List Float) → Lowest (least_of xs) xs
lowest xs = record { one = one_of xs (least_of xs) refl (from Unheard xs); none = λ f. least_all Unheard xs tt f }
