-- What the tests before `to_bits` and `from_bits` show. Assumes nothing.
use mathlib.Core.Path.{◌≡◌, sym, ap, ◌∙◌, subst}
use mathlib.Core.Bool.{Bool, true, false, not, ◌||◌}
use lib.Dec.{T}
use lib.Ieee.{Float, nan, inf, fin, eq, is_nan}
use Rattle.level.proofs.Total.{nan_alone}

-- a float that equals itself is no NaN
pub real : (x : Float) → eq x x ≡ true → T (not (is_nan x))
unfolding eq is_nan
real nan h = subst (λ (b : Bool). T b) (sym h) tt
real (inf s) h = tt
real (fin s m e) h = tt

-- a test that answers whether b, and answered no
pub refuted : {r b : Bool} → r ≡ b → r ≡ false → T (not b)
refuted e h = subst (λ (x : Bool). T (not x)) (sym h ∙ e) tt

-- a float is a NaN where it does not equal itself, and only there
pub number : (x : Float) → eq x x ≡ true → is_nan x ≡ false
unfolding is_nan
number x h = sym (nan_alone x) ∙ ap not h

pub no_number : (x : Float) → eq x x ≡ false → is_nan x ≡ true
unfolding is_nan
no_number x h = sym (nan_alone x) ∙ ap not h

pub either : {a b x y : Bool} → a ≡ x → b ≡ y → (a || b) ≡ (x || y)
either {b = b} {x = x} p q = ap (λ (t : Bool). t || b) p ∙ ap (λ (t : Bool). x || t) q
