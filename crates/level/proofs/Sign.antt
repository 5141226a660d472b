-- What std says of a value's sign, and whether it is a NaN, is what `Order` says. Assumes nothing.
use mathlib.Core.Path.{◌≡◌, refl, sym}
use mathlib.Core.Bool.{true, false, false≢true}
use lib.Ieee.{Float, nan, inf, fin}
use Rattle.std.specs.Float.{is_sign_negative}
use Rattle.level.specs.Order.{negative, is_nan}

pub nan_is : (x : Float) → lib.Ieee.is_nan x ≡ is_nan x
unfolding lib.Ieee.is_nan
nan_is nan = refl
nan_is (inf s) = refl
nan_is (fin s m e) = refl

pub sign_is : (x : Float) → is_sign_negative x ≡ negative x
unfolding is_sign_negative
sign_is nan = refl
sign_is (inf s) = refl
sign_is (fin s m e) = refl

pub nan_unsigned : (x : Float) → true ≡ lib.Ieee.is_nan x → false ≡ negative x
unfolding lib.Ieee.is_nan
nan_unsigned nan e = refl
nan_unsigned (inf s) e = absurd (false≢true (sym e))
nan_unsigned (fin s m k) e = absurd (false≢true (sym e))
