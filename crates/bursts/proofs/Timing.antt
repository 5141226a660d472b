-- The numbers that a beacon announces are within half a millisecond, where the product is between 1 and 65,535 milliseconds. Assumes nothing.
use mathlib.Core.Path.{◌≡◌, sym, ap, ◌∙◌, subst}
use mathlib.Core.Bool.{false}
use Prim.Native.Nat.{ℕ, zero, suc, ◌*◌, ◌<◌, ◌≤◌}
use native.Mathlib.Omega.{arith}
use borrow.Author.Tests.{ne_eqb}
use lib.IntN.{ℤ}
use lib.Ieee.{Float, fin, up, down, sub, binary64}
use lib.Ieee.Fits.{down_pos}
use Rattle.bits.proofs.Lists.{cond_false}
use Rattle.level.specs.Order.{is_nan}
use Rattle.rounding.specs.Round.{announced, Close}
use Rattle.rounding.proofs.Rounding.{announced_close}
use Rattle.net.specs.declared.Settings.{Settings}
use Rattle.net.specs.Net.{plus, times, slot_len}
use Rattle.bursts.specs.Bursts.{thousand, beacon_lasts, first_ms, or_one, len_ms}

-- where slot 0 starts
pub first_close : (g : Settings) (acks m : ℕ) (e : ℤ)
    → times (plus (plus (plus (sub binary64 (beacon_lasts g acks) g.lead) g.turnaround) g.lead) g.latency) thousand ≡ fin false m e
    → m * up e ≤ 65535 * down e → Close (first_ms g acks) (m * up e) (down e)
first_close g acks m e p h = subst (λ (x : Float). Close (announced x) (m * up e) (down e)) (sym p) (announced_close m e h)

-- a number within one half of 1 or more is not 0, so that the clamp to 1 leaves it
or_one_lem : (r num den : ℕ) → 0 < den → den ≤ num → Close r num den → or_one r ≡ r
or_one_lem zero num den d h c = absurd (let b = c.below in omega arith)
or_one_lem (suc r) num den d h c = rw (ne_eqb (suc r) 0 (λ e. omega arith))

-- the slot length
pub len_close : (g : Settings) (m : ℕ) (e : ℤ) → times (slot_len g) thousand ≡ fin false m e
    → down e ≤ m * up e → m * up e ≤ 65535 * down e → Close (len_ms g) (m * up e) (down e)
len_close g m e p l h =
    let c : Close (announced (times (slot_len g) thousand)) (m * up e) (down e) = subst (λ (x : Float). Close (announced x) (m * up e) (down e)) (sym p) (announced_close m e h) in
    let n : is_nan (times (slot_len g) thousand) ≡ false = ap is_nan p in
    subst (λ (r : ℕ). Close r (m * up e) (down e)) (sym (cond_false _ _ _ n ∙ or_one_lem (announced (times (slot_len g) thousand)) (m * up e) (down e) (down_pos e) l c)) c
