-- Assumes nothing.
use mathlib.Core.Path.{◌≡◌, refl, sym, ap, ◌∙◌}
use mathlib.Core.Bool.{Bool, true, false, cond}
use Prim.Native.Nat.{ℕ, ◌<◌}
use native.Mathlib.Omega.{arith}
use mathlib.Core.List.{[]}
use lib.Dec.{ltb}
use borrow.Author.Tests.{ltb-false}
use Rattle.refusal.specs.Numbers.{number_in}
use Rattle.net.specs.Net.{is_member}
use Rattle.signoff.specs.SignOff.{sign_off}
use Rattle.station.specs.SignOff.{sign_off_refusal, sign_off_of}
use Rattle.station.proofs.Laws.{refused_as, done_as}
use Rattle.station.proofs.sign_off.Goals as goal

-- a sign-off that is not refused is of a slot
low_of : (used slot : ℕ) → sign_off_refusal used slot ≡ 0 → slot < 62
unfolding sign_off_refusal
low_of used slot = go (ltb 61 slot) refl
  where
    go : (b : Bool) → ltb 61 slot ≡ b → ◌≡◌ {A = ℕ} (cond b 8 (cond (is_member used slot) 0 21)) 0 → slot < 62
    go true q e = absurd (omega arith)
    go false q e = let z = ltb-false 61 slot q in omega arith

pub sign_off-requires : goal.sign_off-requires
sign_off-requires c = low_of c.args.s.used c.args.slot (sym c.sign_refusal.ensures ∙ ap number_in c.in-Ok.is)

pub returns-in-Ok : goal.returns-in-Ok
unfolding sign_off_of
returns-in-Ok c =
    let a = c.args in
    rw c.sign_off.ensures
    (done_as (sign_off_refusal a.s.used a.slot) a.s (sign_off a.s a.slot) [] [] c.in-Ok.is c.sign_refusal.ensures)

pub returns-in-Err : goal.returns-in-Err
unfolding sign_off_of
returns-in-Err c =
    let a = c.args in
    refused_as (sign_off_refusal a.s.used a.slot) a.s (sign_off a.s a.slot) [] [] c.in-Err.is c.sign_refusal.ensures
