use mathlib.Core.Path.{◌≡◌, sym, ap, ◌∙◌}
use mathlib.Core.List.{List, []}
use Prim.Native.Nat.{ℕ, ◌+◌, ◌*◌, ◌-◌, ◌<◌}
use native.Mathlib.Omega.{arith}
use lib.ListN.{length, get_or}
use Rattle.wire.specs.Call.{packed, unpacked}
use Rattle.std.proofs.lemmas.Slice.{put_mid-paste}
use Rattle.sheet.specs.Sheet.{short_calls}
use Rattle.sheet.proofs.Theorems.{seven, number_back}
use Rattle.sheet.proofs.put_call.Goals as goal

-- what is read from the number of call k
is_call : (k : ℕ) {v : ℕ} {r : List ℕ} → k < 1407 → v ≡ packed (get_or short_calls k []) → r ≡ unpacked v → r ≡ get_or short_calls k []
is_call k h e f = f ∙ ap unpacked e ∙ number_back k h

pub returns : goal.returns
returns c =
    let a = c.args in
    let u = c.unpack_number in
    let e = is_call a.k c.requires.0 c.number_at.ensures u.ensures in
    let n : 7 ≡ length (get_or short_calls a.k []) = sym (seven a.k c.requires.0) in
    put_mid-paste (7 * a.k) (7 * a.k + 7 - 7 * a.k) a.out.now c.copy_from_slice.new.self (get_or short_calls a.k []) 7 (c.copy_from_slice.ensures.after ∙ e) (omega arith) n
