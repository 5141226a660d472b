-- Assumes nothing.
use mathlib.Core.Path.{◌≡◌, ap, ◌∙◌}
use mathlib.Core.List.{List}
use Prim.Native.Nat.{ℕ, ◌+◌, ◌-◌}
use native.Mathlib.Omega.{arith}
use lib.ListN.{length, set, take, drop, replicate, length-drop}
use lib.Seq.{length-take-le}
use borrow.Rule.Slice.PartMut.{put_mid}
use Rattle.outbox.proofs.Said as P
use Rattle.outbox.proofs.marks.start.Goals as goal

pub returns : goal.returns
returns c =
    let a = c.args in
    let d = a.marks.now in
    let p = c.requires in
    let z : a.off + a.n - a.off ≡ a.n = omega arith in
    let l : length (take a.n (drop a.off d)) ≡ a.n = length-take-le a.n (drop a.off d) (omega (arith, length-drop a.off d)) in
    let w : length (take (a.off + a.n - a.off) (drop a.off d)) ≡ a.n = ap (λ (n : ℕ). length (take n (drop a.off d))) z ∙ l in
    let r : c.fill.new.self ≡ replicate (length (take (a.off + a.n - a.off) (drop a.off d))) 0 = c.fill.ensures.after (λ y e. e) in
    let f : c.fill.new.self ≡ replicate a.n 0 = r ∙ ap (λ (n : ℕ). replicate n 0) w in
    ap (λ (n : ℕ). set (put_mid a.off n d c.fill.new.self) a.off 1) z
    ∙ ap (λ (x : List ℕ). set (put_mid a.off a.n d x) a.off 1) f
    ∙ P.begun_marks d a.off a.n p.0 p.1
