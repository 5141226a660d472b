use mathlib.Core.Path.{◌≡◌, refl, ap, ◌∙◌}
use native.Mathlib.Omega.{arith}
use mathlib.Core.List.{List, ◌++◌}
use Prim.Native.Nat.{ℕ, ◌+◌, ◌-◌, ◌*◌, ◌/◌, ◌%◌}
use lib.ListN.{drop, set, replicate, get_or}
use Rattle.words.specs.Words.{bytes_at, byte_at}
use Rattle.words.proofs.Read.{least_most, payload_more, payload_three, payload_none, word_byte}
use Rattle.words.proofs.payload.Goals as goal

pub returns-then-words-at : goal.returns-then-words-at
returns-then-words-at c = let a = c.args in payload_none a.words.now a.at a.n (omega arith)

pub loop-k-init : goal.loop-k-init
unfolding bytes_at
loop-k-init c = (omega (arith, c.least-m.ensures, least_most c.args.n 255), refl)

pub loop-k-preserved : goal.loop-k-preserved
loop-k-preserved c =
    let a = c.args in
    let k = c.loop-k.k in
    let w = c.word_or_zero in
    let r = c.to_be_bytes in
    let ws = drop a.at a.words.now in
    let z : 3 * k + 0 ≡ 3 * k = omega arith in
    let t : 3 * k + 3 ≡ 3 * (k + 1) = omega arith in
    let b0 : get_or r.result 1 0 ≡ byte_at ws (3 * k) =
    rw r.ensures (ap (λ (x : ℕ). x / 65536 % 256) w.ensures ∙ word_byte a.words.now a.at k 0 (omega arith) ∙ ap (byte_at ws) z) in
    let b1 : get_or r.result 2 0 ≡ byte_at ws (3 * k + 1) =
    rw r.ensures (ap (λ (x : ℕ). x / 256 % 256) w.ensures ∙ word_byte a.words.now a.at k 1 (omega arith)) in
    let b2 : get_or r.result 3 0 ≡ byte_at ws (3 * k + 2) =
    rw r.ensures (ap (λ (x : ℕ). x % 256) w.ensures ∙ word_byte a.words.now a.at k 2 (omega arith)) in (
      c.loop-k.invariant.0,
      ap (λ (o : List ℕ). set (set (set o (3 * k) (get_or r.result 1 0)) (3 * k + 1) (get_or r.result 2 0)) (3 * k + 2) (get_or r.result 3 0)) c.loop-k.invariant.1
          ∙ payload_three ws (3 * k) (get_or r.result 1 0) (get_or r.result 2 0) (get_or r.result 3 0) (omega arith) b0 b1 b2
          ∙ ap (λ (n : ℕ). bytes_at ws n ++ replicate (255 - n) 0) t,
    )

pub loop-j-preserved : goal.loop-j-preserved
loop-j-preserved c =
    let a = c.args in (
      c.loop-j.invariant.0,
      ap (λ (o : List ℕ). set o c.loop-j.j c.payload_byte.result) c.loop-j.invariant.1
          ∙ payload_more (drop a.at a.words.now) c.loop-j.j c.payload_byte.result (omega arith) c.payload_byte.ensures,
    )
