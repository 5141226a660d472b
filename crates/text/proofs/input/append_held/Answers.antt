-- What is appended is what the reader loses: the start of what it holds, up to the first line feed.
use Rattle.std.proofs.Common.{◌≡◌, ◌≢◌, ℕ, List, ◌-◌, All, true, [], ◌++◌, ◌<◌, ◌≤◌, take, length, sym, subst, ◌∙◌, rules, arith, append-nil, length-take-le, take-take}
use Rattle.std.proofs.lemmas.Bool.{eqb-true, ltb-true}
use Rattle.std.proofs.lemmas.List.Elements.{All-nil, All-take}
use Rattle.std.specs.Io.BufRead.{FillKeeps, DropsConsumable}
use Rattle.std.proofs.KnownBytes.{Consumes-nil, Consumes-kept}
use Rattle.std.proofs.BufReadLemmas.{Consumes_shown}
use Rattle.std.proofs.Transfers.{StopsAt-take}
use Rattle.text.proofs.input.append_held.Goals.{then-before-gt0, else-before-gt0}
use Rattle.text.proofs.input.append_held.Goals as goal

-- no byte before a place in the first m bytes is in the first k either
none_before : (shown : List ℕ) (m before k : ℕ) → before ≤ m → k ≤ before → All (λ x. x ≢ 10) (take before (take m shown)) → All (λ x. x ≢ 10) (take k shown)
none_before shown m before k in_m in_before none =
    subst (All (λ x. x ≢ 10)) (take-take k before shown in_before)
    (All-take (λ x. x ≢ 10) k (take before shown) (subst (All (λ x. x ≢ 10)) (take-take before m shown in_m) none))

pub returns-in_default : goal.returns-in_default
returns-in_default g c =
    ([], sym (append-nil c.args.line.now.items), search rules, Consumes-kept _ _ _ [] (Consumes-nil _) c.fill_buf.follows.holds-at-none.0, All-nil (λ x. x ≢ 10), λ more. absurd (search rules))

pub returns-in_err-extend_from_slice : goal.returns-in_err-extend_from_slice
returns-in_err-extend_from_slice g c =
    ([], c.in_err-extend_from_slice.ensures.items ∙ sym (append-nil c.args.line.now.items), search rules, Consumes-kept _ _ _ [] (Consumes-nil _) c.fill_buf.follows.holds-at-none.0, All-nil (λ x. x ≢ 10), λ more. absurd (search rules))

pub returns : goal.returns
returns g c =
    let shown = c.in-Ok.held.now in
    let m = c.min.result in
    let before = c.len_before-before.result in
    let end = c.min-end.result in
    let long : length (take m shown) ≡ m = length-take-le m shown (omega arith) in
    let within : end ≤ length shown = omega arith in
    let rested = c.fill_buf.follows.lender-at-none in
    let filled = subst (FillKeeps _ (g.R.Read.remaining rested) (g.R.BufRead.consumable_len rested)) c.in-Ok.is c.fill_buf.follows.holds-at-none in
    let same : c.if-before-gt0.from ≡ rested = search rules in
    let drops = subst (λ r. DropsConsumable (g.R.Read.remaining r) (g.R.Read.remaining c.consume.new.self) (g.R.BufRead.consumable_len r) end) same c.consume.ensures.bytes in
    let moved = Consumes_shown _ _ _ _ shown end within c.in-Ok.ensures.front c.in-Ok.ensures.end filled.0 filled.1 drops in (
      take end shown,
      subst (λ l. c.extend_from_slice.new.self.items ≡ c.args.line.now.items ++ l) (take-take end m shown (omega arith)) c.in_ok-extend_from_slice.ensures.items,
      omega (arith, length-take-le end shown within),
      moved.0,
      StopsAt-take shown 10 end within (none_before shown m before (end - 1) (omega arith) (omega arith) c.len_before-before.ensures.before),
      λ more.
          let goes : c.if-before-gt0.goes_on ≡ true = cc more in
          elim c.if-before-gt0.branch [
            | then-before-gt0 w ↦
                let whole : before ≡ length (take m shown) = eqb-true before (length (take m shown)) (sym w.goes_on-is ∙ goes) in
                let ends : end ≡ before = omega arith in
                (omega (arith, w.if-before-gt0.true, length-take-le end shown within), none_before shown m before end (omega arith) (omega arith) c.len_before-before.ensures.before)
            | else-before-gt0 w ↦
                let some : 0 < before = ltb-true 0 before (sym w.goes_on-is ∙ goes) in
                absurd (omega arith)
          ],
    )
