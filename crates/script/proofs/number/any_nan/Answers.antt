use Rattle.std.proofs.Common.{ℕ, ◌+◌, ◌*◌, Bool, sym, ◌∙◌, arith}
use Rattle.bits.proofs.Loops.{any_pass, any_stop, any_end}
use Rattle.script.proofs.number.any_nan.Goals as goal

pub returns-then-nan_at : goal.returns-then-nan_at
returns-then-nan_at g c =
    let p : ℕ → Bool = λ k. g.F.Pattern.nan (g.F.Pattern.pattern_at c.args.p.now (c.args.at + g.F.Pattern.SIZE * k)) in
    sym (any_stop p c.args.n c.loop-i.i (omega arith) (sym (rw c.SIZE.ensures at c.nan_at.ensures) ∙ c.if-nan_at.true)) ∙ c.loop-i.invariant

pub loop-i-preserved : goal.loop-i-preserved
loop-i-preserved g c =
    let p : ℕ → Bool = λ k. g.F.Pattern.nan (g.F.Pattern.pattern_at c.args.p.now (c.args.at + g.F.Pattern.SIZE * k)) in
    sym (any_pass p c.args.n c.loop-i.i (omega arith) (sym (rw c.SIZE.ensures at c.nan_at.ensures) ∙ c.if-nan_at.false)) ∙ c.loop-i.invariant

pub returns : goal.returns
returns g c =
    let p : ℕ → Bool = λ k. g.F.Pattern.nan (g.F.Pattern.pattern_at c.args.p.now (c.args.at + g.F.Pattern.SIZE * k)) in
    sym (any_end p c.args.n c.loop-i.i (omega arith)) ∙ c.loop-i.invariant
