-- `words::payload_byte` meets its contract. Assumes nothing.
use mathlib.Core.Path.{sym, ap, ◌∙◌}
use native.Mathlib.Omega.{arith}
use Prim.Native.Nat.{ℕ, ◌%◌}
use Rattle.words.specs.Words.{byte_of}
use Rattle.words.proofs.Read.{byte_at_lem, byte_none}
use Rattle.words.proofs.payload_byte.Goals as goal

pub returns-then-words-at : goal.returns-then-words-at
returns-then-words-at c = let a = c.args in sym (byte_none a.words.now a.at a.j (omega arith))

pub returns : goal.returns
returns c =
    let a = c.args in
    c.byte_of.ensures ∙ ap (λ (w : ℕ). byte_of w (a.j % 3)) c.word_or_zero.ensures ∙ byte_at_lem a.words.now a.at a.j
